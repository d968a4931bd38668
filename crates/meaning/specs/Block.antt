-- "The block": what a block declares, its places, operands and statements, and what a statement costs.
use Rattle.std.specs.Prelude.{ℕ, ◌+◌, Bool, true, false, ◌&&◌, ◌||◌, List, [], ◌∷◌, map, eqb, ltb, length, get_or, take}
use Rattle.basics.specs.Choice.{pick}
use Rattle.basics.specs.Lists.{sum}
use Rattle.meaning.specs.declared.Place.{Place}
use Rattle.meaning.specs.declared.Place.TheVariants.{Variable, Cell}
use Rattle.meaning.specs.declared.Operand.{Operand}
use Rattle.meaning.specs.declared.Operand.TheVariants.{Nothing, Constant, Held}
use Rattle.meaning.specs.declared.Statement.{Statement}
use Rattle.meaning.specs.declared.Block.{Block as Slots}

-- "A block has up to 32 variables, of which the first so many are live out; up to 8 arrays of 1 to 256 cells; and 0 to 64 statements."
pub record Block : Type 0 where
  pub variables : ℕ
  pub live : ℕ
  pub lengths : List ℕ
  pub statements : List Statement

-- what a block in memory declares: as many lengths and statements as its counts say
abbrev pub declared : Slots → Block
declared b =
    record {
      variables = b.variables;
      live = b.live;
      lengths = take b.arrays b.lengths;
      statements = take b.count b.statements;
    }

-- what stands in a slot that is not declared
abbrev pub blank : Statement
blank = record { operation = 0; destination = Variable 0; left = Nothing; right = Nothing }

-- statement number s, counted from 0
abbrev pub statement : List Statement → ℕ → Statement
statement ss s = get_or ss s blank

-- two places are the same; "arrays never overlap"
abbrev pub same : Place → Place → Bool
same (Variable v) (Variable w) = eqb v w
same (Variable v) (Cell a i) = false
same (Cell a i) (Variable v) = false
same (Cell a i) (Cell b j) = eqb a b && eqb i j

abbrev pub is_variable : Place → Bool
is_variable (Variable v) = true
is_variable (Cell a i) = false

-- the operand is this place
abbrev pub names : Operand → Place → Bool
names Nothing p = false
names (Constant c) p = false
names (Held q) p = same q p

-- the statement reads this place
abbrev pub reads : Statement → Place → Bool
reads s p = names s.left p || names s.right p

-- cells of one array, the second's index one above the first's
abbrev pub in_row : Place → Place → Bool
in_row (Variable v) q = false
in_row (Cell a i) (Variable v) = false
in_row (Cell a i) (Cell b j) = eqb a b && eqb j (i + 1)

abbrev pub operands_in_row : Operand → Operand → Bool
operands_in_row Nothing o = false
operands_in_row (Constant c) o = false
operands_in_row (Held p) Nothing = false
operands_in_row (Held p) (Constant c) = false
operands_in_row (Held p) (Held q) = in_row p q

-- a statement's operands, by position: a copy has only a left one
pub data Position : Type 0 where
  left right : Position

abbrev pub operand : Position → Statement → Operand
operand left s = s.left
operand right s = s.right

-- "0 copy (one operand)"
abbrev pub is_copy : Statement → Bool
is_copy s = eqb s.operation 0

abbrev pub positions : Statement → List Position
positions s = pick (is_copy s) (left ∷ []) (left ∷ right ∷ [])

-- 1 for a cell, else 0
abbrev pub cell_place : Place → ℕ
cell_place (Variable v) = 0
cell_place (Cell a i) = 1

abbrev pub cell_operand : Operand → ℕ
cell_operand Nothing = 0
cell_operand (Constant c) = 0
cell_operand (Held p) = cell_place p

-- the price of S: "cell operands + 1, + 1 if it writes a cell"; cell operands are counted by position
abbrev pub statement_price : Statement → ℕ
statement_price s = cell_operand s.left + cell_operand s.right + 1 + cell_place s.destination

-- "The price of a block is the sum of its statements' S prices."
unfoldable pub block_price : List Statement → ℕ
block_price ss = sum (map statement_price ss)

-- "variable, array or index not declared" is 5
abbrev pub declares_place : ℕ → List ℕ → Place → Bool
declares_place variables lengths (Variable v) = ltb v variables
declares_place variables lengths (Cell a i) = ltb a (length lengths) && ltb i (get_or lengths a 0)

abbrev pub declares_operand : ℕ → List ℕ → Operand → Bool
declares_operand variables lengths Nothing = true
declares_operand variables lengths (Constant c) = true
declares_operand variables lengths (Held p) = declares_place variables lengths p

abbrev pub declares_statement : ℕ → List ℕ → Statement → Bool
declares_statement variables lengths s =
    declares_place variables lengths s.destination
    && declares_operand variables lengths s.left
    && declares_operand variables lengths s.right
