-- "Estimate": what a pair would save, from what its positions and its destination would cost.
use Rattle.std.specs.Prelude.{ℕ, ◌+◌, ◌-◌, Bool, true, false, ◌||◌, List, map, leb}
use Rattle.std.proofs.Math.Option.{Option, none, some}
use Rattle.basics.specs.Choice.{pick}
use Rattle.basics.specs.Counting.{count}
use Rattle.basics.specs.Lists.{any, sum}
use Rattle.meaning.specs.declared.Place.{Place}
use Rattle.meaning.specs.declared.Place.TheVariants.{Variable, Cell}
use Rattle.meaning.specs.declared.Operand.{Operand}
use Rattle.meaning.specs.declared.Operand.TheVariants.{Nothing, Constant, Held}
use Rattle.meaning.specs.declared.Statement.{Statement}
use Rattle.meaning.specs.Block.{statement, statement_price, same, in_row, operands_in_row, Position, left, right, operand, positions, cell_operand}
use Rattle.meaning.specs.Pairs.{Pair, pair, same_pair, is_admitted}

-- the last definition of a place "in the block before its reader": the last statement before it that writes the place
unfoldable pub last_writer : List Statement → ℕ → Place → Option ℕ
last_writer ss reader p = count reader 0 (λ s found. pick (same (statement ss s).destination p) (some s) found) none

-- the last definition of an operand, where that is a variable and has one
abbrev pub definition : List Statement → ℕ → Operand → Option ℕ
definition ss reader Nothing = none
definition ss reader (Constant c) = none
definition ss reader (Held (Variable v)) = last_writer ss reader (Variable v)
definition ss reader (Held (Cell a i)) = none

abbrev pub both_defined : Option ℕ → Option ℕ → Option Pair
both_defined none other = none
both_defined (some s) none = none
both_defined (some s) (some t) = some (pair s t)

-- "where both operands are variables and each has a definition in the block before its reader", the pair of the last such definitions
unfoldable pub definitions : List Statement → Position → Pair → Option Pair
definitions ss position p =
    both_defined
    (definition ss p.left (operand position (statement ss p.left)))
    (definition ss p.right (operand position (statement ss p.right)))

abbrev pub is_pair : (Pair → Bool) → Option Pair → Bool
is_pair test none = false
is_pair test (some p) = test p

-- both are constants
abbrev pub constants : Operand → Operand → Bool
constants Nothing o = false
constants (Constant c) Nothing = false
constants (Constant c) (Constant d) = true
constants (Constant c) (Held p) = false
constants (Held p) o = false

-- "Position: 1 for cells in a row or two constants; 0 for variables whose last definitions are, in this order, an admitted pair; else 2 plus
-- its cell lanes."
abbrev pub operands_cost : Operand → Operand → Bool → ℕ
operands_cost o other defined =
    pick (operands_in_row o other || constants o other) 1 (pick defined 0 (2 + cell_operand o + cell_operand other))

abbrev pub position_cost : List Statement → List Pair → Pair → Position → ℕ
position_cost ss pairs p position =
    operands_cost
    (operand position (statement ss p.left))
    (operand position (statement ss p.right))
    (is_pair (is_admitted pairs) (definitions ss position p))

-- an admitted pair that reads, "in this order at one position", what the pair p defines, "with t, t' as last definitions"
abbrev pub reads_together : List Statement → Pair → Pair → Bool
reads_together ss p reader = is_pair (same_pair p) (definitions ss left reader) || is_pair (same_pair p) (definitions ss right reader)

-- "Destination: cells in a row 1, other cells 4; variables 0 if an admitted pair reads them .., else 2."
abbrev pub destination_cost : List Statement → List Pair → Pair → ℕ
destination_cost ss pairs p =
    elim (statement ss p.left).destination [
      | Cell a i ↦ pick (in_row (statement ss p.left).destination (statement ss p.right).destination) 1 4
      | Variable v ↦ pick (any (reads_together ss p) pairs) 0 2
    ]

-- "both S prices, less 1, less each operand position, less the destination": the gain, and what is taken from it
abbrev pub gain : List Statement → Pair → ℕ
gain ss p = statement_price (statement ss p.left) + statement_price (statement ss p.right)

unfoldable pub loss : List Statement → List Pair → Pair → ℕ
loss ss pairs p = 1 + sum (map (position_cost ss pairs p) (positions (statement ss p.left))) + destination_cost ss pairs p

-- "the estimate is 0 or more"; and what it then is
abbrev pub pays : List Statement → List Pair → Pair → Bool
pays ss pairs p = leb (loss ss pairs p) (gain ss p)

abbrev pub estimate : List Statement → List Pair → Pair → ℕ
estimate ss pairs p = gain ss p - loss ss pairs p
