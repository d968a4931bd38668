-- What running a block does: the values of the operations, the contents lent, and a statement and a block at work on them.
use Rattle.std.specs.Prelude.{ℕ, ◌+◌, ◌*◌, ◌-◌, ◌/◌, ◌%◌, ◌^◌, Bool, ◌&&◌, List, [], ◌∷◌, eqb, length, get_or, take, set}
use Rattle.std.specs.Int.Bits.{bit_and, bit_or, bit_xor}
use Rattle.basics.specs.Lists.{sum, each}
use Rattle.meaning.specs.declared.Place.{Place}
use Rattle.meaning.specs.declared.Place.TheVariants.{Variable, Cell}
use Rattle.meaning.specs.declared.Operand.{Operand}
use Rattle.meaning.specs.declared.Operand.TheVariants.{Nothing, Constant, Held}
use Rattle.meaning.specs.declared.Statement.{Statement}
use Rattle.meaning.specs.Block.{Block}

-- "0 copy (one operand), 1 add, 2 subtract, 3 multiply, 4 and, 5 or, 6 exclusive or, 7 shift right. Results of 1 to 3 are taken modulo 2^32.
-- The shift count is the right operand modulo 32."
unfoldable pub operate : ℕ → ℕ → ℕ → ℕ
operate operation a b =
    get_or
    (a
    ∷ (a + b) % 2 ^ 32
    ∷ (a + (2 ^ 32 - b)) % 2 ^ 32
    ∷ a * b % 2 ^ 32
    ∷ bit_and a b
    ∷ bit_or a b
    ∷ bit_xor a b
    ∷ a / 2 ^ (b % 32)
    ∷ [])
    operation 0

-- "All values are unsigned 32-bit": the variables and the cells that a caller lends are, and every operation keeps them so (proofs/Values)
pub record Contents : Type 0 where
  pub variables : List ℕ
  pub cells : List ℕ

-- "In lent memory the cells stand array after array."
abbrev pub cell_at : List ℕ → ℕ → ℕ → ℕ
cell_at lengths array index = sum (take array lengths) + index

-- "variables or cells lent are not exactly as many as declared" is 6
abbrev pub right_size : Block → Contents → Bool
right_size b m = eqb (length m.variables) b.variables && eqb (length m.cells) (sum b.lengths)

abbrev pub fetch_place : List ℕ → Contents → Place → ℕ
fetch_place lengths m (Variable v) = get_or m.variables v 0
fetch_place lengths m (Cell a i) = get_or m.cells (cell_at lengths a i) 0

abbrev pub fetch : List ℕ → Contents → Operand → ℕ
fetch lengths m Nothing = 0
fetch lengths m (Constant c) = c
fetch lengths m (Held p) = fetch_place lengths m p

abbrev pub store : List ℕ → Place → ℕ → Contents → Contents
store lengths (Variable v) n m = record { variables = set m.variables v n; cells = m.cells }
store lengths (Cell a i) n m = record { variables = m.variables; cells = set m.cells (cell_at lengths a i) n }

unfoldable pub run_statement : List ℕ → Statement → Contents → Contents
run_statement lengths s m = store lengths s.destination (operate s.operation (fetch lengths m s.left) (fetch lengths m s.right)) m

-- A block is run statement by statement.
unfoldable pub run_block : Block → Contents → Contents
run_block b m = each (run_statement b.lengths) b.statements m
