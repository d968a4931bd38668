-- How long things are: the bytes of a place, an operand and a statement, as many as their width says; cells in a row; lanes that are worked
-- on; and S for every statement.
use mathlib.Core.Path.{◌≡◌, refl, ap, ◌∙◌}
use mathlib.Core.List.{List, [], ◌∷◌, ◌++◌}
use Prim.Native.Nat.{ℕ, zero, suc, ◌+◌}
use native.Mathlib.Omega.{arith}
use lib.ListN.{length, length-append}
use Rattle.meaning.specs.declared.Place.{Place}
use Rattle.meaning.specs.declared.Place.TheVariants.{Variable, Cell}
use Rattle.meaning.specs.declared.Operand.{Operand}
use Rattle.meaning.specs.declared.Operand.TheVariants.{Nothing, Constant, Held}
use Rattle.meaning.specs.declared.Statement.{Statement}
use Rattle.meaning.specs.Format.{place_bytes, operand_bytes, place_width, operand_width, statement_bytes, statement_width}
use Rattle.meaning.specs.Card.{row, operate_lanes}
use Rattle.meaning.specs.Choice.{plain_from}

pub place_length : (p : Place) → length (place_bytes p) ≡ place_width p
place_length (Variable v) = refl
place_length (Cell a i) = refl

pub operand_length : (o : Operand) → length (operand_bytes o) ≡ operand_width o
operand_length Nothing = refl
operand_length (Constant c) = refl
operand_length (Held p) = place_length p

pub statement_length : (s : Statement) → length (statement_bytes s) ≡ statement_width s
statement_length s =
    let d = place_length s.destination in
    let l = operand_length s.left in
    let r = operand_length s.right in
    ap suc (length-append (place_bytes s.destination ++ operand_bytes s.left) (operand_bytes s.right))
    ∙ omega (arith, length-append (place_bytes s.destination) (operand_bytes s.left))

-- "k cells in a row"
pub row_length : (k a i : ℕ) → length (row k a i) ≡ k
row_length zero a i = refl
row_length (suc k) a i = ap suc (row_length k a (i + 1))

-- "works lane by lane"
pub operate_length : (operation : ℕ) (lanes others : List ℕ) → length (operate_lanes operation lanes others) ≡ length lanes
operate_length operation [] others = refl
operate_length operation (a ∷ lanes) [] = ap suc (operate_length operation lanes [])
operate_length operation (a ∷ lanes) (b ∷ others) = ap suc (operate_length operation lanes others)

-- "S for every statement in block order"
pub plain_length : (n i : ℕ) → length (plain_from n i) ≡ n
plain_length zero i = refl
plain_length (suc n) i = ap suc (plain_length n (i + 1))
