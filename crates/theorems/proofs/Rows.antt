-- Tuples that are ascending neighbours of one array, or constants: what they say is all that they hold.
use mathlib.Core.Path.{◌≡◌, refl, sym, ap, ap₂, subst, ◌∙◌}
use mathlib.Core.Bool.{true, false, ◌&&◌, false≢true}
use mathlib.Core.Option.{Option, none, some}
use mathlib.Core.List.{List, [], ◌∷◌, map}
use Prim.Native.Nat.{ℕ, suc, ◌+◌, ◌<◌}
use native.Mathlib.Omega.{arith}
use lib.Dec.{eqb}
use lib.ListN.{length}
use borrow.Author.Tests.{eqb-true}
use Rattle.basics.proofs.Tests.{and_left, and_right}
use Rattle.basics.proofs.Parts.{pick_holds}
use Rattle.meaning.specs.declared.Place.TheVariants.{Variable, Cell}
use Rattle.meaning.specs.declared.Operand.{Operand}
use Rattle.meaning.specs.declared.Operand.TheVariants.{Nothing, Constant, Held}
use Rattle.meaning.specs.Card.{row}
use Rattle.meaning.specs.Emission.{are_in_row, row_start, with_constant, constants_of}

neighbours : (a i : ℕ) (rest : List Operand) → are_in_row (Held (Cell a i) ∷ rest) ≡ true → Held (Cell a i) ∷ rest ≡ map Held (row (suc (length rest)) a i)
neighbours a i [] e = refl
neighbours a i (Nothing ∷ rest) e = absurd (false≢true (and_left false (are_in_row (Nothing ∷ rest)) e))
neighbours a i (Constant c ∷ rest) e = absurd (false≢true (and_left false (are_in_row (Constant c ∷ rest)) e))
neighbours a i (Held (Variable v) ∷ rest) e = absurd (false≢true (and_left false (are_in_row (Held (Variable v) ∷ rest)) e))
neighbours a i (Held (Cell b j) ∷ rest) e =
    let next : eqb a b && eqb j (i + 1) ≡ true = and_left (eqb a b && eqb j (i + 1)) _ e in
    let array : a ≡ b = eqb-true a b (and_left (eqb a b) _ next) in
    let index : j ≡ i + 1 = eqb-true j (i + 1) (and_right (eqb a b) _ next) in
    ap (λ (others : List Operand). Held (Cell a i) ∷ others)
    (neighbours b j rest (and_right (eqb a b && eqb j (i + 1)) _ e)
    ∙ ap₂ (λ (array' index' : ℕ). map Held (row (suc (length rest)) array' index')) (sym array) index)

-- "ascending neighbours of one array: the array and the first index"
pub record Row (tuple : List Operand) (beginning : ℕ × ℕ) : Type 0 where
  pub is : tuple ≡ map Held (row (length tuple) beginning.0 beginning.1)
  pub some_lane : 0 < length tuple

abbrev RowIs : List Operand → Option (ℕ × ℕ) → Type 0
RowIs tuple none = Unit
RowIs tuple (some beginning) = Row tuple beginning

row_is : (tuple : List Operand) → RowIs tuple (row_start tuple)
row_is [] = tt
row_is (Nothing ∷ rest) = tt
row_is (Constant c ∷ rest) = tt
row_is (Held (Variable v) ∷ rest) = tt
row_is (Held (Cell a i) ∷ rest) =
    pick_holds (RowIs (Held (Cell a i) ∷ rest)) (are_in_row (Held (Cell a i) ∷ rest)) (some (a, i)) none
    (λ e. record { is = neighbours a i rest e; some_lane = omega arith }) (λ e. tt)

-- the constants of a tuple
abbrev ConstantsAre : List Operand → Option (List ℕ) → Type 0
ConstantsAre tuple none = Unit
ConstantsAre tuple (some cs) = tuple ≡ map Constant cs

one_constant : (c : ℕ) (rest : List Operand) (cs : Option (List ℕ)) → ConstantsAre rest cs → ConstantsAre (Constant c ∷ rest) (with_constant c cs)
one_constant c rest none h = tt
one_constant c rest (some cs) h = ap (λ (others : List Operand). Constant c ∷ others) h

constants_are : (tuple : List Operand) → ConstantsAre tuple (constants_of tuple)
constants_are [] = refl
constants_are (Nothing ∷ rest) = tt
constants_are (Constant c ∷ rest) = one_constant c rest (constants_of rest) (constants_are rest)
constants_are (Held p ∷ rest) = tt

-- A tuple with a row's start is that row; a tuple with constants is those constants.
pub row_tuple : (tuple : List Operand) (beginning : ℕ × ℕ) → row_start tuple ≡ some beginning → Row tuple beginning
row_tuple tuple beginning e = subst (RowIs tuple) e (row_is tuple)

pub constants_tuple : (tuple : List Operand) (cs : List ℕ) → constants_of tuple ≡ some cs → tuple ≡ map Constant cs
constants_tuple tuple cs e = subst (ConstantsAre tuple) e (constants_are tuple)
