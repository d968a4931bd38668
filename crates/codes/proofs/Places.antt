-- Places by their codes: the same place, cells in a row, and what kind of place it is.
use mathlib.Core.Path.{◌≡◌}
use mathlib.Core.Bool.{true, false, not}
use Prim.Native.Nat.{ℕ, ◌+◌, ◌*◌, ◌≤◌, ◌<◌}
use native.Mathlib.Omega.{arith}
use lib.Dec.{eqb, ltb}
use borrow.Author.Tests.{ltb-true, lt-ltb, le-ltb, le-leb, lt-leb}
use Rattle.basics.proofs.Tests.{and_left, and_right}
use Rattle.meaning.specs.declared.Place.{Place}
use Rattle.meaning.specs.declared.Place.TheVariants.{Variable, Cell}
use Rattle.meaning.specs.Block.{same, in_row, is_variable, cell_place}
use Rattle.codes.specs.Codes.{place_code, codes_in_row, is_cell_code, is_constant_code, is_variable_code, cell_code}
use Rattle.codes.specs.Fitting.{place_fits}
use Rattle.codes.proofs.Equal.{together, both_together, never}

pub array_fits : (a i : ℕ) → place_fits (Cell a i) ≡ true → a < 8
array_fits a i f = ltb-true a 8 (and_left (ltb a 8) (ltb i 256) f)

pub index_fits : (a i : ℕ) → place_fits (Cell a i) ≡ true → i < 256
index_fits a i f = ltb-true i 256 (and_right (ltb a 8) (ltb i 256) f)

pub variable_fits : (v : ℕ) → place_fits (Variable v) ≡ true → v < 32
variable_fits v f = ltb-true v 32 f

-- the codes of places: from 2 on, a cell's from 514 on, all below 2569
pub from_two : (p : Place) → 2 ≤ place_code p
from_two (Variable v) = omega arith
from_two (Cell a i) = omega arith

pub below_2569 : (p : Place) → place_fits p ≡ true → place_code p < 2569
below_2569 (Variable v) f = omega (arith, variable_fits v f)
below_2569 (Cell a i) f = omega (arith, array_fits a i f, index_fits a i f)

pub same_codes_lem : (p q : Place) → place_fits p ≡ true → place_fits q ≡ true → same p q ≡ eqb (place_code p) (place_code q)
same_codes_lem (Variable v) (Variable w) f g =
    together v w (place_code (Variable v)) (place_code (Variable w)) (λ (e : v ≡ w). omega arith) (λ (e : 2 + 2 * v ≡ 2 + 2 * w). omega arith)
same_codes_lem (Variable v) (Cell b j) f g =
    never (place_code (Variable v)) (place_code (Cell b j)) (λ (e : 2 + 2 * v ≡ 514 + 257 * b + j). omega (arith, variable_fits v f))
same_codes_lem (Cell a i) (Variable w) f g =
    never (place_code (Cell a i)) (place_code (Variable w)) (λ (e : 514 + 257 * a + i ≡ 2 + 2 * w). omega (arith, variable_fits w g))
same_codes_lem (Cell a i) (Cell b j) f g =
    let small-i = index_fits a i f in
    let small-j = index_fits b j g in
    both_together a b i j (place_code (Cell a i)) (place_code (Cell b j))
    (λ (e : a ≡ b) (h : i ≡ j). omega arith)
    (λ (e : 514 + 257 * a + i ≡ 514 + 257 * b + j). omega arith)
    (λ (e : 514 + 257 * a + i ≡ 514 + 257 * b + j). omega arith)

pub row_codes : (p q : Place) → place_fits p ≡ true → place_fits q ≡ true → in_row p q ≡ codes_in_row (place_code p) (place_code q)
row_codes (Variable v) (Variable w) f g =
    never (place_code (Variable w)) (place_code (Variable v) + 1) (λ (e : 2 + 2 * w ≡ 2 + 2 * v + 1). omega arith)
row_codes (Variable v) (Cell b j) f g =
    never (place_code (Cell b j)) (place_code (Variable v) + 1) (λ (e : 514 + 257 * b + j ≡ 2 + 2 * v + 1). omega (arith, variable_fits v f))
row_codes (Cell a i) (Variable w) f g =
    never (place_code (Variable w)) (place_code (Cell a i) + 1) (λ (e : 2 + 2 * w ≡ 514 + 257 * a + i + 1). omega (arith, variable_fits w g))
row_codes (Cell a i) (Cell b j) f g =
    let small-i = index_fits a i f in
    let small-j = index_fits b j g in
    both_together a b j (i + 1) (place_code (Cell b j)) (place_code (Cell a i) + 1)
    (λ (e : a ≡ b) (h : j ≡ i + 1). omega arith)
    (λ (e : 514 + 257 * b + j ≡ 514 + 257 * a + i + 1). omega arith)
    (λ (e : 514 + 257 * b + j ≡ 514 + 257 * a + i + 1). omega arith)

-- the kinds
pub variable_code : (p : Place) → place_fits p ≡ true → is_variable_code (place_code p) ≡ is_variable p
variable_code (Variable v) f =
    let small = variable_fits v f in
    rw (le-leb 2 (2 + 2 * v) (omega arith), lt-ltb (2 + 2 * v) 514 (omega arith))
variable_code (Cell a i) f = rw (le-leb 2 (514 + 257 * a + i) (omega arith), le-ltb (514 + 257 * a + i) 514 (omega arith))

pub cell_code_lem : (p : Place) → place_fits p ≡ true → is_cell_code (place_code p) ≡ not (is_variable p)
cell_code_lem (Variable v) f =
    let small = variable_fits v f in
    rw (lt-leb 514 (2 + 2 * v) (omega arith))
cell_code_lem (Cell a i) f =
    let small = below_2569 (Cell a i) f in
    rw (le-leb 514 (514 + 257 * a + i) (omega arith), lt-ltb (514 + 257 * a + i) 4294967296 (omega arith))

pub cells_of_place : (p : Place) → place_fits p ≡ true → cell_place p ≡ cell_code (place_code p)
cells_of_place (Variable v) f = rw (cell_code_lem (Variable v) f)
cells_of_place (Cell a i) f = rw (cell_code_lem (Cell a i) f)

pub place_not_constant : (p : Place) → place_fits p ≡ true → is_constant_code (place_code p) ≡ false
place_not_constant p f = lt-leb 4294967296 (place_code p) (omega (arith, below_2569 p f))
