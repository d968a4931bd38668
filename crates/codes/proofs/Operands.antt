-- Operands by their codes: the same operand, the place that it names, cells in a row, constants, and what kind of operand it is.
use mathlib.Core.Path.{◌≡◌, refl}
use mathlib.Core.Bool.{true, false, ◌&&◌}
use Prim.Native.Nat.{ℕ, ◌+◌, ◌*◌}
use native.Mathlib.Omega.{arith}
use lib.Dec.{eqb}
use borrow.Author.Tests.{le-ltb, le-leb}
use Rattle.meaning.specs.declared.Place.{Place}
use Rattle.meaning.specs.declared.Operand.{Operand}
use Rattle.meaning.specs.declared.Operand.TheVariants.{Nothing, Constant, Held}
use Rattle.meaning.specs.Block.{names, operands_in_row, cell_operand}
use Rattle.meaning.specs.Estimate.{constants}
use Rattle.meaning.specs.Emission.{same_operand}
use Rattle.codes.specs.Codes.{place_code, operand_code, codes_in_row, is_cell_code, is_constant_code, is_variable_code, cell_code}
use Rattle.codes.specs.Fitting.{place_fits, operand_fits}
use Rattle.codes.proofs.Equal.{together, never}
use Rattle.codes.proofs.Places.{from_two, below_2569, same_codes_lem, row_codes, cells_of_place, place_not_constant}

pub name_codes : (o : Operand) (p : Place) → operand_fits o ≡ true → place_fits p ≡ true → names o p ≡ eqb (operand_code o) (place_code p)
name_codes Nothing p f g = never 0 (place_code p) (λ (e : 0 ≡ place_code p). omega (arith, from_two p))
name_codes (Constant c) p f g =
    never (operand_code (Constant c)) (place_code p) (λ (e : 4294967296 + 2 * c ≡ place_code p). omega (arith, below_2569 p g))
name_codes (Held q) p f g = same_codes_lem q p f g

pub operand_codes : (o q : Operand) → operand_fits o ≡ true → operand_fits q ≡ true → same_operand o q ≡ eqb (operand_code o) (operand_code q)
operand_codes Nothing Nothing f g = refl
operand_codes Nothing (Constant d) f g = never 0 (operand_code (Constant d)) (λ (e : 0 ≡ 4294967296 + 2 * d). omega arith)
operand_codes Nothing (Held q) f g = name_codes Nothing q f g
operand_codes (Constant c) Nothing f g = never (operand_code (Constant c)) 0 (λ (e : 4294967296 + 2 * c ≡ 0). omega arith)
operand_codes (Constant c) (Constant d) f g =
    together c d (operand_code (Constant c)) (operand_code (Constant d)) (λ (e : c ≡ d). omega arith)
    (λ (e : 4294967296 + 2 * c ≡ 4294967296 + 2 * d). omega arith)
operand_codes (Constant c) (Held q) f g = name_codes (Constant c) q f g
operand_codes (Held p) Nothing f g = never (place_code p) 0 (λ (e : place_code p ≡ 0). omega (arith, from_two p))
operand_codes (Held p) (Constant d) f g =
    never (place_code p) (operand_code (Constant d)) (λ (e : place_code p ≡ 4294967296 + 2 * d). omega (arith, below_2569 p f))
operand_codes (Held p) (Held q) f g = same_codes_lem p q f g

pub operands_row : (o q : Operand) → operand_fits o ≡ true → operand_fits q ≡ true → operands_in_row o q ≡ codes_in_row (operand_code o) (operand_code q)
operands_row Nothing Nothing f g = never 0 (0 + 1) (λ (e : 0 ≡ 0 + 1). omega arith)
operands_row Nothing (Constant d) f g = never (operand_code (Constant d)) (0 + 1) (λ (e : 4294967296 + 2 * d ≡ 0 + 1). omega arith)
operands_row Nothing (Held q) f g = never (place_code q) (0 + 1) (λ (e : place_code q ≡ 0 + 1). omega (arith, from_two q))
operands_row (Constant c) Nothing f g =
    never 0 (operand_code (Constant c) + 1) (λ (e : 0 ≡ 4294967296 + 2 * c + 1). omega arith)
operands_row (Constant c) (Constant d) f g =
    never (operand_code (Constant d)) (operand_code (Constant c) + 1) (λ (e : 4294967296 + 2 * d ≡ 4294967296 + 2 * c + 1). omega arith)
operands_row (Constant c) (Held q) f g =
    never (place_code q) (operand_code (Constant c) + 1) (λ (e : place_code q ≡ 4294967296 + 2 * c + 1). omega (arith, below_2569 q g))
operands_row (Held p) Nothing f g = never 0 (place_code p + 1) (λ (e : 0 ≡ place_code p + 1). omega arith)
operands_row (Held p) (Constant d) f g =
    never (operand_code (Constant d)) (place_code p + 1) (λ (e : 4294967296 + 2 * d ≡ place_code p + 1). omega (arith, below_2569 p f))
operands_row (Held p) (Held q) f g = row_codes p q f g

-- the kinds of what is held are those of its place; of the others:
pub constant_is_constant : (c : ℕ) → is_constant_code (operand_code (Constant c)) ≡ true
constant_is_constant c = le-leb 4294967296 (4294967296 + 2 * c) (omega arith)

pub constant_not_cell : (c : ℕ) → is_cell_code (operand_code (Constant c)) ≡ false
constant_not_cell c = rw (le-leb 514 (4294967296 + 2 * c) (omega arith), le-ltb (4294967296 + 2 * c) 4294967296 (omega arith))

pub constant_not_variable : (c : ℕ) → is_variable_code (operand_code (Constant c)) ≡ false
constant_not_variable c = rw (le-leb 2 (4294967296 + 2 * c) (omega arith), le-ltb (4294967296 + 2 * c) 514 (omega arith))

pub cells_of_operand : (o : Operand) → operand_fits o ≡ true → cell_operand o ≡ cell_code (operand_code o)
cells_of_operand Nothing f = refl
cells_of_operand (Constant c) f = rw (constant_not_cell c)
cells_of_operand (Held p) f = cells_of_place p f

pub constant_codes : (o q : Operand) → operand_fits o ≡ true → operand_fits q ≡ true
    → constants o q ≡ is_constant_code (operand_code o) && is_constant_code (operand_code q)
constant_codes Nothing q f g = refl
constant_codes (Constant c) Nothing f g = rw (constant_is_constant c)
constant_codes (Constant c) (Constant d) f g = rw (constant_is_constant c, constant_is_constant d)
constant_codes (Constant c) (Held q) f g = rw (constant_is_constant c, place_not_constant q g)
constant_codes (Held p) q f g = rw (place_not_constant p f)
