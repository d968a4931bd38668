-- From the codes back to what they stand for.
use mathlib.Core.Path.{◌≡◌}
use mathlib.Core.Bool.{true}
use Prim.Native.Nat.{ℕ, ◌-◌, ◌/◌, ◌%◌}
use native.Mathlib.Omega.{arith}
use Rattle.meaning.specs.declared.Place.TheVariants.{Variable, Cell}
use Rattle.meaning.specs.declared.Operand.TheVariants.{Constant}
use Rattle.codes.specs.Codes.{place_code, operand_code}
use Rattle.codes.specs.Fitting.{place_fits}
use Rattle.codes.proofs.Places.{array_fits, index_fits, variable_fits}

pub array_back : (a i : ℕ) → place_fits (Cell a i) ≡ true → (place_code (Cell a i) - 514) / 257 % 256 ≡ a
array_back a i f =
    let small-a = array_fits a i f in
    let small-i = index_fits a i f in
    let e : (place_code (Cell a i) - 514) / 257 ≡ a = omega arith in
    rw e (omega arith)

pub index_back : (a i : ℕ) → place_fits (Cell a i) ≡ true → (place_code (Cell a i) - 514) % 257 % 256 ≡ i
index_back a i f =
    let small-a = array_fits a i f in
    let small-i = index_fits a i f in
    let e : (place_code (Cell a i) - 514) % 257 ≡ i = omega arith in
    rw e (omega arith)

pub variable_back : (v : ℕ) → place_fits (Variable v) ≡ true → (place_code (Variable v) - 2) / 2 % 256 ≡ v
variable_back v f =
    let small = variable_fits v f in
    let e : (place_code (Variable v) - 2) / 2 ≡ v = omega arith in
    rw e (omega arith)

pub constant_back : (c : ℕ) → (operand_code (Constant c) - 4294967296) / 2 ≡ c
constant_back c = omega arith
