-- Tests that are joined by "and", "or" and "not", taken apart and put together; and a test as a choice between two cases.
use mathlib.Core.Path.{◌≡◌, refl, sym}
use mathlib.Core.Logic.{◌⊎◌, inl, inr, ⊎_map}
use mathlib.Core.Bool.{Bool, true, false, ◌&&◌, ◌||◌}
use Prim.Native.Nat.{ℕ, ◌≤◌, ◌<◌}
use lib.Dec.{ltb, eqb}
use borrow.Author.Tests.{ltb-true, ltb-false, eqb-true, eqb-false, eq-eqb}

-- both parts of a passed "and", and the way back
pub and_left : (a b : Bool) → a && b ≡ true → a ≡ true
and_left true b e = refl
and_left false b e = e

pub and_right : (a b : Bool) → a && b ≡ true → b ≡ true
and_right true b e = e
and_right false true e = refl
and_right false false e = e

pub and_both : (a b : Bool) → a ≡ true → b ≡ true → a && b ≡ true
and_both true b p q = q
and_both false b p q = p

-- one part of a passed "or", and the ways back
pub or_either : (a b : Bool) → a || b ≡ true → (a ≡ true) ⊎ (b ≡ true)
or_either true b e = inl refl
or_either false b e = inr e

pub or_left : (a b : Bool) → a ≡ true → a || b ≡ true
or_left true b e = refl
or_left false true e = refl
or_left false false e = e

pub or_right : (a b : Bool) → b ≡ true → a || b ≡ true
or_right true b e = refl
or_right false b e = e

-- both parts of a failed "or"
pub neither_left : (a b : Bool) → a || b ≡ false → a ≡ false
neither_left true b e = e
neither_left false b e = refl

pub neither_right : (a b : Bool) → a || b ≡ false → b ≡ false
neither_right true true e = e
neither_right true false e = refl
neither_right false b e = e

-- a test passes or fails
pub passes_or_fails : (a : Bool) → (a ≡ true) ⊎ (a ≡ false)
passes_or_fails true = inl refl
passes_or_fails false = inr refl

-- one number is below another, or it is not
pub below_or_not : (a b : ℕ) → (a < b) ⊎ (b ≤ a)
below_or_not a b = ⊎_map (ltb-true a b) (ltb-false a b) (passes_or_fails (ltb a b))

-- two tests are equal where each passes with the other
pub same_test : (a b : Bool) → (a ≡ true → b ≡ true) → (b ≡ true → a ≡ true) → a ≡ b
same_test true b there back = sym (there refl)
same_test false true there back = back refl
same_test false false there back = refl

-- numbers are compared either way round
pub eqb_back : (a b : ℕ) → eqb a b ≡ eqb b a
eqb_back a b = same_test (eqb a b) (eqb b a) (λ e. eq-eqb b a (sym (eqb-true a b e))) (λ e. eq-eqb a b (sym (eqb-true b a e)))

-- two numbers are equal, or they are not
pub equal_or_not : (a b : ℕ) → (a ≡ b) ⊎ (a ≡ b → ⊥)
equal_or_not a b = ⊎_map (eqb-true a b) (eqb-false a b) (passes_or_fails (eqb a b))
