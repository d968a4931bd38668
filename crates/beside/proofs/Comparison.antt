-- The comparison of numbers: it passes exactly where the lists are equal.
use mathlib.Core.Path.{◌≡◌, refl, ap, ap₂}
use mathlib.Core.Bool.{Bool, true, ◌&&◌}
use mathlib.Core.List.{List, [], ◌∷◌}
use Prim.Native.Nat.{ℕ}
use native.Mathlib.Omega.{arith}
use lib.Dec.{eqb}
use lib.Pointwise.{pointwise}
use borrow.Author.Tests.{eqb-true, eq-eqb}
use Rattle.basics.proofs.Tests.{and_left, and_right, and_both}
use Rattle.beside.specs.Same.{same_numbers}

pub same_self : (numbers : List ℕ) → same_numbers numbers numbers ≡ true
unfolding same_numbers
same_self [] = refl
same_self (x ∷ xs) = and_both (eqb x x) (same_numbers xs xs) (eq-eqb x x refl) (same_self xs)

pub same_equal : (left right : List ℕ) → same_numbers left right ≡ true → left ≡ right
unfolding same_numbers
same_equal [] [] e = refl
same_equal [] (y ∷ ys) e = absurd (omega (arith, eqb-true 0 1 e))
same_equal (x ∷ xs) [] e = absurd (omega (arith, eqb-true 0 1 e))
same_equal (x ∷ xs) (y ∷ ys) e =
    ap₂ ◌∷◌ (eqb-true x y (and_left (eqb x y) (same_numbers xs ys) e)) (same_equal xs ys (and_right (eqb x y) (same_numbers xs ys) e))

-- slices are compared element by element, as the numbers are here
pub same_pointwise : (left right : List ℕ) → pointwise eqb left right ≡ same_numbers left right
unfolding same_numbers
same_pointwise [] [] = refl
same_pointwise [] (y ∷ ys) = refl
same_pointwise (x ∷ xs) [] = refl
same_pointwise (x ∷ xs) (y ∷ ys) = ap (λ (rest : Bool). eqb x y && rest) (same_pointwise xs ys)
