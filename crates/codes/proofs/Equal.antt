-- Tests of equal numbers that pass together, and one that never passes.
use mathlib.Core.Path.{◌≡◌, sym}
use mathlib.Core.Bool.{false, ◌&&◌}
use Prim.Native.Nat.{ℕ}
use lib.Dec.{eqb}
use borrow.Author.Tests.{eqb-true, eq-eqb, ne_eqb}
use Rattle.basics.proofs.Tests.{and_left, and_right, and_both, same_test}

pub together : (a b c d : ℕ) → (a ≡ b → c ≡ d) → (c ≡ d → a ≡ b) → eqb a b ≡ eqb c d
together a b c d there back =
    same_test (eqb a b) (eqb c d)
    (λ e. eq-eqb c d (there (eqb-true a b e)))
    (λ e. eq-eqb a b (back (eqb-true c d e)))

pub both_together : (a b c d m n : ℕ) → (a ≡ b → c ≡ d → m ≡ n) → (m ≡ n → a ≡ b) → (m ≡ n → c ≡ d) → eqb a b && eqb c d ≡ eqb m n
both_together a b c d m n there left right =
    same_test (eqb a b && eqb c d) (eqb m n)
    (λ e. eq-eqb m n (there (eqb-true a b (and_left (eqb a b) (eqb c d) e)) (eqb-true c d (and_right (eqb a b) (eqb c d) e))))
    (λ e. and_both (eqb a b) (eqb c d) (eq-eqb a b (left (eqb-true m n e))) (eq-eqb c d (right (eqb-true m n e))))

pub never : (m n : ℕ) → (m ≡ n → ⊥) → false ≡ eqb m n
never m n differ = sym (ne_eqb m n differ)
