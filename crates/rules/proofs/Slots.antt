-- The first k of four slots: what is asked of each of them, and what they cost.
use mathlib.Core.Path.{◌≡◌, refl}
use mathlib.Core.Bool.{Bool, true, false, ◌&&◌, and-true, and_assoc}
use mathlib.Core.List.{List, [], ◌∷◌, map}
use Prim.Native.Nat.{ℕ, zero, suc, ◌+◌, min}
use native.Mathlib.Omega.{arith}
use lib.ListN.{length, take}
use lib.Seq.{take-nil}
use borrow.Author.Tests.{lt-leb}
use Rattle.basics.specs.Lists.{all, sum}
use Rattle.meaning.specs.declared.Operand.{Operand}
use Rattle.meaning.specs.Block.{declares_operand, cell_operand}
use Rattle.rules.specs.Rules.{slots_declared}
use Rattle.rules.specs.Price.{gather_price}

and_and : (a b c d : Bool) → (a && b) && (c && d) ≡ a && (b && (c && (d && true)))
and_and true true c d = rw and-true
and_and true false c d = refl
and_and false b c d = refl

module _ (variables : ℕ) (lengths : List ℕ) (o₀ o₁ o₂ o₃ : Operand) where
  pub slots_all :
      (k : ℕ)
      → slots_declared variables lengths k 0 o₀ o₁ && slots_declared variables lengths k 2 o₂ o₃
      ≡ all (declares_operand variables lengths) (take k (o₀ ∷ o₁ ∷ o₂ ∷ o₃ ∷ []))
  slots_all zero = refl
  slots_all (suc zero) = simp and-true
  slots_all (suc (suc zero)) = simp and-true
  slots_all (suc (suc (suc zero))) = and_assoc (declares_operand variables lengths o₀) (declares_operand variables lengths o₁) (declares_operand variables lengths o₂ && true)
  slots_all (suc (suc (suc (suc k)))) =
      rw (
        take-nil k,
        lt-leb (suc (suc (suc (suc k)))) 0 (omega arith),
        lt-leb (suc (suc (suc (suc k)))) 1 (omega arith),
        lt-leb (suc (suc (suc (suc k)))) 2 (omega arith),
        lt-leb (suc (suc (suc (suc k)))) 3 (omega arith),
      )
      (and_and
      (declares_operand variables lengths o₀)
      (declares_operand variables lengths o₁)
      (declares_operand variables lengths o₂)
      (declares_operand variables lengths o₃))

pub slots_held : {A : Type 0} (a b c d : A) (k : ℕ) → length (take k (a ∷ b ∷ c ∷ d ∷ [])) ≡ min k 4
slots_held a b c d zero = refl
slots_held a b c d (suc zero) = refl
slots_held a b c d (suc (suc zero)) = refl
slots_held a b c d (suc (suc (suc zero))) = refl
slots_held a b c d (suc (suc (suc (suc k)))) = rw (take-nil k) (omega arith)

pub slots_price :
    (k : ℕ) (o₀ o₁ o₂ o₃ : Operand)
    → gather_price k o₀ o₁ o₂ o₃ ≡ length (take k (o₀ ∷ o₁ ∷ o₂ ∷ o₃ ∷ [])) + sum (map cell_operand (take k (o₀ ∷ o₁ ∷ o₂ ∷ o₃ ∷ [])))
slots_price zero o₀ o₁ o₂ o₃ = refl
slots_price (suc zero) o₀ o₁ o₂ o₃ = omega arith
slots_price (suc (suc zero)) o₀ o₁ o₂ o₃ = omega arith
slots_price (suc (suc (suc zero))) o₀ o₁ o₂ o₃ = omega arith
slots_price (suc (suc (suc (suc k)))) o₀ o₁ o₂ o₃ =
    rw (
      take-nil k,
      lt-leb (suc (suc (suc (suc k)))) 0 (omega arith),
      lt-leb (suc (suc (suc (suc k)))) 1 (omega arith),
      lt-leb (suc (suc (suc (suc k)))) 2 (omega arith),
      lt-leb (suc (suc (suc (suc k)))) 3 (omega arith),
    )
    (omega arith)
