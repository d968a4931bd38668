-- Totals: what a number for each of the first n numbers adds up to.
use mathlib.Core.Path.{◌≡◌, refl, sym, ap₂, ◌∙◌}
use mathlib.Core.Logic.{◌⊎◌, inl, inr}
use Prim.Native.Nat.{ℕ, zero, suc, ◌+◌, ◌*◌, ◌≤◌, ◌<◌}
use native.Mathlib.Nat.{add-mul, zero-mul}
use native.Mathlib.Omega.{arith}
use lib.Dec.{eqb}
use borrow.Author.Tests.{eq-eqb, ne_eqb}
use Rattle.basics.specs.Choice.{pick}
use Rattle.basics.proofs.Tests.{below_or_not}

abbrev pub total : ℕ → (ℕ → ℕ) → ℕ
total zero g = 0
total (suc n) g = total n g + g n

-- the last one, or one before it
last_or : (i n : ℕ) → i < suc n → (i ≡ n) ⊎ (i < n)
last_or i n h = either (below_or_not i n)
  where
    either : (i < n) ⊎ (n ≤ i) → (i ≡ n) ⊎ (i < n)
    either (inl k) = inr k
    either (inr k) = inl (omega arith)

-- one term, and two different ones, are within the total
pub total_term : (g : ℕ → ℕ) (n i : ℕ) → i < n → g i ≤ total n g
total_term g zero i h = absurd (omega arith)
total_term g (suc n) i h = either (last_or i n h) λ k. total_term g n i k
  where
    either : (i ≡ n) ⊎ (i < n) → (i < n → g i ≤ total n g) → g i ≤ total n g + g n
    either (inl e) later = rw e (omega arith)
    either (inr k) later = omega (arith, later k)

pub total_two : (g : ℕ → ℕ) (n i j : ℕ) → i < n → j < n → (i ≡ j → ⊥) → g i + g j ≤ total n g
total_two g zero i j h k differ = absurd (omega arith)
total_two g (suc n) i j h k differ = either (last_or i n h) (last_or j n k) λ h' k'. total_two g n i j h' k' differ
  where
    either : (i ≡ n) ⊎ (i < n) → (j ≡ n) ⊎ (j < n) → (i < n → j < n → g i + g j ≤ total n g) → g i + g j ≤ total n g + g n
    either (inl e) (inl f) later = absurd (differ (e ∙ sym f))
    either (inl e) (inr k') later = rw e (omega (arith, total_term g n j k'))
    either (inr h') (inl f) later = rw f (omega (arith, total_term g n i h'))
    either (inr h') (inr k') later = omega (arith, later h' k')

-- equal terms, sums of terms, and a common factor
pub total_same : (g h : ℕ → ℕ) (n : ℕ) → ((i : ℕ) → i < n → g i ≡ h i) → total n g ≡ total n h
total_same g h zero e = refl
total_same g h (suc n) e = ap₂ ◌+◌ (total_same g h n λ i k. e i (omega arith)) (e n (omega arith))

pub total_plus : (g h : ℕ → ℕ) (n : ℕ) → total n (λ i. g i + h i) ≡ total n g + total n h
total_plus g h zero = refl
total_plus g h (suc n) = omega (arith, total_plus g h n)

pub total_times : (g : ℕ → ℕ) (x n : ℕ) → total n (λ i. g i * x) ≡ total n g * x
total_times g x zero = sym (zero-mul x)
total_times g x (suc n) = omega (arith, total_times g x n, add-mul (total n g) (g n) x)

-- one term alone
pub total_above : (r x n : ℕ) → n ≤ r → total n (λ i. pick (eqb r i) x 0) ≡ 0
total_above r x zero h = refl
total_above r x (suc n) h = rw (total_above r x n (omega arith), ne_eqb r n (λ e. omega arith))

pub total_one : (r x n : ℕ) → r < n → total n (λ i. pick (eqb r i) x 0) ≡ x
total_one r x zero h = absurd (omega arith)
total_one r x (suc n) h = either (last_or r n h) λ k. total_one r x n k
  where
    either : (r ≡ n) ⊎ (r < n) → (r < n → total n (λ i. pick (eqb r i) x 0) ≡ x) → total n (λ i. pick (eqb r i) x 0) + pick (eqb r n) x 0 ≡ x
    either (inl e) later = rw (total_above r x n (omega arith), eq-eqb r n e) (omega arith)
    either (inr k) later = rw (later k, ne_eqb r n (λ f. omega arith)) (omega arith)
