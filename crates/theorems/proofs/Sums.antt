-- Sums over numbers in whatever order they come: where each number below n comes once, the sum is that of the numbers in order.
use mathlib.Core.Path.{◌≡◌, refl, sym, ap, ◌∙◌}
use mathlib.Core.Logic.{◌⊎◌, inl, inr}
use mathlib.Core.Bool.{Bool, true, false}
use mathlib.Core.List.{List, [], ◌∷◌, map}
use Prim.Native.Nat.{ℕ, zero, suc, ◌+◌, ◌≤◌, ◌<◌}
use native.Mathlib.Omega.{arith}
use lib.Dec.{eqb}
use lib.ListN.{length, get_or}
use borrow.Author.Tests.{eqb-true, eq-eqb}
use Rattle.basics.specs.Choice.{pick}
use Rattle.basics.specs.Lists.{sum}
use Rattle.basics.proofs.Tests.{below_or_not}
use Rattle.theorems.specs.Units.{Every, occurs}

-- the sum of f at n numbers from i on
abbrev pub over : (ℕ → ℕ) → ℕ → ℕ → ℕ
over f zero i = 0
over f (suc n) i = f i + over f n (suc i)

over_same : (f g : ℕ → ℕ) (n i : ℕ) → ((s : ℕ) → i ≤ s → s < i + n → f s ≡ g s) → over f n i ≡ over g n i
over_same f g zero i h = refl
over_same f g (suc n) i h = omega (arith, h i (omega arith) (omega arith), over_same f g n (suc i) (λ s low high. h s (omega arith) (omega arith)))

over_shift : (f : ℕ → ℕ) (n i : ℕ) → over (λ s. f (suc s)) n i ≡ over f n (suc i)
over_shift f zero i = refl
over_shift f (suc n) i = omega (arith, over_shift f n (suc i))

over_zero : (n i : ℕ) → over (λ s. 0) n i ≡ 0
over_zero zero i = refl
over_zero (suc n) i = omega (arith, over_zero n (suc i))

-- the sum over a list's elements, by their numbers
pub over_list : {A : Type 0} (f : A → ℕ) (d : A) (xs : List A) → over (λ s. f (get_or xs s d)) (length xs) 0 ≡ sum (map f xs)
over_list f d [] = refl
over_list f d (x ∷ xs) = omega (arith, over_shift (λ s. f (get_or (x ∷ xs) s d)) (length xs) 0, over_list f d xs)

-- what one number adds
abbrev here : ℕ → ℕ → ℕ → ℕ
here t amount s = pick (eqb s t) amount 0

here_same : (t amount : ℕ) → here t amount t ≡ amount
here_same t amount = rw (eq-eqb t t refl)

here_other : (t amount s : ℕ) → (s ≡ t → ⊥) → here t amount s ≡ 0
here_other t amount s differ = by (eqb s t) refl
  where
    by : (answer : Bool) → eqb s t ≡ answer → pick answer amount 0 ≡ 0
    by true e = absurd (differ (eqb-true s t e))
    by false e = refl

none_more : (g : ℕ → ℕ) (t amount n i : ℕ) → t < i → over (λ s. here t amount s + g s) n i ≡ over g n i
none_more g t amount zero i h = refl
none_more g t amount (suc n) i h = omega (arith, here_other t amount i (λ e. omega arith), none_more g t amount n (suc i) (omega arith))

one_more : (g : ℕ → ℕ) (t amount n i : ℕ) → i ≤ t → t < i + n → over (λ s. here t amount s + g s) n i ≡ amount + over g n i
one_more g t amount zero i low high = absurd (omega arith)
one_more g t amount (suc n) i low high = by (below_or_not i t) (λ less. one_more g t amount n (suc i) less (omega arith))
  where
    by : (i < t) ⊎ (t ≤ i) → (i < t → over (λ s. here t amount s + g s) n (suc i) ≡ amount + over g n (suc i))
        → over (λ s. here t amount s + g s) (suc n) i ≡ amount + over g (suc n) i
    by (inl less) later = omega (arith, here_other t amount i (λ e. omega arith), later less)
    by (inr more) later =
        let e : i ≡ t = omega arith in
        omega (arith, ap (here t amount) e, here_same t amount, none_more g t amount n (suc i) (omega arith))

-- what all that comes adds at one number
abbrev spent : (ℕ → ℕ) → List ℕ → ℕ → ℕ
spent f [] s = 0
spent f (t ∷ rest) s = here t (f t) s + spent f rest s

spent_over : (f : ℕ → ℕ) (n : ℕ) (order : List ℕ) → Every (λ s. s < n) order → sum (map f order) ≡ over (spent f order) n 0
spent_over f n [] below = sym (over_zero n 0)
spent_over f n (t ∷ rest) below =
    omega (arith, one_more (spent f rest) t (f t) n 0 (omega arith) (omega (arith, below.0)), spent_over f n rest below.1)

spent_none : (f : ℕ → ℕ) (s : ℕ) (order : List ℕ) → occurs s order ≡ 0 → spent f order s ≡ 0
spent_none f s [] e = refl
spent_none f s (t ∷ rest) e = by (eqb s t) refl e (spent_none f s rest)
  where
    by : (answer : Bool) → eqb s t ≡ answer → pick answer 1 0 + occurs s rest ≡ 0 → (occurs s rest ≡ 0 → spent f rest s ≡ 0) → here t (f t) s + spent f rest s ≡ 0
    by true same e later = absurd (omega arith)
    by false other e later = rw other (omega (arith, later (omega arith)))

spent_once : (f : ℕ → ℕ) (s : ℕ) (order : List ℕ) → occurs s order ≡ 1 → spent f order s ≡ f s
spent_once f s [] e = absurd (omega arith)
spent_once f s (t ∷ rest) e = by (eqb s t) refl e (spent_once f s rest)
  where
    by : (answer : Bool) → eqb s t ≡ answer → pick answer 1 0 + occurs s rest ≡ 1 → (occurs s rest ≡ 1 → spent f rest s ≡ f s) → here t (f t) s + spent f rest s ≡ f s
    by true same e later = rw same (omega (arith, spent_none f s rest (omega arith), ap f (eqb-true s t same)))
    by false other e later = rw other (omega (arith, later (omega arith)))

-- Where each number below n comes once and no other comes, the order does not matter to a sum.
pub any_order : (f : ℕ → ℕ) (n : ℕ) (order : List ℕ) → Every (λ s. s < n) order → ((s : ℕ) → s < n → occurs s order ≡ 1)
    → sum (map f order) ≡ over f n 0
any_order f n order below once =
    spent_over f n order below ∙ over_same (spent f order) f n 0 (λ s low high. spent_once f s order (once s (omega arith)))
