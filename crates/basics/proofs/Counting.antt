-- The laws of counting: one step of what remains, its end, and what holds at the end because it holds at each step.
use mathlib.Core.Path.{◌≡◌, refl, ap, ◌∙◌, subst}
use mathlib.Core.Logic.{◌⊎◌, inl, inr}
use Prim.Native.Nat.{ℕ, zero, suc, ◌+◌, ◌-◌, ◌≤◌, ◌<◌}
use native.Mathlib.Nat.{add-zero, zero-add}
use native.Mathlib.Omega.{arith}
use Rattle.basics.specs.Counting.{count}
use Rattle.basics.proofs.Tests.{below_or_not}

-- what remains of n at i, while i is below n, and when it is not
pub more : (n i : ℕ) → i < n → n - i ≡ suc (n - (i + 1))
more n i h = omega arith

pub none_left : (n i : ℕ) → n ≤ i → n - i ≡ 0
none_left n i h = omega arith

-- at least k and not k is at least k + 1
pub above : {n k : ℕ} → k ≤ n → (n ≡ k → ⊥) → suc k ≤ n
above h differ = omega arith

-- what holds of each number below k, and of k, holds of each below k + 1
pub one_further {κ} : (P : ℕ → Type κ) (k : ℕ) → ((s : ℕ) → s < k → P s) → P k → (s : ℕ) → s < k + 1 → P s
one_further P k earlier own s below = by (below_or_not s k)
  where
    by : (s < k) ⊎ (k ≤ s) → P s
    by (inl low) = earlier s low
    by (inr high) =
        let this : k ≡ s = omega arith in
        subst P this own

-- what holds before the first number, and from each number to the next, holds behind the last
pub count_holds {ℓ κ} :
    {A : Type ℓ} (P : ℕ → A → Type κ) (f : ℕ → A → A) (n i : ℕ) (a : A)
    → P i a
    → ((j : ℕ) (x : A) → i ≤ j → j < i + n → P j x → P (j + 1) (f j x))
    → P (i + n) (count n i f a)
count_holds P f zero i a start step = rw add-zero start
count_holds P f (suc n) i a start step =
    let later = count_holds P f n (i + 1) (f i a) (step i a (omega arith) (omega arith) start) (λ j x low high. step j x (omega arith) (omega arith)) in
    let e : i + 1 + n ≡ i + suc n = omega arith in
    subst (λ (k : ℕ). P k (count n (i + 1) f (f i a))) e later

-- the same from 0
pub count_up {ℓ κ} :
    {A : Type ℓ} (P : ℕ → A → Type κ) (f : ℕ → A → A) (n : ℕ) (a : A)
    → P 0 a
    → ((j : ℕ) (x : A) → j < n → P j x → P (j + 1) (f j x))
    → P n (count n 0 f a)
count_up P f n a start step =
    subst (λ (k : ℕ). P k (count n 0 f a)) (zero-add n) (count_holds P f n 0 a start (λ j x low high. step j x (omega arith)))

-- the same of two counts side by side
pub count_beside {ℓ κ μ} :
    {A : Type ℓ} {B : Type κ} (R : ℕ → A → B → Type μ) (f : ℕ → A → A) (g : ℕ → B → B) (n i : ℕ) (a : A) (b : B)
    → R i a b
    → ((j : ℕ) (x : A) (y : B) → i ≤ j → j < i + n → R j x y → R (j + 1) (f j x) (g j y))
    → R (i + n) (count n i f a) (count n i g b)
count_beside R f g zero i a b start step = rw add-zero start
count_beside R f g (suc n) i a b start step =
    let later =
    count_beside R f g n (i + 1) (f i a) (g i b) (step i a b (omega arith) (omega arith) start)
    (λ j x y low high. step j x y (omega arith) (omega arith)) in
    let e : i + 1 + n ≡ i + suc n = omega arith in
    subst (λ (k : ℕ). R k (count n (i + 1) f (f i a)) (count n (i + 1) g (g i b))) e later

pub count_both {ℓ κ μ} :
    {A : Type ℓ} {B : Type κ} (R : ℕ → A → B → Type μ) (f : ℕ → A → A) (g : ℕ → B → B) (n : ℕ) (a : A) (b : B)
    → R 0 a b
    → ((j : ℕ) (x : A) (y : B) → j < n → R j x y → R (j + 1) (f j x) (g j y))
    → R n (count n 0 f a) (count n 0 g b)
count_both R f g n a b start step =
    subst (λ (k : ℕ). R k (count n 0 f a) (count n 0 g b)) (zero-add n)
    (count_beside R f g n 0 a b start (λ j x y low high. step j x y (omega arith)))

-- the same is done where the same is done at each number
pub count_same {ℓ} :
    {A : Type ℓ} (f g : ℕ → A → A) (n i : ℕ) (a : A) → ((j : ℕ) (x : A) → i ≤ j → j < i + n → f j x ≡ g j x) → count n i f a ≡ count n i g a
count_same f g zero i a e = refl
count_same f g (suc n) i a e =
    ap (count n (i + 1) f) (e i a (omega arith) (omega arith)) ∙ count_same f g n (i + 1) (g i a) (λ j x low high. e j x (omega arith) (omega arith))

-- the last number by itself
pub count_last {ℓ} : {A : Type ℓ} (f : ℕ → A → A) (n i : ℕ) (a : A) → count (suc n) i f a ≡ f (i + n) (count n i f a)
count_last f zero i a = rw add-zero
count_last f (suc n) i a =
    let e : i + 1 + n ≡ i + suc n = omega arith in
    count_last f n (i + 1) (f i a) ∙ ap (λ (k : ℕ). f k (count n (i + 1) f (f i a))) e

-- what each step keeps of the state is counted by itself
pub count_through {ℓ κ} :
    {A : Type ℓ} {B : Type κ} (to : A → B) (f : ℕ → A → A) (g : ℕ → B → B)
    → ((j : ℕ) (x : A) → to (f j x) ≡ g j (to x))
    → (n i : ℕ) (a : A) → to (count n i f a) ≡ count n i g (to a)
count_through to f g e zero i a = refl
count_through to f g e (suc n) i a = count_through to f g e n (i + 1) (f i a) ∙ ap (count n (i + 1) g) (e i a)

-- what remains of a count of n at i: one number more, and none left
module _ {ℓ} {A : Type ℓ} (f : ℕ → A → A) (n i : ℕ) (a : A) where
  pub count_more : i < n → count (n - i) i f a ≡ count (n - (i + 1)) (i + 1) f (f i a)
  count_more h = rw (more n i h)

  pub count_end : n ≤ i → count (n - i) i f a ≡ a
  count_end h = rw (none_left n i h)
