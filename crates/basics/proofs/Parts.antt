-- Laws of lists and their parts: what holds of every element, one element of them, and lists that are joined end to end.
use mathlib.Core.Path.{◌≡◌, refl, sym, ap, ◌∙◌}
use mathlib.Core.Bool.{Bool, true, false}
use mathlib.Core.List.{List, [], ◌∷◌, ◌++◌, map, append-nil}
use Prim.Native.Nat.{ℕ, zero, suc, ◌*◌, ◌≤◌, ◌<◌}
use native.Mathlib.Omega.{arith}
use lib.ListN.{length, get_or, take, drop, length-append}
use Rattle.basics.specs.Choice.{pick}
use Rattle.basics.specs.Lists.{all, flat}
use Rattle.basics.proofs.Tests.{and_left, and_right, and_both}

module _ {ℓ} {A : Type ℓ} (test : A → Bool) where
  -- where every element passes, the first and the others do, and each by its number
  pub all_first : (x : A) (xs : List A) → all test (x ∷ xs) ≡ true → test x ≡ true
  all_first x xs e = and_left (test x) (all test xs) e

  pub all_others : (x : A) (xs : List A) → all test (x ∷ xs) ≡ true → all test xs ≡ true
  all_others x xs e = and_right (test x) (all test xs) e

  pub all_at : (xs : List A) (i : ℕ) (d : A) → all test xs ≡ true → i < length xs → test (get_or xs i d) ≡ true
  all_at [] i d e h = absurd (omega arith)
  all_at (x ∷ xs) zero d e h = all_first x xs e
  all_at (x ∷ xs) (suc i) d e h = all_at xs i d (all_others x xs e) (omega arith)

  -- and so do those of each part
  pub all_take : (n : ℕ) (xs : List A) → all test xs ≡ true → all test (take n xs) ≡ true
  all_take zero xs e = refl
  all_take (suc n) [] e = refl
  all_take (suc n) (x ∷ xs) e = and_both (test x) (all test (take n xs)) (all_first x xs e) (all_take n xs (all_others x xs e))

  pub all_drop : (n : ℕ) (xs : List A) → all test xs ≡ true → all test (drop n xs) ≡ true
  all_drop zero xs e = e
  all_drop (suc n) [] e = refl
  all_drop (suc n) (x ∷ xs) e = all_drop n xs (all_others x xs e)

  pub all_append : (xs ys : List A) → all test xs ≡ true → all test ys ≡ true → all test (xs ++ ys) ≡ true
  all_append [] ys e f = f
  all_append (x ∷ xs) ys e f = and_both (test x) (all test (xs ++ ys)) (all_first x xs e) (all_append xs ys (all_others x xs e) f)

  pub all_ahead : (xs ys : List A) → all test (xs ++ ys) ≡ true → all test xs ≡ true
  all_ahead [] ys e = refl
  all_ahead (x ∷ xs) ys e = and_both (test x) (all test xs) (all_first x (xs ++ ys) e) (all_ahead xs ys (all_others x (xs ++ ys) e))

  pub all_behind : (xs ys : List A) → all test (xs ++ ys) ≡ true → all test ys ≡ true
  all_behind [] ys e = e
  all_behind (x ∷ xs) ys e = all_behind xs ys (all_others x (xs ++ ys) e)

-- what holds of both answers holds of the one that the test picks
pub pick_holds {ℓ κ} : {A : Type ℓ} (P : A → Type κ) (test : Bool) (a b : A) → (test ≡ true → P a) → (test ≡ false → P b) → P (pick test a b)
pick_holds P true a b h k = h refl
pick_holds P false a b h k = k refl

-- the answer that a test picks
pub picked {ℓ} : {A : Type ℓ} {z : A} (test : Bool) (x y : A) → test ≡ true → z ≡ x → z ≡ pick test x y
picked test x y e h = rw (e, h)

pub left_out {ℓ} : {A : Type ℓ} {z : A} (test : Bool) (x y : A) → test ≡ false → z ≡ y → z ≡ pick test x y
left_out test x y e h = rw (e, h)

module _ {ℓ} {A : Type ℓ} where
  pub no_elements : (xs : List A) → length xs ≡ 0 → xs ≡ []
  no_elements [] e = refl
  no_elements (x ∷ xs) e = absurd (omega arith)

  -- a front as long as the whole is the whole
  pub whole_front : (xs ys whole : List A) → xs ++ ys ≡ whole → length whole ≤ length xs → xs ≡ whole
  whole_front xs ys whole e h =
      sym (append-nil xs) ∙ ap (λ (rest : List A). xs ++ rest) (sym (no_elements ys (omega (arith, length-append xs ys, ap length e)))) ∙ e

  -- the first n elements, each by its number
  abbrev pub spelled : ℕ → (ℕ → A) → List A
  spelled zero at = []
  spelled (suc n) at = at 0 ∷ spelled n (λ i. at (suc i))

  -- a list is its first n elements, each by its number, and the others
  pub spelled_front : (n : ℕ) (xs : List A) (d : A) → n ≤ length xs → spelled n (λ i. get_or xs i d) ++ drop n xs ≡ xs
  spelled_front zero xs d h = refl
  spelled_front (suc n) [] d h = absurd (omega arith)
  spelled_front (suc n) (x ∷ xs) d h = ap {B = List A} (λ rest. x ∷ rest) (spelled_front n xs d (omega arith))

  pub spelled_whole : (n : ℕ) (xs : List A) (d : A) → length xs ≡ n → spelled n (λ i. get_or xs i d) ≡ xs
  spelled_whole zero xs d e = sym (no_elements xs e)
  spelled_whole (suc n) [] d e = absurd (omega arith)
  spelled_whole (suc n) (x ∷ xs) d e = ap {B = List A} (λ rest. x ∷ rest) (spelled_whole n xs d (omega arith))

-- lists joined end to end, each of at most n elements
pub flat_length {ℓ κ} : {A : Type ℓ} {B : Type κ} (f : A → List B) (n : ℕ) → ((x : A) → length (f x) ≤ n) → (xs : List A) → length (flat (map f xs)) ≤ n * length xs
flat_length f n h [] = omega arith
flat_length f n h (x ∷ xs) = omega (arith, length-append (f x) (flat (map f xs)), h x, flat_length f n h xs)

-- what every element of each of them passes, every element of all of them passes
pub all_flat {ℓ κ} : {A : Type ℓ} {B : Type κ} (given : A → Bool) (test : B → Bool) (f : A → List B)
    → ((x : A) → given x ≡ true → all test (f x) ≡ true) → (xs : List A) → all given xs ≡ true → all test (flat (map f xs)) ≡ true
all_flat given test f h [] e = refl
all_flat given test f h (x ∷ xs) e =
    all_append test (f x) (flat (map f xs)) (h x (all_first given x xs e)) (all_flat given test f h xs (all_others given x xs e))
