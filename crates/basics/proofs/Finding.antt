-- Laws of finding and keeping elements, and of meeting one element after the other.
use mathlib.Core.Path.{◌≡◌, refl, sym, ap, ◌∙◌}
use mathlib.Core.Bool.{Bool, true, false, ◌||◌, not}
use mathlib.Core.Option.{none, some, some-ne-none}
use mathlib.Core.List.{List, [], ◌∷◌, ◌++◌, append_assoc, append-nil}
use Prim.Native.Nat.{suc, ◌≤◌}
use native.Mathlib.Omega.{arith}
use lib.ListN.{length}
use Rattle.basics.specs.Lists.{any, all, keep, first, flat, each}
use Rattle.basics.proofs.Tests.{and_both}
use Rattle.basics.proofs.Parts.{all_first, all_others}

module _ {ℓ} {A : Type ℓ} (test : A → Bool) where
  -- one element more, which is kept or not
  pub keep_yes : (x : A) (xs : List A) → test x ≡ true → keep test (x ∷ xs) ≡ x ∷ keep test xs
  keep_yes x xs e = rw (e, keep)

  pub keep_no : (x : A) (xs : List A) → test x ≡ false → keep test (x ∷ xs) ≡ keep test xs
  keep_no x xs e = rw (e, keep)

  pub keep_length : (xs : List A) → length (keep test xs) ≤ length xs
  keep_length [] = omega arith
  keep_length (x ∷ xs) = by (test x) refl (keep_length xs)
    where
      by : (t : Bool) → test x ≡ t → length (keep test xs) ≤ length xs → length (keep test (x ∷ xs)) ≤ length (x ∷ xs)
      by true e h = rw (keep_yes x xs e) (omega arith)
      by false e h = rw (keep_no x xs e) (omega arith)

  pub keep_append : (xs ys : List A) → keep test (xs ++ ys) ≡ keep test xs ++ keep test ys
  keep_append [] ys = refl
  keep_append (x ∷ xs) ys = by (test x) refl (keep_append xs ys)
    where
      by : (t : Bool) → test x ≡ t → keep test (xs ++ ys) ≡ keep test xs ++ keep test ys → keep test (x ∷ xs ++ ys) ≡ keep test (x ∷ xs) ++ keep test ys
      by true e h = rw (keep_yes x (xs ++ ys) e, keep_yes x xs e) (ap {B = List A} (λ rest. x ∷ rest) h)
      by false e h = rw (keep_no x (xs ++ ys) e, keep_no x xs e) h

  -- the first that passes
  pub first_yes : (x : A) (xs : List A) → test x ≡ true → first test (x ∷ xs) ≡ some x
  first_yes x xs e = rw (e, first)

  pub first_no : (x : A) (xs : List A) → test x ≡ false → first test (x ∷ xs) ≡ first test xs
  first_no x xs e = rw (e, first)

  -- where one list stands behind another, it is in the first, or else in the second
  pub first_ahead : (xs ys : List A) (x : A) → first test xs ≡ some x → first test (xs ++ ys) ≡ some x
  first_ahead [] ys x e = absurd (some-ne-none x (sym e))
  first_ahead (y ∷ xs) ys x e = by (test y) refl (first_ahead xs ys x)
    where
      by : (t : Bool) → test y ≡ t → (first test xs ≡ some x → first test (xs ++ ys) ≡ some x) → first test (y ∷ xs ++ ys) ≡ some x
      by true t rest = first_yes y (xs ++ ys) t ∙ sym (first_yes y xs t) ∙ e
      by false t rest = first_no y (xs ++ ys) t ∙ rest (sym (first_no y xs t) ∙ e)

  pub first_behind : (xs ys : List A) → first test xs ≡ none → first test (xs ++ ys) ≡ first test ys
  first_behind [] ys e = refl
  first_behind (y ∷ xs) ys e = by (test y) refl (first_behind xs ys)
    where
      by : (t : Bool) → test y ≡ t → (first test xs ≡ none → first test (xs ++ ys) ≡ first test ys) → first test (y ∷ xs ++ ys) ≡ first test ys
      by true t rest = absurd (some-ne-none y (sym (first_yes y xs t) ∙ e))
      by false t rest = first_no y (xs ++ ys) t ∙ rest (sym (first_no y xs t) ∙ e)

  pub any_append : (xs ys : List A) → any test (xs ++ ys) ≡ any test xs || any test ys
  any_append [] ys = refl
  any_append (x ∷ xs) ys = by (test x) (any_append xs ys)
    where
      by : (t : Bool) → any test (xs ++ ys) ≡ any test xs || any test ys → t || any test (xs ++ ys) ≡ (t || any test xs) || any test ys
      by true h = refl
      by false h = h

-- one list behind another
pub each_append {ℓ κ} : {A : Type ℓ} {S : Type κ} (f : A → S → S) (xs ys : List A) (s : S) → each f (xs ++ ys) s ≡ each f ys (each f xs s)
each_append f [] ys s = refl
each_append f (x ∷ xs) ys s = each_append f xs ys (f x s)

-- what is found passes, is one of the elements, and is not kept by the opposite test
module _ {ℓ} {A : Type ℓ} (test : A → Bool) where
  pub first_passes : (xs : List A) (x : A) → first test xs ≡ some x → test x ≡ true
  first_passes [] x e = absurd (some-ne-none x (sym e))
  first_passes (y ∷ ys) x e = by (test y) refl (first_passes ys x)
    where
      by : (t : Bool) → test y ≡ t → (first test ys ≡ some x → test x ≡ true) → test x ≡ true
      by true t rest =
          let this : y ≡ x = cc (first_yes test y ys t) in
          ap test (sym this) ∙ t
      by false t rest = rest (sym (first_no test y ys t) ∙ e)

  pub first_all : (other : A → Bool) (xs : List A) (x : A) → first test xs ≡ some x → all other xs ≡ true → other x ≡ true
  first_all other [] x e a = absurd (some-ne-none x (sym e))
  first_all other (y ∷ ys) x e a = by (test y) refl (first_all other ys x)
    where
      by : (t : Bool) → test y ≡ t → (first test ys ≡ some x → all other ys ≡ true → other x ≡ true) → other x ≡ true
      by true t rest =
          let this : y ≡ x = cc (first_yes test y ys t) in
          ap other (sym this) ∙ all_first other y ys a
      by false t rest = rest (sym (first_no test y ys t) ∙ e) (all_others other y ys a)

  pub keep_shorter : (xs : List A) (x : A) → first test xs ≡ some x → suc (length (keep (λ y. not (test y)) xs)) ≤ length xs
  keep_shorter [] x e = absurd (some-ne-none x (sym e))
  keep_shorter (y ∷ ys) x e = by (test y) refl (keep_shorter ys x)
    where
      by : (t : Bool) → test y ≡ t → (first test ys ≡ some x → suc (length (keep (λ z. not (test z)) ys)) ≤ length ys)
          → suc (length (keep (λ z. not (test z)) (y ∷ ys))) ≤ length (y ∷ ys)
      by true t rest = rw (keep_no (λ z. not (test z)) y ys (ap not t)) (omega (arith, keep_length (λ z. not (test z)) ys))
      by false t rest = rw (keep_yes (λ z. not (test z)) y ys (ap not t)) (omega (arith, rest (sym (first_no test y ys t) ∙ e)))

  -- what every element passes, every element that is kept passes
  pub all_keep : (other : A → Bool) (xs : List A) → all other xs ≡ true → all other (keep test xs) ≡ true
  all_keep other [] a = refl
  all_keep other (x ∷ xs) a = by (test x) refl (all_keep other xs (all_others other x xs a))
    where
      by : (t : Bool) → test x ≡ t → all other (keep test xs) ≡ true → all other (keep test (x ∷ xs)) ≡ true
      by true t rest = rw (keep_yes test x xs t) (and_both (other x) _ (all_first other x xs a) rest)
      by false t rest = rw (keep_no test x xs t) rest

-- what passes one test passes another that it implies
pub all_implies {ℓ} : {A : Type ℓ} (test other : A → Bool) → ((x : A) → test x ≡ true → other x ≡ true) → (xs : List A) → all test xs ≡ true → all other xs ≡ true
all_implies test other h [] e = refl
all_implies test other h (x ∷ xs) e = and_both (other x) _ (h x (all_first test x xs e)) (all_implies test other h xs (all_others test x xs e))

-- lists joined end to end, and one more behind them
pub flat_append {ℓ} : {A : Type ℓ} (xss : List (List A)) (xs : List A) → flat (xss ++ xs ∷ []) ≡ flat xss ++ xs
flat_append [] xs = append-nil xs
flat_append (ys ∷ xss) xs = ap (λ rest. ys ++ rest) (flat_append xss xs) ∙ sym (append_assoc ys (flat xss) xs)
