-- The laws of lists of numbers that are met as often: what holds of every element and of every two, how often each occurs, and one
-- occurrence taken out.
use mathlib.Core.Path.{◌≡◌, refl, sym, ap, subst, ◌∙◌}
use mathlib.Core.Logic.{◌⊎◌, inl, inr}
use mathlib.Core.Bool.{Bool, true, false}
use mathlib.Core.List.{List, [], ◌∷◌, ◌++◌, map}
use Prim.Native.Nat.{ℕ, suc, ◌+◌, ◌≤◌, ◌<◌}
use native.Mathlib.Omega.{arith}
use lib.Dec.{eqb}
use lib.ListN.{length}
use borrow.Author.Tests.{eqb-true, eqb-false, eq-eqb, ne_eqb}
use Rattle.basics.specs.Choice.{pick}
use Rattle.basics.specs.Lists.{all, flat}
use Rattle.basics.proofs.Tests.{and_both}
use Rattle.theorems.specs.Units.{Every, Pairwise, occurs}

module _ {ℓ} {A : Type ℓ} where
  -- what holds of every element, weakened and joined
  pub every_weaker {κ} : {P Q : A → Type κ} → ((x : A) → P x → Q x) → (xs : List A) → Every P xs → Every Q xs
  every_weaker h [] e = tt
  every_weaker h (x ∷ xs) e = (h x e.0, every_weaker h xs e.1)

  pub every_append {κ} : (P : A → Type κ) (xs ys : List A) → Every P xs → Every P ys → Every P (xs ++ ys)
  every_append P [] ys e f = f
  every_append P (x ∷ xs) ys e f = (e.0, every_append P xs ys e.1 f)

  -- a test that passes where it holds
  pub every_all {κ} : (P : A → Type κ) (test : A → Bool) → ((x : A) → P x → test x ≡ true) → (xs : List A) → Every P xs → all test xs ≡ true
  every_all P test h [] e = refl
  every_all P test h (x ∷ xs) e = and_both (test x) _ (h x e.0) (every_all P test h xs e.1)

  pub every_map {κ μ} : {B : Type μ} (P : A → Type κ) (f : A → B) (test : B → Bool) → ((x : A) → P x → test (f x) ≡ true)
      → (xs : List A) → Every P xs → all test (map f xs) ≡ true
  every_map P f test h [] e = refl
  every_map P f test h (x ∷ xs) e = and_both (test (f x)) _ (h x e.0) (every_map P f test h xs e.1)

  -- what holds of every two
  pub pairwise_weaker {κ} : {R Q : A → A → Type κ} → ((x y : A) → R x y → Q x y) → (xs : List A) → Pairwise R xs → Pairwise Q xs
  pairwise_weaker h [] e = tt
  pairwise_weaker h (x ∷ xs) e = (every_weaker (h x) xs e.0, pairwise_weaker h xs e.1)

  pub pairwise_append {κ} : (R : A → A → Type κ) (xs ys : List A) → Pairwise R xs → Pairwise R ys → Every (λ x. Every (R x) ys) xs
      → Pairwise R (xs ++ ys)
  pairwise_append R [] ys e f g = f
  pairwise_append R (x ∷ xs) ys e f g = (every_append (R x) xs ys e.0 g.0, pairwise_append R xs ys e.1 f g.1)

-- a number occurs at its own place, and another one is passed by
pub occurs_own : (s : ℕ) (xs : List ℕ) → occurs s (s ∷ xs) ≡ suc (occurs s xs)
occurs_own s xs = rw (eq-eqb s s refl) (omega arith)

pub occurs_other : (s t : ℕ) (xs : List ℕ) → (s ≡ t → ⊥) → occurs s (t ∷ xs) ≡ occurs s xs
occurs_other s t xs differ = rw (ne_eqb s t differ) (omega arith)

-- the first element or one behind it
pub occurs_cons : (s t : ℕ) (xs : List ℕ) → 0 < occurs s (t ∷ xs) → (s ≡ t) ⊎ (0 < occurs s xs)
occurs_cons s t xs h = either (eqb s t) refl h
  where
    either : (test : Bool) → eqb s t ≡ test → 0 < pick test 1 0 + occurs s xs → (s ≡ t) ⊎ (0 < occurs s xs)
    either true e k = inl (eqb-true s t e)
    either false e k = inr (omega arith)

pub occurs_behind : (s t : ℕ) (xs : List ℕ) → occurs s xs ≤ occurs s (t ∷ xs)
occurs_behind s t xs = omega arith

pub occurs_append : (s : ℕ) (xs ys : List ℕ) → occurs s (xs ++ ys) ≡ occurs s xs + occurs s ys
occurs_append s [] ys = omega arith
occurs_append s (x ∷ xs) ys = omega (arith, occurs_append s xs ys)

-- lists joined end to end
pub flat_append : (xs ys : List (List ℕ)) (s : ℕ) → occurs s (flat (xs ++ ys)) ≡ occurs s (flat xs) + occurs s (flat ys)
flat_append [] ys s = omega arith
flat_append (x ∷ xs) ys s = omega (arith, occurs_append s x (flat (xs ++ ys)), occurs_append s x (flat xs), flat_append xs ys s)

-- what holds of every element holds of each number that occurs, and the other way round
pub every_at {κ} : (P : ℕ → Type κ) (xs : List ℕ) → Every P xs → (s : ℕ) → 0 < occurs s xs → P s
every_at P [] e s h = absurd (omega arith)
every_at P (x ∷ xs) e s h = either (occurs_cons s x xs h) (λ k. every_at P xs e.1 s k)
  where
    either : (s ≡ x) ⊎ (0 < occurs s xs) → (0 < occurs s xs → P s) → P s
    either (inl f) later = subst P (sym f) e.0
    either (inr k) later = later k

pub every_by {κ} : (P : ℕ → Type κ) (xs : List ℕ) → ((s : ℕ) → 0 < occurs s xs → P s) → Every P xs
every_by P [] h = tt
every_by P (x ∷ xs) h = (h x (omega (arith, occurs_own x xs)), every_by P xs λ s k. h s (omega (arith, occurs_behind s x xs)))

-- a number out of range does not occur
pub occurs_range : (n : ℕ) (xs : List ℕ) → Every (λ s. s < n) xs → (t : ℕ) → n ≤ t → occurs t xs ≡ 0
occurs_range n [] e t h = refl
occurs_range n (x ∷ xs) e t h = occurs_other t x xs (λ f. omega (arith, e.0)) ∙ occurs_range n xs e.1 t h

-- the list without the first occurrence of s
abbrev pub remove : ℕ → List ℕ → List ℕ
remove s [] = []
remove s (x ∷ xs) = pick (eqb s x) xs (x ∷ remove s xs)

-- with s again in front it has each number as often, and it is shorter by one
pub occurs_remove : (s : ℕ) (xs : List ℕ) → 0 < occurs s xs → (t : ℕ) → occurs t xs ≡ occurs t (s ∷ remove s xs)
occurs_remove s [] h t = absurd (omega arith)
occurs_remove s (x ∷ xs) h t = either (eqb s x) refl λ later. occurs_remove s xs later t
  where
    either : (test : Bool) → eqb s x ≡ test → (0 < occurs s xs → occurs t xs ≡ occurs t (s ∷ remove s xs))
        → occurs t (x ∷ xs) ≡ occurs t (s ∷ pick test xs (x ∷ remove s xs))
    either true e later = ap (λ (y : ℕ). occurs t (y ∷ xs)) (sym (eqb-true s x e))
    either false e later = omega (arith, later (omega (arith, h, occurs_other s x xs (eqb-false s x e))))

pub length_remove : (s : ℕ) (xs : List ℕ) → 0 < occurs s xs → length xs ≡ suc (length (remove s xs))
length_remove s [] h = absurd (omega arith)
length_remove s (x ∷ xs) h = either (eqb s x) refl λ later. length_remove s xs later
  where
    either : (test : Bool) → eqb s x ≡ test → (0 < occurs s xs → length xs ≡ suc (length (remove s xs)))
        → suc (length xs) ≡ suc (length (pick test xs (x ∷ remove s xs)))
    either true e later = refl
    either false e later = ap suc (later (omega (arith, h, occurs_other s x xs (eqb-false s x e))))

-- what holds of every element, and of every two, still does
pub every_remove {κ} : (P : ℕ → Type κ) (s : ℕ) (xs : List ℕ) → Every P xs → Every P (remove s xs)
every_remove P s [] e = tt
every_remove P s (x ∷ xs) e = either (eqb s x) (every_remove P s xs e.1)
  where
    either : (test : Bool) → Every P (remove s xs) → Every P (pick test xs (x ∷ remove s xs))
    either true later = e.1
    either false later = (e.0, later)

pub pairwise_remove {κ} : (R : ℕ → ℕ → Type κ) (s : ℕ) (xs : List ℕ) → Pairwise R xs → Pairwise R (remove s xs)
pairwise_remove R s [] e = tt
pairwise_remove R s (x ∷ xs) e = either (eqb s x) (pairwise_remove R s xs e.1)
  where
    either : (test : Bool) → Pairwise R (remove s xs) → Pairwise R (pick test xs (x ∷ remove s xs))
    either true later = e.1
    either false later = (every_remove (R x) s xs e.0, later)

-- A list in which each number occurs at most as often as in another is at most as long.
pub fewer : (xs ys : List ℕ) → ((s : ℕ) → occurs s xs ≤ occurs s ys) → length xs ≤ length ys
fewer [] ys h = omega arith
fewer (x ∷ xs) ys h =
    let there : 0 < occurs x ys = omega (arith, h x, occurs_own x xs) in
    omega (arith, length_remove x ys there, fewer xs (remove x ys) λ s. omega (arith, h s, occurs_remove x ys there s))
