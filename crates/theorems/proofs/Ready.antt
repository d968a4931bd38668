-- "It is ready when all that its statements depend on is scheduled": what is in the set of scheduled statements, and what readiness says.
use mathlib.Core.Path.{◌≡◌, refl, sym, ap, subst, ◌∙◌}
use mathlib.Core.Logic.{◌⊎◌, inl, inr}
use mathlib.Core.Bool.{Bool, true, false, ◌&&◌, ◌||◌, not, false≢true, or-false}
use mathlib.Core.List.{List, [], ◌∷◌}
use Prim.Native.Nat.{ℕ, ◌+◌, ◌≤◌, ◌<◌}
use native.Mathlib.Omega.{arith}
use lib.Dec.{eqb}
use borrow.Author.Tests.{ltb-true, eq-eqb, ne_eqb, not-true}
use Rattle.basics.specs.Lists.{all}
use Rattle.basics.specs.Sets.{only, join, has}
use Rattle.basics.proofs.Tests.{and_left, and_right, and_both, or_either, or_left, or_right, below_or_not}
use Rattle.basics.proofs.Counting.{count_up}
use Rattle.basics.proofs.Sets.{has_only, has_join}
use Rattle.meaning.specs.declared.Statement.{Statement}
use Rattle.meaning.specs.Dependence.{depends_on}
use Rattle.meaning.specs.Schedule.{statement_ready, with_unit}
use Rattle.theorems.specs.Units.{occurs}
use Rattle.theorems.proofs.Occurs.{occurs_own, occurs_cons}

-- one more in the set
has_one : (set s t : ℕ) → has (join set (only s)) t ≡ has set t || eqb s t
has_one set s t = has_join set (only s) t ∙ ap (λ (own : Bool). has set t || own) (has_only s t)

-- a unit's statements are in the set with it, those that were in it stay, and no others are
pub with_kept : (unit : List ℕ) (set t : ℕ) → has set t ≡ true → has (with_unit unit set) t ≡ true
with_kept [] set t e = e
with_kept (s ∷ rest) set t e = with_kept rest (join set (only s)) t (has_one set s t ∙ or_left (has set t) (eqb s t) e)

pub with_present : (unit : List ℕ) (set t : ℕ) → 0 < occurs t unit → has (with_unit unit set) t ≡ true
with_present [] set t h = absurd (omega arith)
with_present (s ∷ rest) set t h = either (occurs_cons t s rest h) (λ k. with_present rest (join set (only s)) t k)
  where
    either : (t ≡ s) ⊎ (0 < occurs t rest) → (0 < occurs t rest → has (with_unit rest (join set (only s))) t ≡ true)
        → has (with_unit rest (join set (only s))) t ≡ true
    either (inl e) later = with_kept rest (join set (only s)) t (has_one set s t ∙ or_right (has set t) (eqb s t) (eq-eqb s t (sym e)))
    either (inr k) later = later k

pub with_absent : (unit : List ℕ) (set t : ℕ) → occurs t unit ≡ 0 → has (with_unit unit set) t ≡ has set t
with_absent [] set t h = refl
with_absent (s ∷ rest) set t h =
    with_absent rest (join set (only s)) t (omega arith)
    ∙ has_one set s t
    ∙ ap (λ (own : Bool). has set t || own) (ne_eqb s t differ)
    ∙ or-false (has set t)
  where
    differ : s ≡ t → ⊥
    differ e = omega (arith, h, occurs_own t rest, ap (λ (x : ℕ). occurs t (x ∷ rest)) e)

-- what passes the test of all passes it wherever it occurs
pub all_occurs : (test : ℕ → Bool) (xs : List ℕ) → all test xs ≡ true → (s : ℕ) → 0 < occurs s xs → test s ≡ true
all_occurs test [] e s h = absurd (omega arith)
all_occurs test (x ∷ xs) e s h = either (occurs_cons s x xs h) (λ k. all_occurs test xs (and_right (test x) (all test xs) e) s k)
  where
    either : (s ≡ x) ⊎ (0 < occurs s xs) → (0 < occurs s xs → test s ≡ true) → test s ≡ true
    either (inl f) later = ap test f ∙ and_left (test x) (all test xs) e
    either (inr k) later = later k

-- a statement that is ready depends only on scheduled ones: so far as the statements below j go, and so in all
abbrev Scheduled_below : List Statement → ℕ → ℕ → ℕ → Bool → Type 0
Scheduled_below ss set s j so_far = so_far ≡ true → (t : ℕ) → t < j → depends_on ss s t ≡ true → has set t ≡ true

pub ready_depends : (ss : List Statement) (set s : ℕ) → statement_ready ss set s ≡ true → (t : ℕ) → depends_on ss s t ≡ true → has set t ≡ true
ready_depends ss set s ready t depends =
    count_up (Scheduled_below ss set s) (λ earlier ready. ready && (not (depends_on ss s earlier) || has set earlier)) s true (λ e t' h d. absurd (omega arith)) step
    ready t (ltb-true t s (and_left _ _ (and_left _ _ depends))) depends
  where
    latest : (j : ℕ) → not (depends_on ss s j) || has set j ≡ true → depends_on ss s j ≡ true → has set j ≡ true
    latest j e d = either (or_either (not (depends_on ss s j)) (has set j) e)
      where
        either : (not (depends_on ss s j) ≡ true) ⊎ (has set j ≡ true) → has set j ≡ true
        either (inl free) = absurd (false≢true (sym (not-true (depends_on ss s j) free) ∙ d))
        either (inr there) = there

    step : (j : ℕ) (so_far : Bool) → j < s → Scheduled_below ss set s j so_far → Scheduled_below ss set s (j + 1) (so_far && (not (depends_on ss s j) || has set j))
    step j so_far below known e t' h d = either (below_or_not t' j)
      where
        either : (t' < j) ⊎ (j ≤ t') → has set t' ≡ true
        either (inl low) = known (and_left so_far (not (depends_on ss s j) || has set j) e) t' low d
        either (inr high) =
            let here : j ≡ t' = omega arith in
            subst (λ (x : ℕ). has set x ≡ true) here
            (latest j (and_right so_far (not (depends_on ss s j) || has set j) e) (subst (λ (x : ℕ). depends_on ss s x ≡ true) (sym here) d))

-- A statement is ready where all that it depends on is scheduled, and so where all before it are.
implied : (a b : Bool) → (a ≡ true → b ≡ true) → not a || b ≡ true
implied true b h = h refl
implied false b h = refl

pub depends_ready : (ss : List Statement) (set s : ℕ) → ((t : ℕ) → depends_on ss s t ≡ true → has set t ≡ true) → statement_ready ss set s ≡ true
depends_ready ss set s h =
    count_up (λ (j : ℕ) (so_far : Bool). so_far ≡ true) (λ earlier ready. ready && (not (depends_on ss s earlier) || has set earlier)) s true refl
    λ j so_far below known. and_both so_far (not (depends_on ss s j) || has set j) known (implied (depends_on ss s j) (has set j) (h j))

pub ready_behind : (ss : List Statement) (set s : ℕ) → ((t : ℕ) → t < s → has set t ≡ true) → statement_ready ss set s ≡ true
ready_behind ss set s h = depends_ready ss set s (λ t depends. h t (ltb-true t s (and_left _ _ (and_left _ _ depends))))
