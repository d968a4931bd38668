-- Readiness as words: a unit's needs are all scheduled where each of its statements is ready.
use mathlib.Core.Path.{◌≡◌, refl, sym, ap, ◌∙◌}
use mathlib.Core.Logic.{◌⊎◌, inl, inr}
use mathlib.Core.Bool.{Bool, true, false, ◌&&◌, and-true, and_assoc}
use mathlib.Core.List.{List, [], ◌∷◌}
use Prim.Native.Nat.{ℕ}
use lib.Bits.{bit_and, and_zero_l}
use lib.ListN.{get_or}
use borrow.Author.Tests.{eqb-true, eq-eqb}
use Rattle.basics.specs.Lists.{each}
use Rattle.basics.specs.Sets.{nobody, join, has}
use Rattle.basics.proofs.Tests.{and_left, and_right, and_both, or_either, or_left, or_right, same_test}
use Rattle.basics.proofs.Sets.{has_both, has_join, same_sets}
use Rattle.meaning.specs.declared.Statement.{Statement}
use Rattle.meaning.specs.Schedule.{statement_ready, is_ready}
use Rattle.theorems.proofs.Ready.{ready_depends, depends_ready}
use Rattle.reach.specs.Tied.{Rowed}
use Rattle.units.specs.Waiting.{needed_by}
use Rattle.schedule.specs.Stages.{word_ready}

-- a set is within another where they share all of it
absorbed : (a b : Bool) → (a ≡ true → b ≡ true) → a && b ≡ a
absorbed true b h = h refl
absorbed false b h = refl

within_has : (needed set : ℕ) → word_ready needed set ≡ true → (t : ℕ) → has needed t ≡ true → has set t ≡ true
within_has needed set e t h =
    and_right (has needed t) (has set t)
    (sym (has_both needed set t) ∙ ap (λ (s : ℕ). has s t) (eqb-true (bit_and needed set) needed e) ∙ h)

has_within : (needed set : ℕ) → ((t : ℕ) → has needed t ≡ true → has set t ≡ true) → word_ready needed set ≡ true
has_within needed set h =
    eq-eqb (bit_and needed set) needed (same_sets (bit_and needed set) needed λ t. has_both needed set t ∙ absorbed (has needed t) (has set t) (h t))

-- two sets joined are within another where both are
join_within : (a b set : ℕ) → word_ready (join a b) set ≡ word_ready a set && word_ready b set
join_within a b set =
    same_test (word_ready (join a b) set) (word_ready a set && word_ready b set)
    (λ e. and_both (word_ready a set) (word_ready b set)
    (has_within a set (λ t h. within_has (join a b) set e t (has_join a b t ∙ or_left (has a t) (has b t) h)))
    (has_within b set (λ t h. within_has (join a b) set e t (has_join a b t ∙ or_right (has a t) (has b t) h))))
    (λ e. has_within (join a b) set (λ t h. either t e (or_either (has a t) (has b t) (sym (has_join a b t) ∙ h))))
  where
    either : (t : ℕ) → word_ready a set && word_ready b set ≡ true → (has a t ≡ true) ⊎ (has b t ≡ true) → has set t ≡ true
    either t e (inl h) = within_has a set (and_left (word_ready a set) (word_ready b set) e) t h
    either t e (inr h) = within_has b set (and_right (word_ready a set) (word_ready b set) e) t h

module _ (ss : List Statement) (direct reached : List ℕ) (rowed : Rowed ss direct reached) where
  statement_within : (set s : ℕ) → word_ready (get_or direct s 0) set ≡ statement_ready ss set s
  statement_within set s =
      same_test (word_ready (get_or direct s 0) set) (statement_ready ss set s)
      (λ e. depends_ready ss set s (λ t d. within_has (get_or direct s 0) set e t (rowed.depends s t ∙ d)))
      (λ e. has_within (get_or direct s 0) set (λ t h. ready_depends ss set s e t (sym (rowed.depends s t) ∙ h)))

  needs_within : (set : ℕ) (unit : List ℕ) (needed : ℕ)
      → word_ready (each (λ s so_far. join so_far (get_or direct s 0)) unit needed) set ≡ word_ready needed set && is_ready ss set unit
  needs_within set [] needed = sym (and-true (word_ready needed set))
  needs_within set (s ∷ rest) needed =
      needs_within set rest (join needed (get_or direct s 0))
      ∙ ap (λ (a : Bool). a && is_ready ss set rest) (join_within needed (get_or direct s 0) set)
      ∙ and_assoc (word_ready needed set) (word_ready (get_or direct s 0) set) (is_ready ss set rest)
      ∙ ap (λ (a : Bool). word_ready needed set && (a && is_ready ss set rest)) (statement_within set s)

  -- "It is ready when all that its statements depend on is scheduled."
  pub unit_within : (set : ℕ) (unit : List ℕ) → word_ready (needed_by direct unit) set ≡ is_ready ss set unit
  unit_within set unit =
      needs_within set unit nobody
      ∙ ap (λ (a : Bool). a && is_ready ss set unit) (eq-eqb (bit_and nobody set) nobody (and_zero_l set))
