-- "Seeding" and "Extension" admit a pair only where it may be admitted, so what holds of admitted pairs holds of theirs.
use mathlib.Core.Path.{◌≡◌}
use mathlib.Core.Bool.{Bool, true, false, ◌&&◌}
use mathlib.Core.Option.{Option, none, some}
use mathlib.Core.List.{List, []}
use Prim.Native.Nat.{ℕ, zero, suc, ◌+◌}
use lib.Dec.{ltb}
use lib.ListN.{length, get_or}
use Rattle.basics.specs.Counting.{count}
use Rattle.basics.proofs.Tests.{and_left, and_right}
use Rattle.basics.proofs.Counting.{count_up}
use Rattle.basics.proofs.Parts.{pick_holds}
use Rattle.meaning.specs.declared.Statement.{Statement}
use Rattle.meaning.specs.Block.{Position, left, right, statement}
use Rattle.meaning.specs.Pairs.{Pair, pair, may_be_admitted, admit}
use Rattle.meaning.specs.Seeding.{row_in_some_position, seed_one, seed}
use Rattle.meaning.specs.Estimate.{definitions, pays}
use Rattle.meaning.specs.Extension.{admit_if_pays, admit_definitions, use_to_definition, reads_result, is_better, better, best_with, best_readers, admit_best, both_variables, definition_to_use, visit, visit_from, extend}
use Rattle.theorems.proofs.Pairs.{Admitted, none_admitted, admit_keeps}

module _ (ss : List Statement) where
  seed_one_lem : (p : Pair) (pairs : List Pair) → Admitted ss pairs → Admitted ss (seed_one ss p pairs)
  seed_one_lem p pairs known =
      pick_holds (Admitted ss) (row_in_some_position (statement ss p.left) (statement ss p.right) && may_be_admitted ss pairs p) (admit pairs p) pairs
      (λ e. admit_keeps ss pairs p known (and_right (row_in_some_position (statement ss p.left) (statement ss p.right)) _ e))
      (λ e. known)

  pub seed_admitted : Admitted ss (seed ss)
  unfolding seed
  seed_admitted =
      count_up (λ (s : ℕ) (pairs : List Pair). Admitted ss pairs) (λ s. count (length ss) 0 (λ t. seed_one ss (pair s t))) (length ss) [] (none_admitted ss)
      λ s pairs below known.
      count_up (λ (t : ℕ) (so_far : List Pair). Admitted ss so_far) (λ t. seed_one ss (pair s t)) (length ss) pairs known
      λ t so_far below' known'. seed_one_lem (pair s t) so_far known'

  -- use to definition
  if_pays : (p : Pair) (pairs : List Pair) → Admitted ss pairs → Admitted ss (admit_if_pays ss p pairs)
  if_pays p pairs known =
      pick_holds (Admitted ss) (may_be_admitted ss pairs p && pays ss pairs p) (admit pairs p) pairs
      (λ e. admit_keeps ss pairs p known (and_left (may_be_admitted ss pairs p) (pays ss pairs p) e))
      (λ e. known)

  definitions_admitted : (found : Option Pair) (pairs : List Pair) → Admitted ss pairs → Admitted ss (admit_definitions ss found pairs)
  definitions_admitted none pairs known = known
  definitions_admitted (some p) pairs known = if_pays p pairs known

  pub use_to_definition_lem : (p : Pair) (position : Position) (pairs : List Pair) → Admitted ss pairs → Admitted ss (use_to_definition ss p position pairs)
  unfolding use_to_definition
  use_to_definition_lem p position pairs known = definitions_admitted (definitions ss position p) pairs known

  -- definition to use: what is picked may be admitted
  abbrev Picks : List Pair → Option Pair → Type 0
  Picks pairs none = Unit
  Picks pairs (some p) = may_be_admitted ss pairs p ≡ true

  better_picks : (pairs : List Pair) (p : Pair) (best : Option Pair) → Picks pairs best → Picks pairs (better ss pairs p best)
  better_picks pairs p best known =
      pick_holds (Picks pairs) (may_be_admitted ss pairs p && pays ss pairs p && is_better ss pairs p best) (some p) best
      (λ e. and_left (may_be_admitted ss pairs p) (pays ss pairs p) (and_left (may_be_admitted ss pairs p && pays ss pairs p) (is_better ss pairs p best) e))
      (λ e. known)

  best_with_lem : (pairs : List Pair) (partner t : ℕ) (best : Option Pair) → Picks pairs best → Picks pairs (best_with ss pairs partner t best)
  best_with_lem pairs partner t best known =
      count_up (λ (t' : ℕ) (found : Option Pair). Picks pairs found)
      (λ t' found. elim (reads_result ss partner t') [ true ↦ better ss pairs (pair t t') found | false ↦ found ])
      (length ss) best known
      λ t' found below so_far. either t' found so_far (reads_result ss partner t')
    where
      either : (t' : ℕ) (found : Option Pair) → Picks pairs found → (test : Bool)
          → Picks pairs (elim test [ true ↦ better ss pairs (pair t t') found | false ↦ found ])
      either t' found so_far true = better_picks pairs (pair t t') found so_far
      either t' found so_far false = so_far

  best_readers_lem : (pairs : List Pair) (p : Pair) → Picks pairs (best_readers ss pairs p)
  unfolding best_readers
  best_readers_lem pairs p =
      count_up (λ (t : ℕ) (found : Option Pair). Picks pairs found)
      (λ t found. elim (reads_result ss p.left t) [ true ↦ best_with ss pairs p.right t found | false ↦ found ])
      (length ss) none tt
      λ t found below so_far. either t found so_far (reads_result ss p.left t)
    where
      either : (t : ℕ) (found : Option Pair) → Picks pairs found → (test : Bool)
          → Picks pairs (elim test [ true ↦ best_with ss pairs p.right t found | false ↦ found ])
      either t found so_far true = best_with_lem pairs p.right t found so_far
      either t found so_far false = so_far

  best_admitted : (found : Option Pair) (pairs : List Pair) → Picks pairs found → Admitted ss pairs → Admitted ss (admit_best found pairs)
  best_admitted none pairs picks known = known
  best_admitted (some p) pairs picks known = admit_keeps ss pairs p known picks

  pub definition_to_use_lem : (p : Pair) (pairs : List Pair) → Admitted ss pairs → Admitted ss (definition_to_use ss p pairs)
  unfolding definition_to_use
  definition_to_use_lem p pairs known = either (both_variables ss p)
    where
      either : (test : Bool) → Admitted ss (elim test [ true ↦ admit_best (best_readers ss pairs p) pairs | false ↦ pairs ])
      either true = best_admitted (best_readers ss pairs p) pairs (best_readers_lem pairs p) known
      either false = known

  -- each visit, and all of them
  pub visit_admitted : (p : Pair) (pairs : List Pair) → Admitted ss pairs → Admitted ss (visit ss p pairs)
  visit_admitted p pairs known =
      definition_to_use_lem p (use_to_definition ss p right (use_to_definition ss p left pairs))
      (use_to_definition_lem p right (use_to_definition ss p left pairs) (use_to_definition_lem p left pairs known))

  pub visits_admitted : (n i : ℕ) (pairs : List Pair) → Admitted ss pairs → Admitted ss (visit_from n ss i pairs)
  unfolding visit_from
  visits_admitted zero i pairs known = known
  visits_admitted (suc n) i pairs known =
      either (ltb i (length pairs))
      (visits_admitted n (i + 1) (visit ss (get_or pairs i (pair 0 0)) pairs) (visit_admitted (get_or pairs i (pair 0 0)) pairs known))
    where
      either : (test : Bool) → Admitted ss (visit_from n ss (i + 1) (visit ss (get_or pairs i (pair 0 0)) pairs))
          → Admitted ss (elim test [ true ↦ visit_from n ss (i + 1) (visit ss (get_or pairs i (pair 0 0)) pairs) | false ↦ pairs ])
      either true later = later
      either false later = known

  -- All pairs that are made, of seeding and of extension, are admitted so.
  pub pairs_admitted : Admitted ss (extend ss (seed ss))
  unfolding extend
  pairs_admitted = visits_admitted (length ss) 0 (seed ss) seed_admitted
