-- Demand 3, the units: those that are scheduled are known, and running them, each at one stroke, is running the block.
use mathlib.Core.Path.{◌≡◌, refl, sym, ap, ◌∙◌}
use mathlib.Core.List.{List, [], ◌∷◌}
use Prim.Native.Nat.{ℕ}
use Rattle.basics.specs.Lists.{flat, each}
use Rattle.basics.proofs.Finding.{each_append}
use Rattle.meaning.specs.declared.Statement.{Statement}
use Rattle.meaning.specs.Seeding.{seed}
use Rattle.meaning.specs.Extension.{extend}
use Rattle.meaning.specs.Combination.{combine}
use Rattle.meaning.specs.Choice.{scheduled_units}
use Rattle.theorems.specs.Memory.{Memory, ran, at_one_stroke}
use Rattle.theorems.specs.Units.{Every, Pairwise, Fits, Units}
use Rattle.theorems.proofs.Independence.{apart_free}
use Rattle.theorems.proofs.Occurs.{pairwise_weaker}
use Rattle.theorems.proofs.Orders.{ran_at, order_runs}
use Rattle.theorems.proofs.Units.{flat_below}
use Rattle.theorems.proofs.Strokes.{stroke_free}
use Rattle.theorems.proofs.Pairing.{pairs_admitted}
use Rattle.theorems.proofs.Combination.{combined_units}
use Rattle.theorems.proofs.Schedule.{Free, schedule_units, schedule_ordered}

module _ (ss : List Statement) where
  -- units that fit, each at one stroke, run as their statements one after the other
  pub strokes_run : (units : List (List ℕ)) → Every (Fits ss) units → (m : Memory) → each (at_one_stroke ss) units m ≡ each (ran_at ss) (flat units) m
  strokes_run [] fit m = refl
  strokes_run (unit ∷ units) fit m =
      ap (each (at_one_stroke ss) units) (stroke_free ss unit unit (λ s. refl) (pairwise_weaker (apart_free ss) unit fit.0.apart) m)
      ∙ strokes_run units fit.1 (each (ran_at ss) unit m)
      ∙ sym (each_append (ran_at ss) unit (flat units) m)

  combined : Units ss (combine ss (extend ss (seed ss)))
  combined = combined_units ss (extend ss (seed ss)) (pairs_admitted ss)

  -- What is known of the units that are scheduled: each is a single or a pack of 2 or 4 statements of the block, pairwise independent, of one
  -- operation and one kind of destination; and each statement of the block is in one of them, once.
  pub units_of_lem : Units ss (scheduled_units ss)
  unfolding scheduled_units
  units_of_lem = schedule_units ss (combine ss (extend ss (seed ss))) combined

  -- No statement depends on one of its own unit or of a later one.
  pub units_ordered : Pairwise (Free ss) (flat (scheduled_units ss))
  unfolding scheduled_units
  units_ordered = schedule_ordered ss (combine ss (extend ss (seed ss))) combined

  -- Running the scheduled units, each at one stroke, is running the block.
  pub schedule_runs : (m : Memory) → each (at_one_stroke ss) (scheduled_units ss) m ≡ each ran ss m
  schedule_runs m =
      strokes_run (scheduled_units ss) units_of_lem.fit m
      ∙ order_runs ss (flat (scheduled_units ss)) (flat_below ss (scheduled_units ss) units_of_lem.fit) units_of_lem.once units_ordered m
