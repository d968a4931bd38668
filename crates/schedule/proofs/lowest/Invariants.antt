-- What holds at each turn of the loop of `schedule::lowest`.
use mathlib.Core.Path.{◌≡◌}
use mathlib.Core.Bool.{Bool}
use Prim.Native.Nat.{ℕ, ◌^◌, ◌<◌}
use Rattle.schedule.specs.Stages.{lowest_waiting, Decides}
use Rattle.schedule.proofs.lowest.Given as goal

abbrev pub invariant-loop-rest : goal.invariant-loop-rest
invariant-loop-rest g l =
    (l.rest < 2 ^ 64)
    × ((test : ℕ → Bool) → Decides (goal.F-post g l.passes) test → lowest_waiting test l.set ≡ lowest_waiting test l.rest)

abbrev pub decreases-loop-rest : goal.decreases-loop-rest
decreases-loop-rest g l = l.rest
