-- What holds at each turn of the loop of `schedule::schedule`.
use mathlib.Core.Path.{◌≡◌}
use Prim.Native.Nat.{◌+◌, ◌-◌, ◌≤◌}
use Rattle.basics.specs.Sets.{nobody}
use Rattle.schedule.specs.Stages.{stage, stage_of, steps_from}
use Rattle.schedule.proofs.schedule.Given as goal

abbrev pub invariant-loop : goal.invariant-loop
invariant-loop l = (l.progress.count ≤ l.counter)
    × (steps_from (l.n + l.n) l.direct (stage l.fn.units l.fn.needs l.fn.order l.waiting nobody 0) ≡ steps_from (l.n + l.n - l.counter) l.direct (stage_of l.units l.needs l.order l.progress))
