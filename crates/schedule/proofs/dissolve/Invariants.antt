-- What holds at each turn of the loop of `schedule::dissolve`: what the lanes that are left still do.
use mathlib.Core.Path.{◌≡◌}
use Prim.Native.Nat.{◌-◌}
use lib.ListN.{get_or}
use Rattle.basics.specs.Counting.{count}
use Rattle.schedule.specs.Stages.{written, single_word, single_need, with_single, in_lanes}
use Rattle.schedule.proofs.dissolve.Given as goal

abbrev pub invariant-loop-lane : goal.invariant-loop-lane
invariant-loop-lane l =
    (in_lanes (written single_word) (get_or l.fn.units l.at 0) l.fn.units ≡ count (4 - l.lane-index) l.lane-index (λ i. written single_word (get_or l.lane-items i 0)) l.units)
    × (in_lanes (written (single_need l.direct)) (get_or l.fn.units l.at 0) l.fn.needs ≡ count (4 - l.lane-index) l.lane-index (λ i. written (single_need l.direct) (get_or l.lane-items i 0)) l.needs)
    × (in_lanes with_single (get_or l.fn.units l.at 0) l.fn.progress.waiting ≡ count (4 - l.lane-index) l.lane-index (λ i. with_single (get_or l.lane-items i 0)) l.waiting)
