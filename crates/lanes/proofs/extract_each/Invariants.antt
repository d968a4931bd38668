-- What holds at each turn of the loop of `lanes::extract_each`: with the lanes that are left, all are extracted.
use Rattle.std.proofs.Common.{◌≡◌, ℕ, ◌-◌}
use Rattle.basics.specs.Counting.{count}
use Rattle.registers.specs.Table.{tuple_lane}
use Rattle.lanes.specs.Homes.{InLanes, in_lanes, extract_code}
use Rattle.lanes.proofs.extract_each.Given as goal

abbrev pub invariant-loop-code : goal.invariant-loop-code
invariant-loop-code l =
    let step : ℕ → InLanes → InLanes = λ i. extract_code (tuple_lane l.fn.tuple i) in
    count 4 0 step (in_lanes l.fn.out l.fn.homes l.initial.written) ≡ count (4 - l.code-index) l.code-index step (in_lanes l.out l.homes l.written)
