-- What holds at each turn of the loop of `lanes::extract_live`: with the variables that are left, all are extracted.
use Rattle.std.proofs.Common.{◌≡◌, ℕ, ◌+◌, ◌-◌, ◌*◌}
use Rattle.basics.specs.Counting.{count}
use Rattle.lanes.specs.Homes.{InLanes, in_lanes, extract_code}
use Rattle.lanes.proofs.extract_live.Given as goal

abbrev pub invariant-loop-v : goal.invariant-loop-v
invariant-loop-v l =
    let step : ℕ → InLanes → InLanes = λ v. extract_code (2 + 2 * v) in
    count l.live 0 step (in_lanes l.fn.out l.fn.homes l.initial.w) ≡ count (l.live - l.v) l.v step (in_lanes l.out l.homes l.w)
