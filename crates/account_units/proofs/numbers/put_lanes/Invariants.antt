-- What holds at each turn of the loops of `account_units::numbers.put_lanes`.
use lib.ListN.{length}
use Rattle.account_units.proofs.Turns.{Numbering}
use Rattle.account_units.proofs.numbers.put_lanes.Given as goal

abbrev pub invariant-loop-lane : goal.invariant-loop-lane
invariant-loop-lane l = Numbering l.lane-items (length l.lane-items) l.fn.out l.at l.out l.behind l.lane-index
