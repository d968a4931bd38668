-- What holds at each turn of the loop of `reach::reachability`.
use mathlib.Core.Path.{◌≡◌}
use Rattle.reach.specs.Rows.{reached_rows}
use Rattle.reach.proofs.reachability.Given as goal

abbrev pub invariant-loop-i : goal.invariant-loop-i
invariant-loop-i l = l.reached ≡ reached_rows l.direct l.i
