-- What holds at each turn of the loop of `reach::fill_definitions`.
use mathlib.Core.Path.{◌≡◌}
use Rattle.reach.specs.Rows.{tables_with_definitions}
use Rattle.reach.proofs.fill_definitions.Given as goal

abbrev pub invariant-loop-i : goal.invariant-loop-i
invariant-loop-i l = l.tables ≡ tables_with_definitions l.i l.fn.tables
