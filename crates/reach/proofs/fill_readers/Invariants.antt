-- What holds at each turn of the loop of `reach::fill_readers`.
use mathlib.Core.Path.{◌≡◌}
use Rattle.reach.specs.Rows.{tables_with_readers}
use Rattle.reach.proofs.fill_readers.Given as goal

abbrev pub invariant-loop-i : goal.invariant-loop-i
invariant-loop-i l = l.tables ≡ tables_with_readers l.i l.fn.tables
