-- What holds at each turn of the loop of `reach::dependences`.
use mathlib.Core.Path.{◌≡◌}
use Rattle.reach.specs.Rows.{direct_rows}
use Rattle.reach.proofs.dependences.Given as goal

abbrev pub invariant-loop-i : goal.invariant-loop-i
invariant-loop-i l = l.direct ≡ direct_rows l.fn.statements l.i l.tables.numbers l.tables.writers l.tables.lefts l.tables.rights
