-- What holds at each turn of the loop of `pairs::seed`.
use mathlib.Core.Path.{◌≡◌}
use Prim.Native.Nat.{◌≤◌}
use Rattle.pairs.specs.Admission.{admitted_tables, empty, seeded_tables}
use Rattle.pairs.proofs.seed.Given as goal

abbrev pub invariant-loop-i : goal.invariant-loop-i
invariant-loop-i l =
    (admitted_tables l.admitted
    ≡ seeded_tables l.fn.statements l.i l.tables.facts l.reached l.tables.numbers l.tables.writers l.tables.lefts l.tables.rights empty)
    × (l.admitted.count ≤ l.i)
