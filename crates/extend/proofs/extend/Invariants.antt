-- What holds at each turn of the loop of `extend::extend`.
use mathlib.Core.Path.{◌≡◌}
use Prim.Native.Nat.{◌+◌, ◌-◌, ◌*◌, ◌≤◌}
use Rattle.pairs.specs.Admission.{admitted_tables}
use Rattle.extend.specs.Visits.{visit_tables_from}
use Rattle.extend.proofs.extend.Given as goal

abbrev pub invariant-loop-i : goal.invariant-loop-i
invariant-loop-i l = (visit_tables_from l.n l.tables.facts l.reached 0 (admitted_tables l.fn.admitted)
    ≡ visit_tables_from (l.n - l.i) l.tables.facts l.reached l.i (admitted_tables l.admitted))
    × (l.admitted.count ≤ 64 + 3 * l.i)
