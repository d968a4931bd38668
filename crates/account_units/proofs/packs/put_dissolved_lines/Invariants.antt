-- What holds at each turn of the loops of `account_units::packs.put_dissolved_lines`.
use Rattle.account_units.specs.InTables.{dissolved_line}
use Rattle.account_units.proofs.Telling.{Telling}
use Rattle.account_units.proofs.packs.put_dissolved_lines.Given as goal

abbrev pub invariant-loop-s : goal.invariant-loop-s
invariant-loop-s l = Telling (dissolved_line l.table l.waiting l.scheduled l.count) 64 l.fn.out l.at l.out l.behind l.s
