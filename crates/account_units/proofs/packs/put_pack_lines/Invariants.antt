-- What holds at each turn of the loops of `account_units::packs.put_pack_lines`.
use Rattle.account_units.specs.InTables.{pack_line}
use Rattle.account_units.proofs.Telling.{Telling}
use Rattle.account_units.proofs.packs.put_pack_lines.Given as goal

abbrev pub invariant-loop-s : goal.invariant-loop-s
invariant-loop-s l = Telling (pack_line l.table l.waiting) 64 l.fn.out l.at l.out l.behind l.s
