-- What holds at each turn of the loops of `account_units::chains.put_pair_lines`.
use Rattle.account_units.specs.InTables.{pair_line}
use Rattle.account_units.proofs.Telling.{Telling}
use Rattle.account_units.proofs.chains.put_pair_lines.Given as goal

abbrev pub invariant-loop-i : goal.invariant-loop-i
invariant-loop-i l = Telling (pair_line l.order l.next) l.count l.fn.out l.at l.out l.behind l.i
