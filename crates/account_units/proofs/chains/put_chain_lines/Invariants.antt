-- What holds at each turn of the loops of `account_units::chains.put_chain_lines`.
use Rattle.account_units.specs.InTables.{chain_line}
use Rattle.account_units.proofs.Telling.{Telling}
use Rattle.account_units.proofs.chains.put_chain_lines.Given as goal

abbrev pub invariant-loop-s : goal.invariant-loop-s
invariant-loop-s l = Telling (chain_line l.next l.rights l.count) l.n l.fn.out l.at l.out l.behind l.s
