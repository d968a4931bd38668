-- What holds at each turn of the loops of `account_units::chains.put_along`.
use Rattle.account_units.proofs.Turns.{Along}
use Rattle.account_units.proofs.chains.put_along.Given as goal

abbrev pub invariant-loop-i : goal.invariant-loop-i
invariant-loop-i l = Along l.count l.next l.s l.fn.out l.at l.out l.behind l.statement l._i
