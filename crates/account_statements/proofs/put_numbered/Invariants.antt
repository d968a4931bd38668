-- What holds at each turn of the loops of `account_statements::put_numbered`.
use lib.ListN.{length}
use Rattle.text.proofs.Putting.{Putting}
use Rattle.account_statements.proofs.Turns.{lines_from}
use Rattle.account_statements.proofs.put_numbered.Given as goal

abbrev pub invariant-loop-i : goal.invariant-loop-i
invariant-loop-i l = Putting (lines_from l.s-items) (length l.s-items) l.fn.out l.at l.out l.behind l.i
