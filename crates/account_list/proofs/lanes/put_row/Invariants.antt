-- What holds at each turn of the loops of `account_list::lanes.put_row`.
use Rattle.text.proofs.Putting.{Putting}
use Rattle.account_list.proofs.Slots.{row_from}
use Rattle.account_list.proofs.lanes.put_row.Given as goal

abbrev pub invariant-loop-i : goal.invariant-loop-i
invariant-loop-i l = Putting (row_from l.k l.array l.index) l.k l.fn.out l.at l.out l.behind l.i
