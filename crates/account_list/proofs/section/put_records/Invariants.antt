-- What holds at each turn of the loop of `account_list::section.put_records`.
use mathlib.Core.Path.{◌≡◌}
use lib.ListN.{take}
use Rattle.text.proofs.Putting.{Putting}
use Rattle.account_list.proofs.Records.{place_of, lines_left}
use Rattle.account_list.proofs.section.put_records.Given as goal

abbrev pub invariant-loop-record : goal.invariant-loop-record
invariant-loop-record l = Putting (lines_left (take l.fn.block.count l.fn.block.statements) l.list l.count) l.count l.fn.out l.at l.out l.behind l._record × (l.start ≡ place_of l.list l._record)
