-- `put_operand` meets its contract: a slot past the lanes is not shown.
use borrow.Author.Tests.{le-leb, lt-leb}
use Rattle.text.proofs.Putting.{both, nothing}
use Rattle.account_list.proofs.lanes.put_operand.Goals as goal

pub returns-then-k-slot : goal.returns-then-k-slot
returns-then-k-slot c =
    rw (le-leb c.args.k c.args.slot c.if-k-slot.true) (nothing c.args.out.now c.args.at)

pub returns : goal.returns
returns c =
    rw (lt-leb c.args.k c.args.slot c.if-k-slot.false) (both c.put_words-behind.ensures c.put_operand.ensures)
