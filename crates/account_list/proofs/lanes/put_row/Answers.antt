-- `put_row` meets its contract: each turn puts the next cell.
use Rattle.text.proofs.Putting.{start, next, finish, reads_as}
use Rattle.account_list.proofs.Slots.{row_from, row_next, row_none, row_whole}
use Rattle.account_list.proofs.lanes.put_row.Goals as goal

pub loop-i-init : goal.loop-i-init
loop-i-init c =
    start (row_from c.args.k c.args.array c.args.index)

pub loop-i-preserved : goal.loop-i-preserved
loop-i-preserved c =
    next (row_from c.args.k c.args.array c.args.index) c.loop-i.invariant (rw c.from-i-end.ensures at c.loop-i-test.true) (row_next c.args.k c.args.array c.args.index c.loop-i.i (rw c.from-i-end.ensures at c.loop-i-test.true))
    (rw c.from-first.ensures at c.put_cell-behind.ensures)

pub shape_of-out : goal.shape_of-out
shape_of-out c = c.loop-i.invariant.long

pub returns : goal.returns
returns c =
    reads_as
    (finish (row_from c.args.k c.args.array c.args.index) c.loop-i.invariant (row_none c.args.k c.args.array c.args.index c.loop-i.i (rw c.from-i-end.ensures at c.loop-i-test.false)))
    (row_whole c.args.k c.args.array c.args.index)
