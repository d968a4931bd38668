-- `put_array` meets its contract: each turn puts the line of the next cell.
-- the text of the next one
use native.Mathlib.Omega.{arith}
use Rattle.text.proofs.Putting.{start, next, finish, reads_as}
use Rattle.ends.proofs.Turns.{turns_from, turns_next, turns_none, turns_all}
use Rattle.ends.proofs.put_array.Invariants.{text_of}
use Rattle.ends.proofs.put_array.Goals as goal

pub loop-i-init : goal.loop-i-init
loop-i-init c =
    start (turns_from (text_of c.args.array c.args.ends.lengths.now c.args.ends.start.variables.now c.args.ends.start.cells.now c.args.ends.block.variables.now c.args.ends.block.cells.now c.args.ends.list.variables.now c.args.ends.list.cells.now) c.args.count)

pub overflow_cast-place : goal.overflow_cast-place
overflow_cast-place c = omega (arith, c.loop-i-test.true, c.requires)

pub loop-i-preserved : goal.loop-i-preserved
loop-i-preserved c =
    let text = text_of c.args.array c.args.ends.lengths.now c.args.ends.start.variables.now c.args.ends.start.cells.now c.args.ends.block.variables.now c.args.ends.block.cells.now c.args.ends.list.variables.now c.args.ends.list.cells.now in
    next (turns_from text c.args.count) c.loop-i.invariant c.loop-i-test.true (turns_next text c.args.count c.loop-i.i c.loop-i-test.true) c.put_place_line-behind.ensures

pub returns : goal.returns
returns c =
    let text = text_of c.args.array c.args.ends.lengths.now c.args.ends.start.variables.now c.args.ends.start.cells.now c.args.ends.block.variables.now c.args.ends.block.cells.now c.args.ends.list.variables.now c.args.ends.list.cells.now in
    reads_as (finish (turns_from text c.args.count) c.loop-i.invariant (turns_none text c.args.count c.loop-i.i c.loop-i-test.false)) (turns_all text c.args.count)
