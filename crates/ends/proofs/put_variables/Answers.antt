-- `put_variables` meets its contract: each turn puts the line of the next variable.
-- the text of the next one
use Rattle.text.proofs.Putting.{start, next, finish, reads_as}
use Rattle.ends.specs.Places.{variable_lines}
use Rattle.ends.proofs.Turns.{turns_from, turns_next, turns_none, turns_all}
use Rattle.ends.proofs.put_variables.Invariants.{text_of}
use Rattle.ends.proofs.put_variables.Goals as goal

pub loop-v-init : goal.loop-v-init
loop-v-init c =
    start (turns_from (text_of c.args.ends.lengths.now c.args.ends.start.variables.now c.args.ends.start.cells.now c.args.ends.block.variables.now c.args.ends.block.cells.now c.args.ends.list.variables.now c.args.ends.list.cells.now) c.args.live)

pub loop-v-preserved : goal.loop-v-preserved
loop-v-preserved c =
    let text = text_of c.args.ends.lengths.now c.args.ends.start.variables.now c.args.ends.start.cells.now c.args.ends.block.variables.now c.args.ends.block.cells.now c.args.ends.list.variables.now c.args.ends.list.cells.now in
    next (turns_from text c.args.live) c.loop-v.invariant c.loop-v-test.true (turns_next text c.args.live c.loop-v.v c.loop-v-test.true) c.put_place_line-behind.ensures

pub returns : goal.returns
unfolding variable_lines
returns c =
    let text = text_of c.args.ends.lengths.now c.args.ends.start.variables.now c.args.ends.start.cells.now c.args.ends.block.variables.now c.args.ends.block.cells.now c.args.ends.list.variables.now c.args.ends.list.cells.now in
    reads_as (finish (turns_from text c.args.live) c.loop-v.invariant (turns_none text c.args.live c.loop-v.v c.loop-v-test.false)) (turns_all text c.args.live)
