-- `put_cells` meets its contract: each turn puts the lines of the next array.
-- the text of one place
use mathlib.Core.Path.{ap}
use mathlib.Core.List.{List}
use Prim.Native.Nat.{ℕ}
use native.Mathlib.Omega.{arith}
use Rattle.meaning.specs.declared.Place.TheVariants.{Cell}
use Rattle.text.proofs.Putting.{start, next, finish, reads_as}
use Rattle.ends.specs.Places.{in_turn}
use Rattle.ends.proofs.Turns.{cells_from, cells_next, cells_none, few_cells}
use Rattle.ends.proofs.put_cells.Invariants.{text_of}
use Rattle.ends.proofs.put_cells.Goals as goal

pub loop-a-init : goal.loop-a-init
loop-a-init c =
    start (cells_from (text_of c.args.ends.lengths.now c.args.ends.start.variables.now c.args.ends.start.cells.now c.args.ends.block.variables.now c.args.ends.block.cells.now c.args.ends.list.variables.now c.args.ends.list.cells.now) c.args.ends.lengths.now)

pub overflow_cast-a : goal.overflow_cast-a
overflow_cast-a c = omega (arith, c.loop-a-test.true, c.requires.few_arrays)

pub put_array-behind-requires : goal.put_array-behind-requires
put_array-behind-requires c =
    omega (arith, c.from.ensures, few_cells c.args.ends.lengths.now c.loop-a.a c.requires.lengths_fit c.loop-a-test.true)

pub loop-a-preserved : goal.loop-a-preserved
loop-a-preserved c =
    let text = text_of c.args.ends.lengths.now c.args.ends.start.variables.now c.args.ends.start.cells.now c.args.ends.block.variables.now c.args.ends.block.cells.now c.args.ends.list.variables.now c.args.ends.list.cells.now in
    let cells : ℕ → List ℕ = λ n. in_turn (λ i. text (Cell c.loop-a.a i)) n 0 in
    next (cells_from text c.args.ends.lengths.now) c.loop-a.invariant c.loop-a-test.true (cells_next text c.args.ends.lengths.now c.loop-a.a c.loop-a-test.true)
    (reads_as c.put_array-behind.ensures (ap cells c.from.ensures))

pub returns : goal.returns
returns c =
    let text = text_of c.args.ends.lengths.now c.args.ends.start.variables.now c.args.ends.start.cells.now c.args.ends.block.variables.now c.args.ends.block.cells.now c.args.ends.list.variables.now c.args.ends.list.cells.now in
    finish (cells_from text c.args.ends.lengths.now) c.loop-a.invariant (cells_none text c.args.ends.lengths.now c.loop-a.a c.loop-a-test.false)
