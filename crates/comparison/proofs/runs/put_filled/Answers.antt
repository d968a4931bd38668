-- `runs::put_filled` meets its contract: three times the same contents.
use mathlib.Core.Path.{ap, ◌∙◌}
use Prim.Native.Nat.{ℕ}
use mathlib.Core.List.{List}
use native.Mathlib.Omega.{arith}
use Rattle.text.proofs.Putting.{reads_as}
use Rattle.comparison.specs.Input.{numbers_in}
use Rattle.comparison.proofs.Filled.{filled}
use Rattle.comparison.proofs.runs.put_filled.Goals as goal

pub take_numbers-requires-5 : goal.take_numbers-requires-5
take_numbers-requires-5 c =
    omega (arith, c.requires.few_to_take.0, c.requires.as_many_variables.1)

pub take_numbers-requires-6 : goal.take_numbers-requires-6
take_numbers-requires-6 c =
    omega (arith, c.requires.few_to_take.1, c.requires.as_many_cells.1)

pub put_run_sides-requires : goal.put_run_sides-requires
put_run_sides-requires c =
    record { few_arrays = c.requires.few_arrays; lengths_fit = c.requires.lengths_fit }

pub shape_of-start_variables : goal.shape_of-start_variables
shape_of-start_variables c = c.take_numbers.auto.numbers

pub shape_of-start_cells : goal.shape_of-start_cells
shape_of-start_cells c = c.take_numbers-2.auto.numbers

pub returns : goal.returns
returns c =
    let variables : ℕ → List ℕ = λ n. numbers_in n c.args.variable_bytes.now in
    let cells : ℕ → List ℕ = λ n. numbers_in n c.args.cell_bytes.now in
    reads_as c.put_run_sides.ensures
    (filled c.args.lengths.now c.args.live c.args.bytes.now c.args.room.now
    c.take_numbers.ensures
    c.take_numbers-2.ensures
    (c.take_numbers-3.ensures ∙ ap variables c.requires.as_many_variables.0)
    (c.take_numbers-4.ensures ∙ ap cells c.requires.as_many_cells.0)
    (c.take_numbers-5.ensures ∙ ap variables c.requires.as_many_variables.1)
    (c.take_numbers-6.ensures ∙ ap cells c.requires.as_many_cells.1))
