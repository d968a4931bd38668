-- `runs::put_declared` meets its contract: of each array the part that is declared is lent.
use mathlib.Core.Path.{refl, sym}
use native.Mathlib.Omega.{arith}
use Rattle.text.proofs.Putting.{reads_as}
use Rattle.comparison.proofs.Filled.{part_long, part_low, in_arrays}
use Rattle.comparison.proofs.runs.put_declared.Goals as goal

pub slice_bounds-put_filled-end-2 : goal.slice_bounds-put_filled-end-2
slice_bounds-put_filled-end-2 c = sym (part_long c.args.variables 32 c.requires.few_places.0)

pub slice_bounds-put_filled-end-3 : goal.slice_bounds-put_filled-end-3
slice_bounds-put_filled-end-3 c = sym (part_long c.args.cells 2048 c.requires.few_places.1)

pub slice_bounds-put_filled-end-4 : goal.slice_bounds-put_filled-end-4
slice_bounds-put_filled-end-4 c = sym (part_long c.args.variables 32 c.requires.few_places.0)

pub slice_bounds-put_filled-end-5 : goal.slice_bounds-put_filled-end-5
slice_bounds-put_filled-end-5 c = sym (part_long c.args.cells 2048 c.requires.few_places.1)

pub slice_bounds-put_filled-end-6 : goal.slice_bounds-put_filled-end-6
slice_bounds-put_filled-end-6 c = sym (part_long c.args.variables 32 c.requires.few_places.0)

pub slice_bounds-put_filled-end-7 : goal.slice_bounds-put_filled-end-7
slice_bounds-put_filled-end-7 c = sym (part_long c.args.cells 2048 c.requires.few_places.1)

pub put_filled-requires : goal.put_filled-requires
put_filled-requires c =
    record {
      few_arrays = c.requires.few_arrays;
      lengths_fit = c.requires.lengths_fit;
      few_to_take = (
        part_low c.args.variables 32 2048 c.requires.few_places.0 (omega (arith, c.requires.few_places.0)),
        part_low c.args.cells 2048 2048 c.requires.few_places.1 c.requires.few_places.1,
      );
      as_many_variables = (refl, refl);
      as_many_cells = (refl, refl);
    }

pub returns : goal.returns
returns c =
    reads_as c.put_filled.ensures
    (in_arrays c.args.lengths.now c.args.live c.args.bytes.now c.args.variable_bytes.now c.args.cell_bytes.now c.args.variables c.args.cells c.requires.few_places.0 c.requires.few_places.1)
