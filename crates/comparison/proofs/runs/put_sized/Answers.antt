-- `runs::put_sized` meets its contract: its test is the definition's, and what it computes stays small.
use mathlib.Core.Path.{◌≡◌, ◌∙◌}
use native.Mathlib.Omega.{arith}
use Rattle.basics.specs.Lists.{sum}
use Rattle.text.proofs.Putting.{reads_as}
use Rattle.comparison.proofs.Parts.{every_cell, few_in_all, wrong_size_lem, right_size_lem}
use Rattle.comparison.proofs.runs.put_sized.Goals as goal

pub overflow_add-needed : goal.overflow_add-needed
overflow_add-needed c =
    let cells : c.cell_at-cells.result ≡ sum c.args.lengths.now = c.cell_at-cells.ensures ∙ every_cell c.args.lengths.now c.requires.few_arrays in
    omega (arith, cells, few_in_all c.args.lengths.now c.requires.few_arrays c.requires.lengths_fit, c.requires.few_variables)

pub overflow_mul-needed : goal.overflow_mul-needed
overflow_mul-needed c =
    let cells : c.cell_at-cells.result ≡ sum c.args.lengths.now = c.cell_at-cells.ensures ∙ every_cell c.args.lengths.now c.requires.few_arrays in
    omega (arith, cells, few_in_all c.args.lengths.now c.requires.few_arrays c.requires.lengths_fit, c.requires.few_variables)

pub returns-then-rest-needed : goal.returns-then-rest-needed
returns-then-rest-needed c =
    let cells : c.cell_at-cells.result ≡ sum c.args.lengths.now = c.cell_at-cells.ensures ∙ every_cell c.args.lengths.now c.requires.few_arrays in
    reads_as c.put_wrong_size.ensures
    (wrong_size_lem c.args.bytes.now c.args.lengths.now c.args.variables c.args.live c.args.rest.now c.from-count.result c.cell_at-cells.result c.from-count.ensures cells c.if-rest-needed.true)

pub put_declared-requires : goal.put_declared-requires
put_declared-requires c =
    let cells : c.cell_at-cells.result ≡ sum c.args.lengths.now = c.cell_at-cells.ensures ∙ every_cell c.args.lengths.now c.requires.few_arrays in
    record {
      few_arrays = c.requires.few_arrays;
      lengths_fit = c.requires.lengths_fit;
      few_places = (omega (arith, c.from-count.ensures, c.requires.few_variables), omega (arith, cells, few_in_all c.args.lengths.now c.requires.few_arrays c.requires.lengths_fit));
    }

pub returns : goal.returns
returns c =
    let cells : c.cell_at-cells.result ≡ sum c.args.lengths.now = c.cell_at-cells.ensures ∙ every_cell c.args.lengths.now c.requires.few_arrays in
    reads_as c.put_declared.ensures
    (right_size_lem c.args.bytes.now c.args.lengths.now c.args.variables c.args.live c.args.rest.now c.from-count.result c.cell_at-cells.result c.from-count.ensures cells c.if-rest-needed.false)
