-- `runs::put_run_sides` meets its contract: the text of what both runs return and leave.
use mathlib.Core.Path.{ap}
use Rattle.memory.specs.Lent.{lent}
use Rattle.text.proofs.Putting.{reads_as}
use Rattle.comparison.specs.Lines.{beside_text}
use Rattle.comparison.proofs.runs.put_run_sides.Goals as goal

pub returns : goal.returns
unfolding beside_text
returns c =
    reads_as c.put_beside.ensures
    (ap (beside_text c.args.lengths.now c.args.live (lent c.args.start_variables.now c.args.start_cells.now)) c.side_by_side-sides.ensures)
