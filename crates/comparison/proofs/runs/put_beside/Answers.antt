-- `runs::put_beside` meets its contract: its six parts, one behind the other.
use Rattle.text.proofs.Putting.{both}
use Rattle.comparison.specs.Lines.{beside_text}
use Rattle.comparison.proofs.runs.put_beside.Goals as goal

pub returns : goal.returns
unfolding beside_text
returns c =
    both (both (both (both (both c.put_run-behind_block.ensures c.put_run-behind_list.ensures) c.put_words-behind_heading.ensures) c.put_cells-behind_cells.ensures) c.put_variables-behind_variables.ensures) c.put_verdict.ensures
