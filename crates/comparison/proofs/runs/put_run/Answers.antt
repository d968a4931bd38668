-- `runs::put_run` meets its contract: its four parts, one behind the other.
use mathlib.Core.Path.{ap}
use Rattle.text.specs.Text.{decimal}
use Rattle.text.proofs.Putting.{both, reads_as}
use Rattle.comparison.specs.Lines.{run_line}
use Rattle.comparison.proofs.runs.put_run.Goals as goal

pub returns : goal.returns
unfolding run_line
returns c =
    let status = reads_as c.put_decimal-behind_status.ensures (ap decimal c.from.ensures) in
    both (both (both c.put_words-behind_name.ensures status) c.put_words-behind_words.ensures) c.put_field.ensures
