-- `line::put_numbers` meets its contract: the three columns, one behind the other.
use mathlib.Core.Path.{ap}
use Rattle.text.specs.Text.{column}
use Rattle.text.proofs.Putting.{both, reads_as}
use Rattle.ends.specs.Line.{numbers_text}
use Rattle.ends.proofs.line.put_numbers.Goals as goal

pub returns : goal.returns
unfolding numbers_text
returns c =
    let start = reads_as c.put_column-behind_start.ensures (ap (column 12) c.from.ensures) in
    let block = reads_as c.put_column-behind_block.ensures (ap (column 12) c.from-2.ensures) in
    let list = reads_as c.put_column.ensures (ap (column 12) c.from-3.ensures) in
    both (both start block) list
