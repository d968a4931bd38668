-- `line::put_line` meets its contract: name, numbers and end, one behind the other.
use Rattle.text.proofs.Putting.{both}
use Rattle.ends.specs.Line.{line}
use Rattle.ends.proofs.line.put_line.Goals as goal

pub returns : goal.returns
unfolding line
returns c = both (both c.put_name-behind_name.ensures c.put_numbers-behind_numbers.ensures) c.put_line_end.ensures
