-- `line::put_place_line` meets its contract: the line of what the three contents hold there.
use Rattle.text.proofs.Putting.{reads_as}
use Rattle.ends.specs.Line.{place_line}
use Rattle.ends.proofs.Naming.{same_line}
use Rattle.ends.proofs.line.put_place_line.Goals as goal

pub returns : goal.returns
unfolding place_line
returns c =
    reads_as c.put_line.ensures
    (same_line c.args.place c.fetch_place-start.ensures c.fetch_place-block.ensures c.fetch_place-list.ensures)
