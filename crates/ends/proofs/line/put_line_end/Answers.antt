-- `line::put_line_end` meets its contract: its test is the definition's.
use Rattle.text.proofs.Putting.{reads_as}
use Rattle.ends.proofs.Naming.{same_end, other_end}
use Rattle.ends.proofs.line.put_line_end.Goals as goal

pub returns-then-block-list : goal.returns-then-block-list
returns-then-block-list c =
    reads_as c.put_words.ensures (same_end c.args.block c.args.list c.if-block-list.true)

pub returns : goal.returns
returns c =
    reads_as c.put_words-2.ensures (other_end c.args.block c.args.list c.if-block-list.false)
