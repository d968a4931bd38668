-- `put_instructions` meets its contract: the count stands in the fourth byte.
use lib.ListN.{take}
use Rattle.text.proofs.Putting.{reads_as}
use Rattle.account_list.proofs.Records.{none_listed, some_listed}
use Rattle.account_list.proofs.section.put_instructions.Goals as goal

pub returns-then-count-eq0 : goal.returns-then-count-eq0
returns-then-count-eq0 c =
    reads_as c.put_words.ensures
    (none_listed (take c.args.block.count c.args.block.statements) c.args.list.now c.at_or-count.result c.at_or-count.ensures c.if-count-eq0.true)

pub returns : goal.returns
returns c =
    reads_as (rw c.from.ensures at c.put_records.ensures)
    (some_listed (take c.args.block.count c.args.block.statements) c.args.list.now c.at_or-count.result c.at_or-count.ensures c.if-count-eq0.false)
