-- `instructions::next_instruction` meets its contract: the record is cut from the bytes and read.
use Rattle.instructions.proofs.Places.{no_bytes, too_short, cut_record}
use mathlib.Core.Path.{◌∙◌}
use Rattle.instructions.proofs.next_instruction.Goals as goal

pub returns-then-bytes-start : goal.returns-then-bytes-start
returns-then-bytes-start c = no_bytes c.args.bytes.now c.args.start c.if-bytes-start.true

pub returns-then-bytes-from : goal.returns-then-bytes-from
returns-then-bytes-from c = too_short c.args.bytes.now c.args.start c.if-bytes-start.false (rw c.from-size.ensures at c.if-bytes-from.true)

pub returns : goal.returns
returns c =
    let cut = cut_record c.args.bytes.now c.args.start c.from-size.result c.from-size.ensures c.if-bytes-start.false c.if-bytes-from.false in
    (c.read_instruction-instruction.ensures ∙ cut.0, cut.1)
