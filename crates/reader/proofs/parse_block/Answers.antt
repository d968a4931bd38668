-- `reader::parse_block` meets its contract: each early return is one refusal, in document 01's order.
use Rattle.reader.proofs.Blocks.{too_short, other_version_lem, other_length_lem, length_as_stated, declares_read}
use Rattle.meaning.specs.Numbers.{map_answer}
use Rattle.meaning.specs.Format.{in_memory}
use mathlib.Core.Path.{sym, ap, ◌∙◌}
use Rattle.reader.proofs.parse_block.Goals as goal

pub returns-then-bytes-lt7-clause-in_slots : goal.returns-then-bytes-lt7-clause-in_slots
returns-then-bytes-lt7-clause-in_slots c = sym (ap (map_answer in_memory) (too_short c.args.bytes.now c.if-bytes-lt7.true))

pub returns-then-bytes-lt7-clause-declares : goal.returns-then-bytes-lt7-clause-declares
returns-then-bytes-lt7-clause-declares c = sym (too_short c.args.bytes.now c.if-bytes-lt7.true)

pub returns-then-bytes-ne1-clause-in_slots : goal.returns-then-bytes-ne1-clause-in_slots
returns-then-bytes-ne1-clause-in_slots c =
    sym (ap (map_answer in_memory) (other_version_lem c.args.bytes.now c.if-bytes-lt7.false c.if-bytes-ne1.true))

pub returns-then-bytes-ne1-clause-declares : goal.returns-then-bytes-ne1-clause-declares
returns-then-bytes-ne1-clause-declares c = sym (other_version_lem c.args.bytes.now c.if-bytes-lt7.false c.if-bytes-ne1.true)

pub returns-then-from-bytes-clause-in_slots : goal.returns-then-from-bytes-clause-in_slots
returns-then-from-bytes-clause-in_slots c =
    sym (ap (map_answer in_memory) (other_length_lem c.args.bytes.now c.if-bytes-lt7.false c.if-bytes-ne1.false _
    (c.from.ensures ∙ c.from_be_bytes-stated.ensures) c.if-from-bytes.true))

pub returns-then-from-bytes-clause-declares : goal.returns-then-from-bytes-clause-declares
returns-then-from-bytes-clause-declares c =
    sym (other_length_lem c.args.bytes.now c.if-bytes-lt7.false c.if-bytes-ne1.false _ (c.from.ensures ∙ c.from_be_bytes-stated.ensures)
    c.if-from-bytes.true)

pub returns-clause-in_slots : goal.returns-clause-in_slots
returns-clause-in_slots c =
    c.read_counted.ensures
    ∙ sym (length_as_stated c.args.bytes.now c.if-bytes-lt7.false c.if-bytes-ne1.false _
    (c.from.ensures ∙ c.from_be_bytes-stated.ensures) c.if-from-bytes.false)

pub returns-clause-declares : goal.returns-clause-declares
returns-clause-declares c =
    declares_read c.args.bytes.now _ (c.read_counted.ensures ∙ sym (length_as_stated c.args.bytes.now c.if-bytes-lt7.false c.if-bytes-ne1.false _
    (c.from.ensures ∙ c.from_be_bytes-stated.ensures) c.if-from-bytes.false))
