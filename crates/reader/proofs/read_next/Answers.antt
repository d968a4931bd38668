-- `reader::read_next` meets its contract: the record is cut from the bytes, read, and only then are its names looked at.
use Rattle.reader.proofs.Next.{no_record_left, record_ends, record_broken, record_whole}
use Rattle.meaning.specs.declared.Refusal.TheVariants.{Form}
use Rattle.meaning.proofs.Handed.{nothing_found}
use borrow.Author.Tests.{ltb-true, ltb-false}
use lib.ListN.{take}
use native.Mathlib.Omega.{arith}
use mathlib.Core.Path.{sym, ◌∙◌}
use Rattle.reader.proofs.read_next.Goals as goal

pub returns-in_err-size : goal.returns-in_err-size
returns-in_err-size c =
    nothing_found _ _ Form _ c.from_residual.ensures.1 c.in_err-size.ensures.value c.in_err-size.ensures.ok_part
    ∙ sym (no_record_left c.args.variables (take c.args.arrays c.args.lengths.now) c.args.bytes.now c.args.start
    (ltb-false _ _ (sym (c.in_err-size.ensures.variant ∙ c.get.ensures.lookup.0))))

pub returns-in_err-record : goal.returns-in_err-record
returns-in_err-record c =
    nothing_found _ _ Form _ c.from_residual-in_err-record.ensures.1 c.in_err-record.ensures.value c.in_err-record.ensures.ok_part
    ∙ sym (record_ends c.args.variables (take c.args.arrays c.args.lengths.now) c.args.bytes.now c.args.start
    c.from.result (ltb-true _ _ (sym (c.in_ok-size.ensures.variant ∙ c.get.ensures.lookup.0)))
    (c.from.ensures ∙ (rw c.in_ok-size.ensures.ok_part at c.get.ensures.lookup.4) (omega arith) 0)
    (rw c.in_err-record.ensures.ok_part at c.get-2.ensures.lookup.0))

pub returns-in_err-statement : goal.returns-in_err-statement
returns-in_err-statement c =
    nothing_found _ _ Form _ c.from_residual-in_err-statement.ensures.1 c.in_err-statement.ensures.value c.in_err-statement.ensures.ok_part
    ∙ sym (record_broken c.args.variables (take c.args.arrays c.args.lengths.now) c.args.bytes.now c.args.start
    c.from.result (ltb-true _ _ (sym (c.in_ok-size.ensures.variant ∙ c.get.ensures.lookup.0)))
    (c.from.ensures ∙ (rw c.in_ok-size.ensures.ok_part at c.get.ensures.lookup.4) (omega arith) 0)
    _ (rw c.in_ok-record.ensures.ok_part at c.get-2.ensures.lookup.0).1
    (rw c.in_ok-record.ensures.ok_part at c.get-2.ensures.lookup.0).2
    (sym c.read_record.ensures ∙ c.in_err-statement.ensures.ok_part))

pub returns-then-declares_statement : goal.returns-then-declares_statement
returns-then-declares_statement c =
    sym (record_whole c.args.variables (take c.args.arrays c.args.lengths.now) c.args.bytes.now c.args.start
    c.from.result (ltb-true _ _ (sym (c.in_ok-size.ensures.variant ∙ c.get.ensures.lookup.0)))
    (c.from.ensures ∙ (rw c.in_ok-size.ensures.ok_part at c.get.ensures.lookup.4) (omega arith) 0)
    _ (rw c.in_ok-record.ensures.ok_part at c.get-2.ensures.lookup.0).1
    (rw c.in_ok-record.ensures.ok_part at c.get-2.ensures.lookup.0).2
    _ (sym c.read_record.ensures ∙ c.in_ok-statement.ensures.ok_part)
    ∙ rw (← c.declares_statement.ensures, c.if-declares_statement.true))

pub returns-else-declares_statement : goal.returns-else-declares_statement
returns-else-declares_statement c =
    sym (record_whole c.args.variables (take c.args.arrays c.args.lengths.now) c.args.bytes.now c.args.start
    c.from.result (ltb-true _ _ (sym (c.in_ok-size.ensures.variant ∙ c.get.ensures.lookup.0)))
    (c.from.ensures ∙ (rw c.in_ok-size.ensures.ok_part at c.get.ensures.lookup.4) (omega arith) 0)
    _ (rw c.in_ok-record.ensures.ok_part at c.get-2.ensures.lookup.0).1
    (rw c.in_ok-record.ensures.ok_part at c.get-2.ensures.lookup.0).2
    _ (sym c.read_record.ensures ∙ c.in_ok-statement.ensures.ok_part)
    ∙ rw (← c.declares_statement.ensures, c.if-declares_statement.false))
