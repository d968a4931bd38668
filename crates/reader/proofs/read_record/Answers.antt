-- `reader::read_record` meets its contract: by what stands at the destination.
use Rattle.reader.proofs.Records.{no_record, destination_place, no_place}
use Rattle.meaning.specs.Format.{read_operand}
use Rattle.basics.proofs.Lists.{take_rest}
use native.Mathlib.Omega.{arith}
use mathlib.Core.Path.{sym, ap, ◌∙◌}
use Rattle.reader.proofs.read_record.Goals as goal

pub returns-in_err-operation : goal.returns-in_err-operation
returns-in_err-operation c =
    c.from_residual.ensures ∙ sym (no_record c.args.bytes.now (omega (arith, c.in_err-operation.ensures.item.3)))

pub returns-in-Held : goal.returns-in-Held
returns-in-Held c =
    c.read_behind.ensures ∙ sym (destination_place c.args.bytes.now _ (sym (c.read_operand.ensures ∙ ap read_operand (take_rest c.args.bytes.now 1))
    ∙ c.in-Held.is))

pub returns-in-Constant : goal.returns-in-Constant
returns-in-Constant c =
    no_place c.args.bytes.now _ (c.read_operand.ensures ∙ ap read_operand (take_rest c.args.bytes.now 1)) c.in-Constant.is
