-- `reader::read_block` meets its contract: what was parsed, zeros beside a refusal.
use Rattle.reader.proofs.Blocks.{read_whole, read_refused}
use Rattle.reader.specs.Answers.{answer}
use Rattle.meaning.specs.Refusals.{answered}
use mathlib.Core.Path.{sym, ap, ◌∙◌}
use Rattle.reader.proofs.read_block.Goals as goal

pub returns-in-Ok : goal.returns-in-Ok
returns-in-Ok c = read_whole c.args.bytes.now c.in-Ok.block (sym (ap answered c.in-Ok.is) ∙ c.parse_block.ensures.in_slots)

pub returns-in-Err : goal.returns-in-Err
returns-in-Err c =
    ap answer c.refuse.ensures ∙ rw c.number.ensures (read_refused c.args.bytes.now _ (sym (ap answered c.in-Err.is) ∙ c.parse_block.ensures.in_slots))
