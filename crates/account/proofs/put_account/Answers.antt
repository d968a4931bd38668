-- `put_account` meets its contract.
use mathlib.Core.Path.{ap, sym, ◌∙◌}
use Rattle.meaning.specs.Calls.{BlockRead}
use Rattle.text.proofs.Putting.{reads_as}
use Rattle.account.proofs.Telling.{stopped, was_read, went_on}
use Rattle.account.proofs.put_account.Goals as goal

pub returns-then-read-ne0 : goal.returns-then-read-ne0
returns-then-read-ne0 c =
    reads_as c.put_refusal.ensures
    (stopped c.args.bytes.now _ (sym (ap (λ (r : BlockRead). r.status) c.read_block-read.ensures)) c.if-read-ne0.true)

pub put_block-requires : goal.put_block-requires
put_block-requires c =
    was_read c.args.bytes.now _ (sym (ap (λ (r : BlockRead). r.status) c.read_block-read.ensures) ∙ c.if-read-ne0.false) (sym (ap (λ (r : BlockRead). r.block) c.read_block-read.ensures))

pub returns : goal.returns
returns c =
    reads_as c.put_block.ensures
    (went_on c.args.bytes.now _ (was_read c.args.bytes.now _ (sym (ap (λ (r : BlockRead). r.status) c.read_block-read.ensures) ∙ c.if-read-ne0.false) (sym (ap (λ (r : BlockRead). r.block) c.read_block-read.ensures))))
