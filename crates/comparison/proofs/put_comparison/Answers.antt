-- `put_comparison` meets its contract: too long, refused, or a block that reads with the bytes behind it.
use mathlib.Core.Path.{sym, ap, ◌∙◌}
use native.Mathlib.Omega.{arith}
use lib.Seq.{length-take-le}
use Rattle.meaning.specs.Calls.{BlockRead}
use Rattle.text.proofs.Putting.{reads_as}
use Rattle.comparison.proofs.Parts.{over, refused_text, read_done, read_text}
use Rattle.comparison.proofs.put_comparison.Goals as goal

pub returns-then-given-gt9303 : goal.returns-then-given-gt9303
returns-then-given-gt9303 c = reads_as c.put_too_long.ensures (over c.args.given.now c.if-given-gt9303.true)

pub slice_bounds-read_block-end : goal.slice_bounds-read_block-end
slice_bounds-read_block-end c =
    sym (length-take-le c.block_end-end.result c.args.given.now (omega (arith, c.block_end-end.ensures)))

pub returns-then-read-ne0 : goal.returns-then-read-ne0
returns-then-read-ne0 c =
    reads_as c.put_refusal.ensures
    (refused_text c.args.given.now c.block_end-end.result c.block_end-end.ensures c.if-given-gt9303.false c.read_block-read.result.status
    (sym (ap (λ (r : BlockRead). r.status) c.read_block-read.ensures)) c.if-read-ne0.true)

pub slice_bounds-put_read-end : goal.slice_bounds-put_read-end
slice_bounds-put_read-end c =
    sym (length-take-le c.block_end-end.result c.args.given.now (omega (arith, c.block_end-end.ensures)))

pub put_read-requires : goal.put_read-requires
put_read-requires c =
    read_done _ _ (sym (ap (λ (r : BlockRead). r.status) c.read_block-read.ensures) ∙ c.if-read-ne0.false) (sym (ap (λ (r : BlockRead). r.block) c.read_block-read.ensures))

pub returns : goal.returns
returns c =
    reads_as c.put_read.ensures
    (read_text c.args.given.now c.block_end-end.result c.block_end-end.ensures c.if-given-gt9303.false c.read_block-read.result.block
    (read_done _ _ (sym (ap (λ (r : BlockRead). r.status) c.read_block-read.ensures) ∙ c.if-read-ne0.false) (sym (ap (λ (r : BlockRead). r.block) c.read_block-read.ensures))))
