-- `reader::read_lengths` meets its contract. The loop's invariant says what remains: the whole answer is that of the
-- lengths from i on, put behind those in their slots.
use Rattle.reader.proofs.Turns.{twice, lengths_end, lengths_stop, lengths_more}
use Rattle.reader.specs.Answers.{no_lengths}
use Rattle.meaning.specs.Refusals.{answered}
use Rattle.meaning.proofs.Handed.{handed_on}
use native.Mathlib.Nat.{sub-zero}
use native.Mathlib.Omega.{arith}
use mathlib.Core.Path.{sym, ap, ◌∙◌}
use Rattle.reader.proofs.read_lengths.Goals as goal

pub loop-i-init : goal.loop-i-init
unfolding no_lengths
loop-i-init c = (c.from-i-end.ensures, rw sub-zero)

pub returns-in_err-lengths : goal.returns-in_err-lengths
returns-in_err-lengths c =
    handed_on _ _ c.from_residual.ensures.1 ∙ sym (c.loop-i.invariant.1 ∙ lengths_stop c.args.bytes.now c.loop-i.lengths c.args.arrays c.loop-i.i _
    (omega (arith, c.loop-i-test.true, c.loop-i.invariant.0)) (sym (twice c.loop-i.i c.args.bytes.now _ c.read_length.ensures) ∙ ap answered c.in_err-lengths.was))

pub loop-i-preserved : goal.loop-i-preserved
loop-i-preserved c = (
  c.loop-i.invariant.0,
  c.loop-i.invariant.1 ∙ lengths_more c.args.bytes.now c.loop-i.lengths c.args.arrays c.loop-i.i _
      (omega (arith, c.loop-i-test.true, c.loop-i.invariant.0)) (sym (twice c.loop-i.i c.args.bytes.now _ c.read_length.ensures) ∙ ap answered c.in_ok-lengths.was),
)

pub returns : goal.returns
returns c =
    sym (c.loop-i.invariant.1 ∙ lengths_end c.args.bytes.now c.loop-i.lengths c.args.arrays c.loop-i.i (omega (arith, c.loop-i-test.false, c.loop-i.invariant.0)))
