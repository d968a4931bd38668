-- `reader::read_statements` meets its contract. The loop's invariant says what remains: the whole answer is that of the
-- statements from i on, put behind those in their slots.
use Rattle.reader.proofs.Turns.{statements_end, statements_stop, statements_more, bytes_left}
use Rattle.reader.specs.Answers.{no_statements}
use Rattle.meaning.specs.Refusals.{answered}
use Rattle.meaning.proofs.Handed.{handed_on}
use lib.ListN.{take}
use native.Mathlib.Nat.{sub-zero}
use native.Mathlib.Omega.{arith}
use mathlib.Core.Path.{sym, ap, ◌∙◌}
use Rattle.reader.proofs.read_statements.Goals as goal

pub loop-i-init : goal.loop-i-init
unfolding no_statements
loop-i-init c = (c.from-i-end.ensures, rw sub-zero)

pub returns-in_err-statement : goal.returns-in_err-statement
returns-in_err-statement c =
    handed_on _ _ c.from_residual.ensures.1 ∙ sym (c.loop-i.invariant.1 ∙ statements_stop c.args.header c.args.lengths.now c.args.header.variables
    (take c.args.header.arrays c.args.lengths.now) c.args.bytes.now c.loop-i.statements c.args.header.statements c.loop-i.i
    c.loop-i.start _ (omega (arith, c.loop-i-test.true, c.loop-i.invariant.0)) (sym c.read_next.ensures ∙ ap answered c.in_err-statement.was))

pub loop-i-preserved : goal.loop-i-preserved
loop-i-preserved c = (
  c.loop-i.invariant.0,
  c.loop-i.invariant.1 ∙ statements_more c.args.header c.args.lengths.now c.args.header.variables
      (take c.args.header.arrays c.args.lengths.now) c.args.bytes.now c.loop-i.statements c.args.header.statements c.loop-i.i
      c.loop-i.start _ _ (omega (arith, c.loop-i-test.true, c.loop-i.invariant.0)) (sym c.read_next.ensures ∙ ap answered c.in_ok-statement.was),
)

pub returns-then-start-bytes : goal.returns-then-start-bytes
returns-then-start-bytes c =
    sym (c.loop-i.invariant.1 ∙ bytes_left c.args.header c.args.lengths.now c.args.header.variables (take c.args.header.arrays
    c.args.lengths.now) c.args.bytes.now c.loop-i.statements c.args.header.statements c.loop-i.i c.loop-i.start (omega (arith, c.loop-i-test.false, c.loop-i.invariant.0))
    c.if-start-bytes.true)

pub returns : goal.returns
returns c =
    sym (c.loop-i.invariant.1 ∙ statements_end c.args.header c.args.lengths.now c.args.header.variables (take c.args.header.arrays
    c.args.lengths.now) c.args.bytes.now c.loop-i.statements c.args.header.statements c.loop-i.i c.loop-i.start (omega (arith, c.loop-i-test.false, c.loop-i.invariant.0))
    c.if-start-bytes.false)
