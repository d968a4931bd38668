-- `input::take_numbers` meets its contract: each turn takes the next number.
use mathlib.Core.Path.{◌≡◌, refl, sym, ◌∙◌}
use native.Mathlib.Omega.{arith}
use lib.ListN.{length, length-set}
use Rattle.comparison.proofs.Numbers.{taken_first, taken_next, taken_last}
use Rattle.comparison.proofs.input.take_numbers.Goals as goal

pub loop-i-init : goal.loop-i-init
loop-i-init c = record { as_many = refl; taken = taken_first c.args.numbers.now (length c.args.numbers.now) c.args.bytes.now }

pub loop-i-preserved : goal.loop-i-preserved
loop-i-preserved c =
    let long : length c.loop-i.numbers ≡ length c.args.numbers.now = c.loop-i.invariant.as_many in
    record {
      as_many = length-set c.loop-i.numbers c.loop-i.i c.four_at.result ∙ long;
      taken =
          taken_next c.loop-i.numbers (length c.args.numbers.now) c.args.bytes.now c.loop-i.i c.four_at.result (omega (arith, c.loop-i-test.true, long)) c.loop-i-test.true c.four_at.ensures
          ∙ c.loop-i.invariant.taken;
    }

pub returns : goal.returns
returns c =
    sym (taken_last c.loop-i.numbers (length c.args.numbers.now) c.args.bytes.now c.loop-i.i (omega (arith, c.loop-i-test.false, c.loop-i.invariant.as_many)) c.loop-i-test.false)
    ∙ c.loop-i.invariant.taken
