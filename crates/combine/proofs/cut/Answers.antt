-- `combine::cut` meets its contract.
use mathlib.Core.Path.{sym, ◌∙◌}
use Rattle.combine.proofs.Turns.{cut_ended, cut_over, cut_turn}
use Rattle.combine.proofs.cut.Goals as goal

pub returns-then-at-eq-NONE : goal.returns-then-at-eq-NONE
returns-then-at-eq-NONE c = sym (c.loop.invariant.1 ∙ cut_ended _ _ _ _ _ _ c.if-at-eq-NONE.true)

pub loop-preserved : goal.loop-preserved
loop-preserved c = (
  c.number_at-at.ensures.1,
  c.loop.invariant.1
      ∙ cut_turn _ _ _ _ _ _ _ _ _ c.loop-test.true c.if-at-eq-NONE.false c.next_unit-unit.ensures c.wait-waiting.ensures.0 c.wait-waiting.ensures.1.0 c.wait-waiting.ensures.1.1
      c.last_lane.ensures c.number_at-at.ensures.0,
)

pub returns-after-loop : goal.returns-after-loop
returns-after-loop c = sym (c.loop.invariant.1 ∙ cut_over _ _ _ _ _ _ _ c.loop-test.false)
