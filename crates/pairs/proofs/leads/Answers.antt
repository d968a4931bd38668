-- `pairs::leads` meets its contract.
use mathlib.Core.Path.{sym, ◌∙◌}
use Rattle.pairs.proofs.Steps.{leads_end, leads_there, leads_out, leads_on}
use Rattle.pairs.proofs.leads.Goals as goal

pub returns-then-at-to : goal.returns-then-at-to
returns-then-at-to c =
    sym (c.loop-i.invariant
    ∙ leads_there _ _ _ _ _ _ c.loop-i-test.true c.number_at-at.ensures.0 c.if-at-to.true)

pub returns-then-at-eq-NONE : goal.returns-then-at-eq-NONE
returns-then-at-eq-NONE c =
    sym (c.loop-i.invariant
    ∙ leads_out _ _ _ _ _ _ c.loop-i-test.true c.number_at-at.ensures.0 c.if-at-to.false c.if-at-eq-NONE.true)

pub loop-i-preserved : goal.loop-i-preserved
loop-i-preserved c =
    c.loop-i.invariant
    ∙ leads_on _ _ _ _ _ _ c.loop-i-test.true c.number_at-at.ensures.0 c.if-at-to.false c.if-at-eq-NONE.false

pub returns : goal.returns
returns c = sym (c.loop-i.invariant ∙ leads_end _ _ _ _ _ c.loop-i-test.false)
