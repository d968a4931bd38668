-- `extend::best_with` meets its contract: the best of all pairs of one reader with the partners.
use mathlib.Core.Path.{sym, ◌∙◌}
use Rattle.rows.proofs.Walks.{walk_end, walk_next, behind_small}
use Rattle.extend.proofs.best_with.Goals as goal

pub loop-rest-preserved : goal.loop-rest-preserved
loop-rest-preserved c = (
  c.loop-rest.invariant.0
      ∙ walk_next c.loop-rest.rest _ _ c.loop-rest.invariant.1 c.loop-rest-test.true
      ∙ rw (c.behind_first-rest.ensures, c.better-best.ensures.better, c.first.ensures.0),
  rw c.behind_first-rest.ensures (behind_small 64 c.loop-rest.rest c.loop-rest.invariant.1),
  c.better-best.ensures.in_block,
)

pub returns-clause-best : goal.returns-clause-best
returns-clause-best c = sym (c.loop-rest.invariant.0 ∙ walk_end c.loop-rest.rest _ _ c.loop-rest-test.false)
