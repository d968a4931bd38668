-- `extend::best_readers` meets its contract: the best of all pairs of readers.
-- the best of the readers that are left, from the best so far
use mathlib.Core.Path.{sym, ◌∙◌}
use Rattle.rows.proofs.Walks.{walk_end, walk_next, behind_small}
use Rattle.extend.specs.Visits.{best_of}
use Rattle.extend.proofs.best_readers.Goals as goal

pub loop-rest-preserved : goal.loop-rest-preserved
loop-rest-preserved c = (
  c.loop-rest.invariant.0
      ∙ walk_next c.loop-rest.rest _ _ c.loop-rest.invariant.1 c.loop-rest-test.true
      ∙ rw (c.behind_first-rest.ensures, c.best_with-best.ensures.best, c.first.ensures.0),
  rw c.behind_first-rest.ensures (behind_small 64 c.loop-rest.rest c.loop-rest.invariant.1),
  c.best_with-best.ensures.in_block,
)

pub returns-clause-best : goal.returns-clause-best
unfolding best_of
returns-clause-best c =
    sym (rw (← c.fact-rest.ensures, ← c.fact-partners.ensures) (c.loop-rest.invariant.0 ∙ walk_end c.loop-rest.rest _ _ c.loop-rest-test.false))
