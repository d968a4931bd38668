-- `schedule::schedule` meets its contract. What remains at the counter: the steps that are left, from the stage that is reached.
use mathlib.Core.Path.{sym, ap, ◌∙◌}
use Prim.Native.Nat.{◌+◌, ◌-◌, ◌<◌}
use native.Mathlib.Omega.{arith}
use borrow.Author.Tests.{eq-eqb, ne_eqb}
use Rattle.schedule.specs.Stages.{Stage, stage_of, steps_from, scheduled_tables}
use Rattle.schedule.proofs.Turns.{size_grows, steps_more, steps_over, steps_done}
use Rattle.schedule.proofs.schedule.Goals as goal

pub returns-then-progress-eq0 : goal.returns-then-progress-eq0
unfolding scheduled_tables
returns-then-progress-eq0 c =
    let here = stage_of c.loop.units c.loop.needs c.loop.order c.loop.progress in
    let over = c.loop.invariant.1
    ∙ steps_over c.args.direct.now here (c.args.n + c.args.n - c.loop.counter) (eq-eqb c.loop.progress.waiting 0 c.if-progress-eq0.true) in
    (sym (ap (λ (s : Stage). s.order) over), sym (ap (λ (s : Stage). s.size) over))

pub loop-preserved : goal.loop-preserved
loop-preserved c =
    let here = stage_of c.loop.units c.loop.needs c.loop.order c.loop.progress in
    let below : c.loop.counter < c.args.n + c.args.n = c.loop-test.true in (
      omega (arith, c.loop.invariant.0, size_grows c.args.direct.now here, ap (λ (s : Stage). s.size) c.step-progress.ensures),
      c.loop.invariant.1
          ∙ steps_more c.args.direct.now here (c.args.n + c.args.n - (c.loop.counter + 1)) (c.args.n + c.args.n - c.loop.counter) (omega arith) (ne_eqb c.loop.progress.waiting 0 c.if-progress-eq0.false)
          ∙ ap (steps_from (c.args.n + c.args.n - (c.loop.counter + 1)) c.args.direct.now) (sym c.step-progress.ensures),
    )

pub returns-after-loop : goal.returns-after-loop
unfolding scheduled_tables
returns-after-loop c =
    let here = stage_of c.loop.units c.loop.needs c.loop.order c.loop.progress in
    let over = c.loop.invariant.1 ∙ steps_done c.args.direct.now here (c.args.n + c.args.n - c.loop.counter) (omega arith) in
    (sym (ap (λ (s : Stage). s.order) over), sym (ap (λ (s : Stage). s.size) over))
