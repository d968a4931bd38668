-- `schedule::dissolve` meets its contract. The lanes are met one after the other.
use mathlib.Core.Path.{sym, ap, ◌∙◌}
use mathlib.Core.List.{List}
use Prim.Native.Nat.{ℕ, ◌+◌, ◌-◌}
use lib.ListN.{get_or}
use Rattle.basics.specs.Sets.{join}
use Rattle.basics.specs.Counting.{count}
use Rattle.basics.proofs.Counting.{count_more}
use Rattle.schedule.specs.Stages.{written, single_word, single_need, with_single}
use Rattle.schedule.proofs.dissolve.Goals as goal

pub loop-lane-preserved : goal.loop-lane-preserved
loop-lane-preserved c =
    let i = c.loop-lane.lane-index in
    let lanes = c.unit_at-unit.result.lanes in
    let words : ℕ → List ℕ → List ℕ = λ k. written single_word (get_or lanes k 0) in
    let needs : ℕ → List ℕ → List ℕ = λ k. written (single_need c.args.direct.now) (get_or lanes k 0) in
    let waiting : ℕ → ℕ → ℕ = λ k. with_single (get_or lanes k 0) in (
      c.loop-lane.invariant.0 ∙ count_more words 4 i c.loop-lane.units c.loop-lane-test.true ∙ ap (count (4 - (i + 1)) (i + 1) words) (sym c.wait_single-waiting.ensures.0),
      c.loop-lane.invariant.1 ∙ count_more needs 4 i c.loop-lane.needs c.loop-lane-test.true ∙ ap (count (4 - (i + 1)) (i + 1) needs) (sym c.wait_single-waiting.ensures.1.0),
      c.loop-lane.invariant.2
          ∙ count_more waiting 4 i c.loop-lane.waiting c.loop-lane-test.true
          ∙ ap (λ (set : ℕ). count (4 - (i + 1)) (i + 1) waiting (join c.loop-lane.waiting set)) (sym c.wait_single-waiting.ensures.1.1),
    )
