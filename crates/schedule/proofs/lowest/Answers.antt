-- `schedule::lowest` meets its contract. What remains: the search in those of the set that are left.
use mathlib.Core.Path.{◌≡◌, sym, ap, ◌∙◌}
use mathlib.Core.Bool.{true, false}
use Prim.Native.Nat.{◌<◌}
use native.Mathlib.Omega.{arith}
use borrow.Author.Tests.{ne_eqb}
use Rattle.rows.proofs.Walks.{behind_small, lowest_below}
use Rattle.schedule.specs.Stages.{lowest_waiting}
use Rattle.schedule.proofs.Walking.{search_ends, search_stops, search_goes_on}
use Rattle.schedule.proofs.lowest.Goals as goal

pub returns-then-passes : goal.returns-then-passes
returns-then-passes g c = λ test decides.
    let rest = c.loop-rest.rest in
    let below : c.first-at.result < 64 = omega (arith, c.first-at.ensures.0, lowest_below rest c.loop-rest.invariant.0 (ne_eqb rest 0 c.loop-rest-test.true)) in
    let passes : test c.first-at.result ≡ true = sym (decides c.first-at.result _ below c.passes.ensures) ∙ c.if-passes.true in (
      below,
      c.loop-rest.invariant.1 test decides
          ∙ search_stops test rest c.loop-rest.invariant.0 c.loop-rest-test.true (ap test (sym c.first-at.ensures.0) ∙ passes)
          ∙ sym c.first-at.ensures.0,
    )

pub loop-rest-preserved : goal.loop-rest-preserved
loop-rest-preserved g c =
    let rest = c.loop-rest.rest in
    let below : c.first-at.result < 64 = omega (arith, c.first-at.ensures.0, lowest_below rest c.loop-rest.invariant.0 (ne_eqb rest 0 c.loop-rest-test.true)) in (
      omega (arith, c.behind_first-rest.ensures, behind_small 64 rest c.loop-rest.invariant.0),
      λ test decides.
          let fails : test c.first-at.result ≡ false = sym (decides c.first-at.result _ below c.passes.ensures) ∙ c.if-passes.false in
          c.loop-rest.invariant.1 test decides
          ∙ search_goes_on test rest c.loop-rest.invariant.0 c.loop-rest-test.true (ap test (sym c.first-at.ensures.0) ∙ fails)
          ∙ ap (lowest_waiting test) (sym c.behind_first-rest.ensures),
    )

pub returns : goal.returns
returns g c = λ test decides. c.loop-rest.invariant.1 test decides ∙ ap (lowest_waiting test) c.loop-rest-test.false ∙ search_ends test
