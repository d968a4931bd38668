-- `numbers::put_lanes` meets its contract: each turn puts the number in the next lane.
use mathlib.Core.Path.{◌≡◌, ap, ◌∙◌}
use mathlib.Core.List.{List}
use Prim.Native.Nat.{ℕ, min}
use native.Mathlib.Omega.{arith}
use lib.ListN.{length, take, drop}
use Rattle.basics.proofs.Mapped.{unmapped}
use Rattle.basics.proofs.Lists.{take_least}
use Rattle.text.proofs.Putting.{start, next, finish, reads_as, drop_next, drop_none}
use Rattle.account_units.specs.Lines.{number_text, numbers_text}
use borrow.Author.Rules.{rules}
use Rattle.account_units.proofs.numbers.put_lanes.Goals as goal

pub loop-lane-init : goal.loop-lane-init
loop-lane-init c = start (λ (k : ℕ). numbers_text (drop k (take c.min-count.result c.args.unit.lanes)))

pub loop-lane-preserved : goal.loop-lane-preserved
loop-lane-preserved c =
    let lanes : List ℕ = take c.min-count.result c.args.unit.lanes in
    next (λ (k : ℕ). numbers_text (drop k lanes)) c.loop-lane.invariant c.loop-lane-test.true
    (ap numbers_text (drop_next lanes c.loop-lane.lane-index c.loop-lane-test.true)) (reads_as c.put_number-behind.ensures (ap number_text c.from-in-loop-lane.ensures))

pub returns : goal.returns
returns c =
    let sized : length c.args.unit.lanes ≡ 4 = search (rules, unmapped) in
    let lanes : List ℕ = take c.min-count.result c.args.unit.lanes in
    let many : c.min-count.result ≡ min c.args.unit.count (length c.args.unit.lanes) = omega arith in
    reads_as (finish (λ (k : ℕ). numbers_text (drop k lanes)) c.loop-lane.invariant (ap numbers_text (drop_none lanes c.loop-lane.lane-index c.loop-lane-test.false)))
    (ap numbers_text (ap (λ (k : ℕ). take k c.args.unit.lanes) many ∙ take_least c.args.unit.count c.args.unit.lanes))
