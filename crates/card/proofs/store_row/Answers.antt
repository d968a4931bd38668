-- `card::store_row` meets its contract. What remains at j: the lanes from j on, stored in the cells from at + j on.
use Rattle.basics.proofs.Mapped.{unmapped}
use Rattle.card.specs.Registers.{row_stored}
use Rattle.card.proofs.Lanes.{one_lane, no_lane}
use lib.ListN.{length, take, drop, set, length-take}
use native.Mathlib.Omega.{arith}
use native.Mathlib.Nat.{sub-zero, add-zero}
use mathlib.Core.List.{List}
use Prim.Native.Nat.{ℕ, ◌+◌, ◌-◌, ◌≤◌, ◌<◌, min}
use mathlib.Core.Path.{◌≡◌, sym, refl, ap, ◌∙◌}
use borrow.Author.Rules.{rules}
use Rattle.card.proofs.store_row.Goals as goal

pub loop-j-init : goal.loop-j-init
loop-j-init c = (refl, rw (sub-zero, add-zero))

pub loop-j-preserved : goal.loop-j-preserved
loop-j-preserved c =
    let sized : length c.args.a.lanes ≡ 4 = search (rules, unmapped) in
    let lanes = take c.args.a.count c.args.a.lanes in
    let below : c.loop-j.j < min c.args.k (length lanes) = omega (arith, length-take c.args.a.count c.args.a.lanes) in (
      search rules,
      c.loop-j.invariant.1 ∙ one_lane c.args.k c.args.at c.loop-j.j lanes c.loop-j.cells below
          ∙ ap (λ (cells : List ℕ). row_stored (c.args.k - (c.loop-j.j + 1)) (c.args.at + (c.loop-j.j + 1)) (drop (c.loop-j.j + 1) lanes) cells)
          (sym (c.put_behind.ensures ∙ ap (λ (v : ℕ). set c.loop-j.cells (c.args.at + c.loop-j.j) v) c.lane_of.ensures)),
    )

pub returns : goal.returns
returns c =
    let sized : length c.args.a.lanes ≡ 4 = search (rules, unmapped) in
    let lanes = take c.args.a.count c.args.a.lanes in
    let above : min c.args.k (length lanes) ≤ c.loop-j.j = omega (arith, length-take c.args.a.count c.args.a.lanes) in
    sym (c.loop-j.invariant.1 ∙ no_lane c.args.k c.args.at c.loop-j.j lanes c.loop-j.cells above)
