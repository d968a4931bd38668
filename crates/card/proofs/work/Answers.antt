-- `card::work` meets its contract.
use Rattle.basics.proofs.Mapped.{unmapped}
use borrow.Author.Rules.{rules}
use mathlib.Core.Path.{◌≡◌, ap, ◌∙◌}
use lib.ListN.{length}
use Rattle.card.specs.Registers.{held}
use Rattle.card.proofs.Lanes.{worked}
use Rattle.card.proofs.work.Goals as goal

pub returns-clause-worked : goal.returns-clause-worked
returns-clause-worked c =
    let sized : length c.args.a.lanes ≡ 4 = search (rules, unmapped) in
    ap held c.new_register.ensures ∙ rw (
      c.operate-v3.ensures,
      c.operate-v2.ensures,
      c.operate-v1.ensures,
      c.operate-v0.ensures,
      c.lane_of-4.ensures,
      c.lane_of-3.ensures,
      c.lane_of-2.ensures,
      c.lane_of.ensures,
    ) (worked c.args.operation c.args.a.count c.args.a.lanes (held c.args.b) sized)
