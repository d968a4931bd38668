-- `packs::put_dissolved_lines` meets its contract: each turn puts the pack that goes by the next number, if it was dissolved.
use Rattle.account_units.specs.InTables.{dissolved_line}
use Rattle.account_units.proofs.Telling.{tell, tell_next, tell_finish}
use Rattle.account_units.proofs.packs.put_dissolved_lines.Goals as goal

pub loop-s-init : goal.loop-s-init
loop-s-init c =
    tell (dissolved_line c.args.table.now c.args.waiting c.args.scheduled.now c.args.count)

pub loop-s-preserved : goal.loop-s-preserved
loop-s-preserved c =
    tell_next (dissolved_line c.args.table.now c.args.waiting c.args.scheduled.now c.args.count) c.loop-s.invariant c.loop-s-test.true c.put_dissolved_at-behind.ensures

pub returns : goal.returns
returns c =
    tell_finish (dissolved_line c.args.table.now c.args.waiting c.args.scheduled.now c.args.count) c.loop-s.invariant c.loop-s-test.false
