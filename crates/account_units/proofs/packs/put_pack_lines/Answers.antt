-- `packs::put_pack_lines` meets its contract: each turn puts the pack that goes by the next number, if one does.
use Rattle.account_units.specs.InTables.{pack_line}
use Rattle.account_units.proofs.Telling.{tell, tell_next, tell_finish}
use Rattle.account_units.proofs.packs.put_pack_lines.Goals as goal

pub loop-s-init : goal.loop-s-init
loop-s-init c =
    tell (pack_line c.args.table.now c.args.waiting)

pub loop-s-preserved : goal.loop-s-preserved
loop-s-preserved c =
    tell_next (pack_line c.args.table.now c.args.waiting) c.loop-s.invariant c.loop-s-test.true c.put_pack-behind.ensures

pub returns : goal.returns
returns c =
    tell_finish (pack_line c.args.table.now c.args.waiting) c.loop-s.invariant c.loop-s-test.false
