-- `chains::put_pair_lines` meets its contract: each turn puts the next pair.
use Rattle.account_units.specs.InTables.{pair_line}
use Rattle.account_units.proofs.Telling.{tell, tell_next, tell_finish}
use Rattle.account_units.proofs.chains.put_pair_lines.Goals as goal

pub loop-i-init : goal.loop-i-init
loop-i-init c =
    tell (pair_line c.args.order.now c.args.next.now)

pub loop-i-preserved : goal.loop-i-preserved
loop-i-preserved c =
    tell_next (pair_line c.args.order.now c.args.next.now) c.loop-i.invariant c.loop-i-test.true c.put_pair-behind.ensures

pub returns : goal.returns
returns c =
    tell_finish (pair_line c.args.order.now c.args.next.now) c.loop-i.invariant c.loop-i-test.false
