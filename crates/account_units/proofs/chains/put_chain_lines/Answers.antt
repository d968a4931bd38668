-- `chains::put_chain_lines` meets its contract: each turn puts the chain that begins at the next statement, if one does.
use Rattle.account_units.specs.InTables.{chain_line}
use Rattle.account_units.proofs.Telling.{tell, tell_next, tell_finish}
use Rattle.account_units.proofs.chains.put_chain_lines.Goals as goal

pub loop-s-init : goal.loop-s-init
loop-s-init c =
    tell (chain_line c.args.next.now c.args.rights c.args.count)

pub loop-s-preserved : goal.loop-s-preserved
loop-s-preserved c =
    tell_next (chain_line c.args.next.now c.args.rights c.args.count) c.loop-s.invariant c.loop-s-test.true c.put_chain_from-behind.ensures

pub returns : goal.returns
returns c =
    tell_finish (chain_line c.args.next.now c.args.rights c.args.count) c.loop-s.invariant c.loop-s-test.false
