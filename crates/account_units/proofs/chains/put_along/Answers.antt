-- `chains::put_along` meets its contract: each turn puts a statement and goes on to its partner.
use Rattle.account_units.proofs.Turns.{along_start, along_next, along_ends, along_full}
use Rattle.account_units.proofs.chains.put_along.Goals as goal

pub loop-i-init : goal.loop-i-init
loop-i-init c =
    along_start c.args.count c.args.next.now c.args.s

pub returns-then-statement-eq-NONE : goal.returns-then-statement-eq-NONE
returns-then-statement-eq-NONE c =
    along_ends c.args.count c.args.next.now c.args.s c.loop-i.invariant c.put_number-behind.ensures c.number_at-statement.result c.loop-i-test.true c.number_at-statement.ensures.0 c.if-statement-eq-NONE.true

pub loop-i-preserved : goal.loop-i-preserved
loop-i-preserved c =
    along_next c.args.count c.args.next.now c.args.s c.loop-i.invariant c.put_number-behind.ensures c.number_at-statement.result c.loop-i-test.true c.number_at-statement.ensures.0 c.if-statement-eq-NONE.false

pub returns : goal.returns
returns c =
    along_full c.args.count c.args.next.now c.args.s c.loop-i.invariant c.put_number.ensures c.loop-i-test.false
