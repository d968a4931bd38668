-- `put_numbered` meets its contract: each turn puts the line of the next statement.
use mathlib.Core.Path.{◌≡◌, ap, ◌∙◌}
use mathlib.Core.List.{List}
use Prim.Native.Nat.{ℕ, min}
use native.Mathlib.Omega.{arith}
use lib.ListN.{length, take}
use borrow.Author.Rules.{rules}
use Rattle.meaning.specs.declared.Statement.{Statement}
use Rattle.basics.proofs.Mapped.{unmapped}
use Rattle.basics.proofs.Lists.{take_least}
use Rattle.text.proofs.Putting.{start, next, finish, reads_as}
use Rattle.account_statements.specs.Statements.{numbered_lines}
use Rattle.account_statements.proofs.Turns.{lines_from, lines_next, lines_none}
use Rattle.account_statements.proofs.put_numbered.Goals as goal

pub loop-i-init : goal.loop-i-init
loop-i-init c = start (lines_from (take c.at_most-n.result c.args.block.statements))

pub loop-i-preserved : goal.loop-i-preserved
loop-i-preserved c =
    let ss : List Statement = take c.at_most-n.result c.args.block.statements in
    next (lines_from ss) c.loop-i.invariant c.loop-i-test.true (lines_next ss c.loop-i.i c.loop-i-test.true) c.put_line-behind.ensures

pub returns : goal.returns
returns c =
    let sized : length c.args.block.statements ≡ 64 = search (rules, unmapped) in
    let ss : List Statement = take c.at_most-n.result c.args.block.statements in
    let many : c.at_most-n.result ≡ min c.args.block.count (length c.args.block.statements) = omega arith in
    reads_as (finish (lines_from ss) c.loop-i.invariant (lines_none ss c.loop-i.i c.loop-i-test.false))
    (ap (numbered_lines 0) (ap (λ (k : ℕ). take k c.args.block.statements) many ∙ take_least c.args.block.count c.args.block.statements))
