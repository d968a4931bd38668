-- `put::put_statements` meets its contract: each turn stores the ten numbers of the next statement.
use mathlib.Core.Path.{◌≡◌, ◌∙◌}
use Prim.Native.Nat.{◌+◌, ◌*◌, ◌<◌}
use native.Mathlib.Omega.{arith}
use borrow.Author.Rules.{rules}
use lib.ListN.{length, get_or}
use Rattle.basics.proofs.Mapped.{unmapped}
use Rattle.meaning.specs.Block.{blank}
use Rattle.writer.proofs.Part.{part_stored}
use Rattle.writer.proofs.Run.{start, space, next, all_stored}
use Rattle.table.specs.Table.{statement_numbers}
use Rattle.table.proofs.Rows.{statement_ten, statements_ten}
use Rattle.table.proofs.put.put_statements.Goals as goal

pub loop-i-init : goal.loop-i-init
loop-i-init c =
    let many : length c.args.block.statements ≡ 64 = search (rules, unmapped) in
    start statement_numbers c.args.block.statements c.args.table.now 12 (omega (arith, statements_ten c.args.block.statements, c.requires))

pub loop-i-preserved : goal.loop-i-preserved
loop-i-preserved c =
    let many : length c.args.block.statements ≡ 64 = search (rules, unmapped) in
    let more : c.loop-i.i < length c.args.block.statements = omega arith in
    let s = get_or c.args.block.statements c.loop-i.i blank in
    let at = 12 + 10 * c.loop-i.i in
    next statement_numbers c.args.block.statements c.loop-i.invariant blank more
    (part_stored c.loop-i.table (statement_numbers s) at (at + 10) (c.copy_from_slice.ensures.after ∙ c.statement_numbers.ensures) (omega (arith, statement_ten s)) (space statement_numbers c.args.block.statements c.loop-i.invariant blank more))
    (omega (arith, statement_ten s))

pub returns : goal.returns
returns c =
    let many : length c.args.block.statements ≡ 64 = search (rules, unmapped) in
    all_stored statement_numbers c.args.block.statements c.loop-i.invariant (omega arith)
