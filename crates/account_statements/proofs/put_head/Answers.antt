-- `put_head` meets its contract: what is counted are the slots that are declared.
use mathlib.Core.Path.{◌≡◌, ap₂}
use Prim.Native.Nat.{min}
use native.Mathlib.Omega.{arith}
use lib.ListN.{length, take, length-take}
use Rattle.basics.proofs.Mapped.{unmapped}
use Rattle.text.proofs.Putting.{both, reads_as}
use Rattle.account_statements.specs.Statements.{counts_text, head_line}
use borrow.Author.Rules.{rules}
use Rattle.account_statements.proofs.put_head.Goals as goal

pub returns : goal.returns
unfolding head_line
returns c =
    let sized : length c.args.block.lengths ≡ 8 = search (rules, unmapped) in
    let many : length c.args.block.statements ≡ 64 = search (rules, unmapped) in
    let arrays : min c.args.block.arrays 8 ≡ length (take c.args.block.arrays c.args.block.lengths) = omega (arith, length-take c.args.block.arrays c.args.block.lengths) in
    let statements : min c.args.block.count 64 ≡ length (take c.args.block.count c.args.block.statements) =
    omega (arith, length-take c.args.block.count c.args.block.statements) in
    both c.put_variables-behind.ensures (reads_as c.put_counts.ensures (ap₂ counts_text arrays statements))
