-- `put_lines` meets its contract: it says that there is none only where no statement is declared.
use mathlib.Core.Path.{◌≡◌, sym, ap}
use Prim.Native.Nat.{ℕ}
use native.Mathlib.Omega.{arith}
use lib.ListN.{length, take, length-take}
use Rattle.basics.proofs.Mapped.{unmapped}
use Rattle.text.proofs.Putting.{reads_as}
use Rattle.account_statements.specs.Statements.{lines_or_none}
use Rattle.account_statements.proofs.Turns.{some_lines}
use borrow.Author.Rules.{rules}
use Rattle.account_statements.proofs.put_lines.Goals as goal

pub returns-then-block-eq0 : goal.returns-then-block-eq0
returns-then-block-eq0 c =
    reads_as c.put_words.ensures (ap (λ (n : ℕ). lines_or_none (take n c.args.block.statements)) (sym c.if-block-eq0.true))

pub returns : goal.returns
returns c =
    let slots : length c.args.block.statements ≡ 64 = search (rules, unmapped) in
    let some : length (take c.args.block.count c.args.block.statements) ≡ 0 → ⊥ =
    λ (e : length (take c.args.block.count c.args.block.statements) ≡ 0). c.if-block-eq0.false (omega (arith, e, length-take c.args.block.count c.args.block.statements)) in
    reads_as c.put_numbered.ensures (sym (some_lines (take c.args.block.count c.args.block.statements) some))
