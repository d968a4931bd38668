-- `instructions::all_operands` meets its contract.
use borrow.Author.Rules.{rules}
use Rattle.std.specs.Bool.{IsTrue}
use Rattle.std.specs.Prelude.{◌↔◌}
use Rattle.std.specs.List.{AllPass}
use Rattle.meaning.specs.Format.{is_operand}
use Rattle.instructions.proofs.Gathers.{all_pass}
use Rattle.instructions.proofs.all_operands.Goals as goal

pub returns : goal.returns
returns c =
    let e : IsTrue c.all.result ↔ AllPass is_operand c.args.operands.now = search rules in
    all_pass is_operand c.args.operands.now c.all.result e
