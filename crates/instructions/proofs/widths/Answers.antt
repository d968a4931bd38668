-- `instructions::widths` meets its contract.
use mathlib.Core.List.{map}
use mathlib.Core.Path.{◌≡◌, ◌∙◌}
use native.Mathlib.Omega.{arith}
use borrow.Author.Rules.{rules}
use Rattle.std.specs.List.{sum as total}
use Rattle.meaning.specs.Format.{operand_width}
use Rattle.instructions.proofs.Gathers.{sum_listed, widths_few}
use Rattle.instructions.proofs.widths.Goals as goal

pub returns : goal.returns
returns c =
    let listed : c.sum.result ≡ total (map operand_width c.args.operands.now) = search rules in
    let exact = listed ∙ sum_listed (map operand_width c.args.operands.now) in
    record { exact = exact; few = omega (arith, c.requires, exact, widths_few c.args.operands.now) }
