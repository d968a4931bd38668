-- `rows::has` meets its contract.
use mathlib.Core.Path.{sym, ◌∙◌}
use borrow.Author.Rules.{rules}
use borrow.Author.Tests.{le-ltb}
use Rattle.basics.proofs.Sets.{has_beyond}
use Rattle.rows.proofs.has.Goals as goal

pub returns-else-i-lt64 : goal.returns-else-i-lt64
returns-else-i-lt64 c = le-ltb c.args.i 64 c.if-i-lt64.false ∙ sym (has_beyond 64 c.args.set c.args.i (search rules) c.if-i-lt64.false)
