-- `taken::statements_of` meets its contract: each call gives one statement.
use Rattle.std.proofs.Common.{rules, tests}
use Rattle.table.specs.Taken.{statement_in}
use Rattle.table.proofs.Filled.{filled}
use Rattle.table.proofs.taken.statements_of.Goals as goal

pub returns : goal.returns
returns c = filled (statement_in c.args.table.now) (λ i y q called. search (rules, tests)) c.from_fn.result 64 c.from_fn.ensures.items
