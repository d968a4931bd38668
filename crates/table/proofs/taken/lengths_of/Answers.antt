-- `taken::lengths_of` meets its contract: each call gives one length.
use Rattle.std.proofs.Common.{rules, tests}
use Rattle.table.specs.Taken.{length_in}
use Rattle.table.proofs.Filled.{filled}
use Rattle.table.proofs.taken.lengths_of.Goals as goal

pub returns : goal.returns
returns c = filled (length_in c.args.table.now) (λ i y q called. search (rules, tests)) c.from_fn.result 8 c.from_fn.ensures.items
