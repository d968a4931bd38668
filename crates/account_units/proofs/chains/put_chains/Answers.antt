-- `chains::put_chains` meets its contract: the section's lines are those that its closure puts.
use Rattle.std.proofs.Common.{of_calls}
use Rattle.account_units.proofs.chains.put_chains.Goals as goal

pub returns : goal.returns
returns c = c.put_section.ensures _ λ before start behind after said. search of_calls
