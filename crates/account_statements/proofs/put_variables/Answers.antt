-- `put_variables` meets its contract.
use mathlib.Core.Path.{ap}
use Rattle.text.specs.Text.{decimal}
use Rattle.text.proofs.Putting.{both, reads_as}
use Rattle.account_statements.proofs.put_variables.Goals as goal

pub returns : goal.returns
returns c =
    let variables = reads_as c.put_decimal-behind_variables.ensures (ap decimal c.from.ensures) in
    let live = reads_as c.put_decimal-behind_live.ensures (ap decimal c.from-2.ensures) in
    both (both (both (both c.put_words-behind_head.ensures variables) c.put_words-behind_words.ensures) live) c.put_words.ensures
