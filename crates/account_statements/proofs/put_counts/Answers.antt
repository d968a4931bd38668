-- `put_counts` meets its contract.
use mathlib.Core.Path.{ap}
use Rattle.text.specs.Text.{decimal}
use Rattle.text.proofs.Putting.{both, reads_as}
use Rattle.account_statements.proofs.put_counts.Goals as goal

pub returns : goal.returns
returns c =
    let arrays = reads_as c.put_decimal-behind_arrays.ensures (ap decimal c.at_most-declared.ensures) in
    let statements = reads_as c.put_decimal-behind_statements.ensures (ap decimal c.at_most-statements.ensures) in
    both (both (both arrays c.put_words-behind_words.ensures) statements) c.put_words.ensures
