-- `put_line` meets its contract.
use mathlib.Core.Path.{ap}
use Rattle.text.specs.Text.{decimal}
use Rattle.text.proofs.Putting.{both, reads_as}
use Rattle.account_statements.specs.Statements.{statement_line}
use Rattle.account_statements.proofs.put_line.Goals as goal

pub returns : goal.returns
unfolding statement_line
returns c =
    let number = both c.put_words-behind_spaces.ensures c.put_decimal-behind_number.ensures in
    let named = both (both number c.put_words-behind_colon.ensures) c.put_statement-behind_statement.ensures in
    let priced = reads_as c.put_decimal-behind_price.ensures (ap decimal c.statement_price-price.ensures.0) in
    both (both (both named c.put_words-behind_words.ensures) priced) c.put_words.ensures
