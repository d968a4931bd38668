-- `put_statements` meets its contract.
use Rattle.text.proofs.Putting.{both}
use Rattle.account_statements.specs.Statements.{statement_lines}
use Rattle.account_statements.proofs.put_statements.Goals as goal

pub returns : goal.returns
unfolding statement_lines
returns c =
    both c.put_words-behind.ensures c.put_lines.ensures
