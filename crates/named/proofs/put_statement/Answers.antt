-- `put_statement` meets its contract.
use Rattle.text.proofs.Putting.{both}
use Rattle.named.specs.Names.{statement_text}
use Rattle.named.proofs.put_statement.Goals as goal

pub returns : goal.returns
unfolding statement_text
returns c =
    both (both (both (both c.put_place-behind_destination.ensures c.put_words-behind_equals.ensures) c.put_operand-behind_left.ensures) c.put_operation-behind_operation.ensures) c.put_operand.ensures
