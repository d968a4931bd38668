-- `put_s` meets its contract: the number, and the statement that it names.
use Rattle.text.proofs.Putting.{both}
use Rattle.account_list.proofs.instruction.put_s.Goals as goal

pub returns : goal.returns
returns c =
    both (both (both c.put_words-behind_letter.ensures (rw c.from.ensures at c.put_decimal-behind_number.ensures)) c.put_words-behind_colon.ensures) c.put_statement.ensures
