-- `put_w` meets its contract: the cells, and the register that is stored.
use Rattle.text.proofs.Putting.{both}
use Rattle.account_list.proofs.instruction.put_w.Goals as goal

pub returns : goal.returns
returns c =
    both (both (both c.put_words-behind_letter.ensures c.put_row-behind_row.ensures) c.put_words-behind_equals.ensures) c.put_register.ensures
