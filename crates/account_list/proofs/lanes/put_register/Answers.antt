-- `put_register` meets its contract: the letter and the number.
use Rattle.text.proofs.Putting.{both}
use Rattle.account_list.proofs.lanes.put_register.Goals as goal

pub returns : goal.returns
returns c =
    both c.put_words-behind.ensures (rw c.from.ensures at c.put_decimal.ensures)
