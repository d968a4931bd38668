-- `put_copy` meets its contract: the register written and the one read.
use Rattle.text.proofs.Putting.{both}
use Rattle.account_list.proofs.instruction.put_copy.Goals as goal

pub returns : goal.returns
returns c =
    both (both (both c.put_words-behind_letter.ensures c.put_register-behind_register.ensures) c.put_words-behind_equals.ensures) c.put_register.ensures
