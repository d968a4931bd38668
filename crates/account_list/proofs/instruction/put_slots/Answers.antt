-- `put_slots` meets its contract: the register, and what stands in its lanes.
use Rattle.text.proofs.Putting.{both}
use Rattle.account_list.proofs.instruction.put_slots.Goals as goal

pub returns : goal.returns
returns c =
    both (both (both c.put_words-behind_letter.ensures c.put_register-behind_register.ensures) c.put_words-behind_equals.ensures) c.put_operands.ensures
