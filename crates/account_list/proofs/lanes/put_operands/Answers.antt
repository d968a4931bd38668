-- `put_operands` meets its contract: slot by slot.
use Rattle.text.proofs.Putting.{both}
use Rattle.account_list.proofs.lanes.put_operands.Goals as goal

pub returns : goal.returns
returns c =
    both (both (both c.put_operand-behind_first.ensures c.put_operand-behind_second.ensures) c.put_operand-behind_third.ensures) c.put_operand.ensures
