-- `put_lane` meets its contract: the register, a dot and the lane.
use Rattle.text.proofs.Putting.{both}
use Rattle.account_list.proofs.lanes.put_lane.Goals as goal

pub returns : goal.returns
returns c =
    both (both c.put_register-behind_register.ensures c.put_words-behind_dot.ensures) (rw c.from.ensures at c.put_decimal.ensures)
