-- `put_o` meets its contract: the register written, and two with the operation between them.
use Rattle.text.proofs.Putting.{both}
use Rattle.account_list.proofs.instruction.put_o.Goals as goal

pub returns : goal.returns
returns c =
    both (both c.put_copy-behind_first.ensures c.put_operation-behind_operation.ensures) c.put_register.ensures
