-- `put_field` meets its contract: the number, and the byte behind it.
use Rattle.text.proofs.Putting.{both}
use Rattle.text.proofs.put_field.Goals as goal

pub returns : goal.returns
returns c = both c.put_decimal-behind.ensures c.put.ensures
