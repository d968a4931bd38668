-- `numbers::put_number` meets its contract: the space, and the number behind it.
use Rattle.text.proofs.Putting.{both}
use Rattle.account_units.proofs.numbers.put_number.Goals as goal

pub returns : goal.returns
returns c = both c.put_words-behind.ensures c.put_decimal.ensures
