-- `put_variable` meets its contract.
use Rattle.text.proofs.Putting.{both}
use Rattle.named.proofs.put_variable.Goals as goal

pub returns : goal.returns
returns c =
    let number = rw c.from.ensures at c.put_decimal.ensures in
    both c.put_words-behind.ensures number
