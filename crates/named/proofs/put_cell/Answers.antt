-- `put_cell` meets its contract.
use Rattle.text.proofs.Putting.{both}
use Rattle.named.proofs.put_cell.Goals as goal

pub returns : goal.returns
returns c =
    let array = rw c.from.ensures at c.put_decimal-behind_array.ensures in
    let index = rw c.from-2.ensures at c.put_decimal-behind_index.ensures in
    both (both (both (both c.put_words-behind_letter.ensures array) c.put_words-behind_bracket.ensures) index) c.put_words.ensures
