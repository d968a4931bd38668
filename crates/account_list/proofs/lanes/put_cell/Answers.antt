-- `put_cell` meets its contract: a space and the cell.
use Rattle.text.proofs.Putting.{both}
use Rattle.account_list.proofs.lanes.put_cell.Goals as goal

pub returns : goal.returns
returns c =
    both (both (both (both c.put_words-behind_letter.ensures (rw c.from.ensures at c.put_decimal-behind_array.ensures)) c.put_words-behind_bracket.ensures) c.put_decimal-behind_index.ensures) c.put_words.ensures
