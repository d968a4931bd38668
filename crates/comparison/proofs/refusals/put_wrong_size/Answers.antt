-- `refusals::put_wrong_size` meets its contract: its five parts, one behind the other.
use Rattle.text.proofs.Putting.{both}
use Rattle.comparison.specs.Compared.{wrong_size}
use Rattle.comparison.proofs.refusals.put_wrong_size.Goals as goal

pub returns : goal.returns
unfolding wrong_size
returns c =
    both (both (both (both c.put_words-behind_number.ensures c.put_decimal-behind_given.ensures) c.put_words-behind_words.ensures) c.put_decimal-behind_needed.ensures)
    c.put_words.ensures
