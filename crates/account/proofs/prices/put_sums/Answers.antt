-- `prices::put_sums` meets its contract: its parts, one behind the other.
use Rattle.text.proofs.Putting.{both}
use Rattle.account.specs.Prices.{sums_line}
use Rattle.account.proofs.prices.put_sums.Goals as goal

pub returns : goal.returns
unfolding sums_line
returns c =
    both (both (both (both c.put_words-behind_words.ensures c.put_decimal-behind_block.ensures) c.put_words-behind_comma.ensures) c.put_decimal-behind_list.ensures) c.put_words.ensures
