-- `prices::put_choice` meets its contract: its parts, one behind the other.
use Rattle.text.proofs.Putting.{both}
use Rattle.account.specs.Prices.{choice_line}
use Rattle.account.proofs.prices.put_choice.Goals as goal

pub returns : goal.returns
unfolding choice_line
returns c =
    both (both (both (both (both c.put_words-behind_words.ensures c.put_decimal-behind_block.ensures) c.put_words-behind_comma.ensures) c.put_decimal-behind_packed.ensures) c.put_words-behind_dot.ensures) c.put_verdict.ensures
