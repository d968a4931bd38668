-- `chains::put_chain` meets its contract: the numbers between a space and a line feed.
use Rattle.text.proofs.Putting.{both}
use Rattle.account_units.proofs.chains.put_chain.Goals as goal

pub returns : goal.returns
returns c = both (both c.put_words-behind_space.ensures c.put_along-behind_numbers.ensures) c.put_words.ensures
