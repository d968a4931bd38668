-- `numbers::put_unit` meets its contract: the numbers between a space and a line feed.
use Rattle.text.proofs.Putting.{both}
use Rattle.account_units.proofs.numbers.put_unit.Goals as goal

pub returns : goal.returns
returns c = both (both c.put_words-behind_space.ensures c.put_lanes-behind_lanes.ensures) c.put_words.ensures
