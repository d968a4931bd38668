-- `put_stored` meets its contract: the place, and the lane that is stored.
use Rattle.text.proofs.Putting.{both}
use Rattle.account_list.proofs.instruction.put_stored.Goals as goal

pub returns : goal.returns
returns c =
    both (both (both c.put_words-behind_letter.ensures c.put_place-behind_place.ensures) c.put_words-behind_equals.ensures) c.put_lane.ensures
