-- The measure of `text::put_spelled`: how many places there are.
use Rattle.text.proofs.+put_spelled.Given as goal

abbrev pub decreases-put_spelled : goal.decreases-put_spelled
decreases-put_spelled l = l.places
