-- `put_pair` meets its contract: the two letters, one behind the other.
use Rattle.text.proofs.Putting.{reads_as, both}
use Rattle.text.proofs.put_pair.Goals as goal

pub returns : goal.returns
returns c =
    reads_as (both c.put-behind.ensures c.put.ensures) (rw (c.letter-high.ensures, c.letter-low.ensures, c.from-n.ensures))
