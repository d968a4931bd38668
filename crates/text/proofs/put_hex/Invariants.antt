-- What holds at each turn of the loops of `text::put_hex`.
use lib.ListN.{length}
use Rattle.text.proofs.Putting.{Putting}
use Rattle.text.proofs.Spelling.{hex_from}
use Rattle.text.proofs.put_hex.Given as goal

abbrev pub invariant-loop-byte : goal.invariant-loop-byte
invariant-loop-byte l = Putting (hex_from l.bytes) (length l.bytes) l.fn.out l.at l.out l.behind l.byte-index
