-- What holds at each turn of the loop of `bytes::write_lengths`.
use Rattle.meaning.specs.Format.{bytes_of}
use Rattle.writer.proofs.Run.{Written}
use Rattle.writer.proofs.bytes.write_lengths.Given as goal

abbrev pub invariant-loop-n : goal.invariant-loop-n
invariant-loop-n l = Written (bytes_of 2) l.n-items l.fn.room l.at l.room l.place l.n-index
