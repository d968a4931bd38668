-- What holds at each turn of the loop of `encode::put_all`: the bytes that are left are still to be stored.
use Rattle.std.proofs.Common.{◌≡◌, ◌+◌, drop}
use lib.Seq.{sets}
use Rattle.encode.proofs.put_all.Given as goal

abbrev pub invariant-loop-i : goal.invariant-loop-i
invariant-loop-i l = sets l.fn.out l.place l.bytes ≡ sets l.out (l.place + l.i) (drop l.i l.bytes)
