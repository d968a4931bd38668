-- What holds at each turn of the loop of `reader::read_lengths`.
use Rattle.reader.specs.Answers.{no_lengths, lengths_read}
use Rattle.meaning.specs.Format.{read_lengths}
use lib.ListN.{drop}
use Prim.Native.Nat.{◌+◌, ◌-◌}
use mathlib.Core.Path.{◌≡◌}
use Rattle.reader.proofs.read_lengths.Given as goal

abbrev pub invariant-loop-i : goal.invariant-loop-i
invariant-loop-i l = (l.i-end ≡ l.arrays)
    × (lengths_read no_lengths 0 (read_lengths l.arrays l.bytes) ≡ lengths_read l.lengths l.i (read_lengths (l.arrays - l.i) (drop (l.i + l.i) l.bytes)))
