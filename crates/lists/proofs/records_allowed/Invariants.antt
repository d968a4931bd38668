-- What holds at each turn of the loop of `lists::records_allowed`.
use mathlib.Core.Path.{◌≡◌}
use mathlib.Core.List.{[]}
use lib.ListN.{length, take, drop}
use Prim.Native.Nat.{◌-◌, ◌≤◌}
use Rattle.meaning.specs.List.{read_records}
use Rattle.meaning.specs.Block.{declared}
use Rattle.lists.specs.Whole.{allowed_of}
use Rattle.lists.proofs.records_allowed.Given as goal

abbrev pub invariant-loop-record : goal.invariant-loop-record
invariant-loop-record l = (l.n ≤ 96)
    × (length l.written ≡ 97)
    × (allowed_of (declared l.block) [] (read_records l.count (drop 4 l.bytes))
    ≡ allowed_of (declared l.block) (take l.n l.written) (read_records (l.count - l._record) (drop l.start l.bytes)))
