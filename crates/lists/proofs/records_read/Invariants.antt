-- What holds at each turn of the loop of `lists::records_read`.
use mathlib.Core.Path.{◌≡◌}
use lib.ListN.{drop}
use Prim.Native.Nat.{◌-◌}
use Rattle.meaning.specs.List.{read_records}
use Rattle.lists.specs.Whole.{is_some}
use Rattle.lists.proofs.records_read.Given as goal

abbrev pub invariant-loop-record : goal.invariant-loop-record
invariant-loop-record l = is_some (read_records l.count (drop 4 l.bytes)) ≡ is_some (read_records (l.count - l._record) (drop l.start l.bytes))
