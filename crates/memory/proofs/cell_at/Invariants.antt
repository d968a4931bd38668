-- What holds at each turn of the loops of `memory::cell_at`.
use mathlib.Core.Path.{◌≡◌}
use Prim.Native.Nat.{◌+◌, ◌*◌, ◌≤◌}
use lib.ListN.{drop}
use Rattle.basics.specs.Lists.{sum}
use Rattle.meaning.specs.Machine.{cell_at}
use Rattle.memory.proofs.cell_at.Given as goal

abbrev pub invariant-loop-length : goal.invariant-loop-length
invariant-loop-length l = (l.at ≤ 255 + 65535 * l.length-index) × (cell_at l.lengths l.array l.index ≡ sum (drop l.length-index l.length-items) + l.at)
