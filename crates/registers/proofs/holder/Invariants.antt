-- What holds at each turn of the loops of `registers::holder`.
use mathlib.Core.Path.{◌≡◌}
use Prim.Native.Nat.{◌-◌}
use Rattle.registers.specs.Table.{holder_from}
use Rattle.registers.proofs.holder.Given as goal

abbrev pub invariant-loop-r : goal.invariant-loop-r
invariant-loop-r l = holder_from l.count 0 l.registers l.done l.tuple ≡ holder_from (l.count - l.r) l.r l.registers l.done l.tuple
