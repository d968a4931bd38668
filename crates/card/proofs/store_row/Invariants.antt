-- What holds at each turn of the loops of `card::store_row`.
use Rattle.card.specs.Registers.{row_stored}
use lib.ListN.{length, take, drop}
use Prim.Native.Nat.{◌+◌, ◌-◌}
use mathlib.Core.Path.{◌≡◌}
use Rattle.card.proofs.store_row.Given as goal

abbrev pub invariant-loop-j : goal.invariant-loop-j
invariant-loop-j l = (length l.cells ≡ length l.fn.cells)
    × (row_stored l.k l.at (take l.a.count l.a.lanes) l.fn.cells ≡ row_stored (l.k - l.j) (l.at + l.j) (drop l.j (take l.a.count l.a.lanes)) l.cells)
