-- What holds at each turn of the loops of `ends::put_cells`.
use mathlib.Core.List.{List}
use Prim.Native.Nat.{ℕ}
use lib.ListN.{length}
use Rattle.meaning.specs.declared.Place.{Place}
use Rattle.memory.specs.Lent.{lent}
use Rattle.text.proofs.Putting.{Putting}
use Rattle.ends.specs.Line.{place_line}
use Rattle.ends.proofs.Turns.{cells_from}
use Rattle.ends.proofs.put_cells.Given as goal

abbrev pub text_of : (lengths start-variables start-cells block-variables block-cells list_variables list_cells : List ℕ) → Place → List ℕ
text_of lengths start-variables start-cells block-variables block-cells list_variables list_cells =
    place_line lengths (lent start-variables start-cells) (lent block-variables block-cells) (lent list_variables list_cells)

abbrev pub invariant-loop-a : goal.invariant-loop-a
invariant-loop-a l = Putting (cells_from (text_of l.ends.lengths.now l.ends.start.variables.now l.ends.start.cells.now l.ends.block.variables.now l.ends.block.cells.now l.ends.list.variables.now l.ends.list.cells.now) l.ends.lengths.now) (length l.ends.lengths.now) l.fn.out l.at l.out l.behind l.a
