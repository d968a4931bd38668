-- What holds at each turn of the loops of `ends::put_variables`.
use mathlib.Core.List.{List}
use Prim.Native.Nat.{ℕ}
use Rattle.meaning.specs.declared.Place.TheVariants.{Variable}
use Rattle.memory.specs.Lent.{lent}
use Rattle.text.proofs.Putting.{Putting}
use Rattle.ends.specs.Line.{place_line}
use Rattle.ends.proofs.Turns.{turns_from}
use Rattle.ends.proofs.put_variables.Given as goal

abbrev pub text_of : (lengths start-variables start-cells block-variables block-cells list_variables list_cells : List ℕ) → ℕ → List ℕ
text_of lengths start-variables start-cells block-variables block-cells list_variables list_cells i =
    place_line lengths (lent start-variables start-cells) (lent block-variables block-cells) (lent list_variables list_cells) (Variable i)

abbrev pub invariant-loop-v : goal.invariant-loop-v
invariant-loop-v l = Putting (turns_from (text_of l.ends.lengths.now l.ends.start.variables.now l.ends.start.cells.now l.ends.block.variables.now l.ends.block.cells.now l.ends.list.variables.now l.ends.list.cells.now) l.live) l.live l.fn.out l.at l.out l.behind l.v
