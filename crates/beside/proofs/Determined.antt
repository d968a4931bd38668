-- What `side_by_side` promises determines all that comes back of it and all that was lent to it: two results that meet the promise are equal, in
-- every number, in the outcome of the comparison, and in every byte of the room, variable and cell afterwards.
use mathlib.Core.Path.{◌≡◌, sym, ◌∙◌}
use mathlib.Core.List.{List}
use Prim.Native.Nat.{ℕ}
use Rattle.meaning.specs.Machine.{Contents}
use Rattle.beside.specs.Beside.{SideBySide, side_by_side}

pub side_by_side_determined : (bytes room : List ℕ) (m n : Contents) (first second : SideBySide)
    → first ≡ side_by_side bytes room m n → second ≡ side_by_side bytes room m n → first ≡ second
side_by_side_determined bytes room m n first second one other = one ∙ sym other
