-- `lines::put_second` meets its contract: the bytes of the list, and a line feed. All of the room is its first `size` bytes where it has
-- fewer.
use mathlib.Core.Path.{ap, ◌∙◌}
use mathlib.Core.List.{List, [], ◌∷◌, ◌++◌}
use Prim.Native.Nat.{ℕ}
use lib.ListN.{take}
use Rattle.basics.proofs.Lists.{take_least}
use Rattle.text.specs.Text.{hex}
use Rattle.text.proofs.Putting.{reads_as, both}
use Rattle.answers.specs.Lines.{line_feed}
use Rattle.answers.proofs.lines.put_second.Goals as goal

pub returns : goal.returns
returns c =
    reads_as (both c.put_hex-behind.ensures c.put.ensures)
    (ap (λ (bytes : List ℕ). hex bytes ++ line_feed ∷ []) (ap (λ (k : ℕ). take k c.args.room.now) c.min-end.ensures ∙ take_least c.args.size c.args.room.now))
