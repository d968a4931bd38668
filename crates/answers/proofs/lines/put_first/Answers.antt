-- `lines::put_first` meets its contract: the four fields, one behind the other.
use mathlib.Core.Path.{ap}
use Prim.Native.Nat.{ℕ}
use Rattle.text.specs.Text.{field}
use Rattle.text.proofs.Putting.{both, reads_as}
use Rattle.answers.proofs.lines.put_first.Goals as goal

pub returns : goal.returns
returns c =
    let status = reads_as c.put_field-behind_status.ensures (ap (λ (n : ℕ). field n 32) c.from.ensures) in
    both (both (both status c.put_field-behind_size.ensures) c.put_field-behind_block.ensures) c.put_field.ensures
