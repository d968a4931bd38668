-- `put_column` meets its contract: the spaces that the number leaves, and the number.
use mathlib.Core.Path.{ap, ◌∙◌}
use mathlib.Core.List.{◌++◌}
use Prim.Native.Nat.{ℕ, ◌-◌}
use Rattle.text.specs.Text.{decimal, spaces, column}
use Rattle.text.proofs.Putting.{both, reads_as}
use Rattle.text.proofs.put_column.Goals as goal

pub returns : goal.returns
unfolding column
returns c =
    let a = c.args in
    reads_as (both c.put_spaces-behind.ensures c.put_decimal.ensures)
    (ap (λ (n : ℕ). spaces n ++ decimal a.n) (c.left_of-empty.ensures ∙ ap (λ (taken : ℕ). a.width - taken) c.digits.ensures))
