-- `line::put_name` meets its contract: the name, and the spaces that it leaves.
use mathlib.Core.Path.{ap, ◌∙◌}
use mathlib.Core.List.{◌++◌}
use Prim.Native.Nat.{ℕ, ◌-◌}
use Rattle.text.specs.Text.{spaces}
use Rattle.text.proofs.Putting.{both, reads_as}
use Rattle.named.specs.Names.{place_text}
use Rattle.ends.specs.Line.{name_text}
use Rattle.ends.proofs.line.put_name.Goals as goal

pub returns : goal.returns
unfolding name_text
returns c =
    reads_as (both c.put_place-behind.ensures c.put_spaces.ensures)
    (ap (λ (n : ℕ). place_text c.args.place ++ spaces n) (c.left_of-empty.ensures ∙ ap (λ (taken : ℕ). 7 - taken) c.name_length.ensures))
