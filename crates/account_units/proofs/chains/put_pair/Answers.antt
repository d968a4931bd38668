-- `chains::put_pair` meets its contract: the pair as a unit of two.
use mathlib.Core.Path.{ap, ap₂, ◌∙◌}
use mathlib.Core.List.{[], ◌∷◌}
use Prim.Native.Nat.{ℕ}
use lib.ListN.{get_or}
use Rattle.units.specs.declared.Unit.{Unit as Lanes}
use Rattle.text.proofs.Putting.{reads_as}
use Rattle.account_units.specs.Lines.{numbers_line}
use Rattle.account_units.specs.InTables.{unit_numbers}
use Rattle.account_units.proofs.chains.put_pair.Goals as goal

pub pack_of_two-pair-requires : goal.pack_of_two-pair-requires
pack_of_two-pair-requires c = (c.number_at-left.ensures.1, c.number_at-right.ensures.1)

pub returns : goal.returns
returns c =
    reads_as c.put_unit.ensures
    (ap (λ (unit : Lanes). numbers_line (unit_numbers unit)) c.pack_of_two-pair.ensures
    ∙ ap₂ (λ (s t : ℕ). numbers_line (s ∷ t ∷ [])) c.number_at-left.ensures.0 (c.number_at-right.ensures.0 ∙ ap (λ (s : ℕ). get_or c.args.next.now s 64) c.number_at-left.ensures.0))
