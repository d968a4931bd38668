-- The units that combination leaves, in the order in which the schedule takes them, as the code has them.
use mathlib.Core.Path.{◌≡◌, ap, ◌∙◌}
use Prim.Native.Nat.{ℕ}
use mathlib.Core.List.{List}
use native.Mathlib.Omega.{arith}
use lib.ListN.{length}
use Rattle.combine.specs.Cutting.{Tables as Cut, tables as cut-tables}
use Rattle.schedule.specs.Stages.{scheduled_tables}
use Rattle.phases.specs.Ordered.{waiting_units, Ordered}

pub ordered_by : (n : ℕ) (reached direct next : List ℕ) (rights : ℕ) (before order : List ℕ) (size : ℕ) (units needs : List ℕ) (waiting : ℕ)
    → cut-tables units needs waiting ≡ waiting_units n reached direct next rights
    → length units ≡ 64 → length needs ≡ 64
    → order ≡ (scheduled_tables n direct units needs waiting before).order
    → size ≡ (scheduled_tables n direct units needs waiting before).size
    → Ordered n reached direct next rights before order size
ordered_by n reached direct next rights before order size units needs waiting e long long' eo ez =
    record {
      units_long = omega (arith, ap (λ (t : Cut). length t.units) e);
      needs_long = omega (arith, ap (λ (t : Cut). length t.needs) e);
      words = eo ∙ ap (λ (t : Cut). (scheduled_tables n direct t.units t.needs t.waiting before).order) e;
      sized = ez ∙ ap (λ (t : Cut). (scheduled_tables n direct t.units t.needs t.waiting before).size) e;
    }
