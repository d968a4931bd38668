-- A unit's lanes, met one after the other, are its statements.
use mathlib.Core.Path.{◌≡◌, refl, ap, ◌∙◌}
use mathlib.Core.List.{List, [], ◌∷◌}
use Prim.Native.Nat.{ℕ, ◌≤◌, ◌<◌}
use native.Mathlib.Omega.{arith}
use lib.Bits.{or_zero_r}
use lib.ListN.{length, get_or}
use Rattle.basics.specs.Lists.{each}
use Rattle.basics.specs.Sets.{only, join}
use Rattle.meaning.specs.Schedule.{with_unit}
use Rattle.theorems.specs.Units.{Every}
use Rattle.units.proofs.Lanes.{member_only}
use Rattle.schedule.specs.Stages.{with_single}

-- where a lane that is not there changes nothing
pub lanes_each {ℓ} : {A : Type ℓ} (f : ℕ → A → A) → ((a : A) → f 64 a ≡ a) → (unit : List ℕ) → length unit ≤ 4 → (a : A)
    → f (get_or unit 3 64) (f (get_or unit 2 64) (f (get_or unit 1 64) (f (get_or unit 0 64) a))) ≡ each f unit a
lanes_each f absent [] h a = absent _ ∙ absent _ ∙ absent _ ∙ absent a
lanes_each f absent (x ∷ []) h a = absent _ ∙ absent _ ∙ absent _
lanes_each f absent (x ∷ y ∷ []) h a = absent _ ∙ absent _
lanes_each f absent (x ∷ y ∷ z ∷ []) h a = absent _
lanes_each f absent (x ∷ y ∷ z ∷ w ∷ []) h a = refl
lanes_each f absent (x ∷ y ∷ z ∷ w ∷ v ∷ rest) h a = absurd (omega arith)

each_with : (unit : List ℕ) (set : ℕ) → Every (λ s. s < 64) unit → each with_single unit set ≡ with_unit unit set
each_with [] set range = refl
each_with (s ∷ rest) set range =
    ap (λ (own : ℕ). each with_single rest (join set own)) (member_only s range.0)
    ∙ each_with rest (join set (only s)) range.1

pub singles_with : (unit : List ℕ) (set : ℕ) → length unit ≤ 4 → Every (λ s. s < 64) unit
    → with_single (get_or unit 3 64) (with_single (get_or unit 2 64) (with_single (get_or unit 1 64) (with_single (get_or unit 0 64) set))) ≡ with_unit unit set
singles_with unit set h range = lanes_each with_single or_zero_r unit h set ∙ each_with unit set range
