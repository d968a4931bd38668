-- The units that wait, as tables by lowest statement number: what they say of the list of units.
use Rattle.std.specs.Prelude.{◌≡◌, ℕ, List, eqb, get_or}
use Rattle.basics.specs.Lists.{any, each}
use Rattle.basics.specs.Sets.{nobody, join, has}
use Rattle.meaning.specs.Schedule.{lowest}
use Rattle.theorems.proofs.Waiting.{In}
use Rattle.units.specs.Words.{unit_word}

-- all that a unit's statements depend on
abbrev pub needed_by : List ℕ → List ℕ → ℕ
needed_by direct unit = each (λ s set. join set (get_or direct s 0)) unit nobody

pub record Waits (direct : List ℕ) (units : List (List ℕ)) (table needs : List ℕ) (waiting : ℕ) : Type 0 where
  pub word : (unit : List ℕ) → In unit units → get_or table (lowest unit) 0 ≡ unit_word unit
  pub need : (unit : List ℕ) → In unit units → get_or needs (lowest unit) 0 ≡ needed_by direct unit
  pub numbers : (s : ℕ) → has waiting s ≡ any (λ unit. eqb (lowest unit) s) units
