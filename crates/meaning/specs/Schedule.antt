-- "Schedule": the order of the units, and which packs are dissolved on the way.
use Rattle.std.specs.Prelude.{ℕ, zero, suc, ◌+◌, min, Bool, true, false, ◌&&◌, ◌||◌, not, List, [], ◌∷◌, ◌++◌, map, eqb, ltb, length}
use Rattle.std.proofs.Math.Option.{Option, none, some}
use Rattle.basics.specs.Choice.{pick}
use Rattle.basics.specs.Counting.{count}
use Rattle.basics.specs.Lists.{all, keep, each}
use Rattle.basics.specs.Sets.{nobody, only, join, has}
use Rattle.meaning.specs.declared.Statement.{Statement}
use Rattle.meaning.specs.Dependence.{depends_on}

-- "A unit goes by its lowest statement number."
abbrev pub lowest : List ℕ → ℕ
lowest [] = 0
lowest (s ∷ []) = s
lowest (s ∷ t ∷ rest) = min s (lowest (t ∷ rest))

abbrev pub is_pack : List ℕ → Bool
is_pack unit = ltb 1 (length unit)

-- "It is ready when all that its statements depend on is scheduled." Here `scheduled` is the set of the statements that are.
abbrev pub statement_ready : List Statement → ℕ → ℕ → Bool
statement_ready ss scheduled s = count s 0 (λ earlier ready. ready && (not (depends_on ss s earlier) || has scheduled earlier)) true

abbrev pub is_ready : List Statement → ℕ → List ℕ → Bool
is_ready ss scheduled unit = all (statement_ready ss scheduled) unit

-- of the units that pass the test, the one with the lowest statement number
abbrev pub lower : List ℕ → Option (List ℕ) → Option (List ℕ)
lower unit none = some unit
lower unit (some other) = pick (ltb (lowest other) (lowest unit)) (some other) (some unit)

abbrev pub lowest_unit : (List ℕ → Bool) → List (List ℕ) → Option (List ℕ)
lowest_unit test [] = none
lowest_unit test (unit ∷ units) = elim (test unit) [ true ↦ lower unit (lowest_unit test units) | false ↦ lowest_unit test units ]

-- the waiting units without this one
abbrev pub without : List ℕ → List (List ℕ) → List (List ℕ)
without unit units = keep (λ other. not (eqb (lowest other) (lowest unit))) units

abbrev pub singles : List ℕ → List (List ℕ)
singles unit = map (λ s. s ∷ []) unit

abbrev pub with_unit : List ℕ → ℕ → ℕ
with_unit unit scheduled = each (λ s set. join set (only s)) unit scheduled

-- "Take the ready unit with the lowest statement number. If none is ready, dissolve the waiting pack with the lowest statement number into
-- singles."
unfoldable pub schedule_from : ℕ → List Statement → List (List ℕ) → ℕ → List (List ℕ)
schedule_from zero ss waiting scheduled = []
schedule_from (suc n) ss waiting scheduled =
    elim (lowest_unit (is_ready ss scheduled) waiting) [
      | some unit ↦ unit ∷ schedule_from n ss (without unit waiting) (with_unit unit scheduled)
      | none ↦
          elim (lowest_unit is_pack waiting) [
            | some pack ↦ schedule_from n ss (singles pack ++ without pack waiting) scheduled
            | none ↦ []
          ]
    ]

-- each step takes a unit or dissolves a pack, so there are at most twice as many steps as statements
unfoldable pub schedule : List Statement → List (List ℕ) → List (List ℕ)
schedule ss units = schedule_from (length ss + length ss) ss units nobody
