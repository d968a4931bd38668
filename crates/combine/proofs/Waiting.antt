-- Units added to the tables one after the other, where no two have a statement in common: the tables say of each what `Waits` wants.
use mathlib.Core.Path.{◌≡◌, refl, sym, ap, ap₂, ◌∙◌}
use mathlib.Core.Logic.{inl, inr}
use mathlib.Core.Bool.{Bool, ◌||◌, or-false, or_assoc}
use mathlib.Core.List.{List, [], ◌∷◌}
use Prim.Native.Nat.{ℕ, ◌≤◌, ◌<◌}
use native.Mathlib.Omega.{arith}
use lib.Dec.{eqb}
use lib.ListN.{length, get_or, set, length-set}
use lib.Seq.{get_or-set_same, get_or-set_other}
use Rattle.basics.specs.Lists.{any, each}
use Rattle.basics.specs.Sets.{only, join, has}
use Rattle.basics.proofs.Sets.{has_nobody, has_only, has_join}
use Rattle.meaning.specs.declared.Statement.{Statement}
use Rattle.meaning.specs.Schedule.{lowest}
use Rattle.theorems.specs.Units.{Every, occurs, Fits}
use Rattle.theorems.proofs.Occurs.{every_at}
use Rattle.theorems.proofs.Units.{fits_filled}
use Rattle.theorems.proofs.Waiting.{In, sums, sums_in, every_in, lowest_in}
use Rattle.units.specs.Words.{unit_word}
use Rattle.units.specs.Waiting.{needed_by, Waits}
use Rattle.units.specs.Lanes.{lanes_of, needed_lanes, member_lane}
use Rattle.units.proofs.Lanes.{fits_laned, lowest_lane_lem, lowest_small, member_only, needed_lanes_lem}
use Rattle.combine.specs.Cutting.{Tables, tables, wait_in}

-- the units added, the first one first
abbrev pub adds : List ℕ → List (List ℕ) → Tables → Tables
adds direct units t = each (λ unit. wait_in direct (lanes_of unit)) units t

-- a value for each unit stored by its lowest number; and these numbers
abbrev stores : (List ℕ → ℕ) → List (List ℕ) → List ℕ → List ℕ
stores value units table = each (λ unit table. set table (lowest unit) (value unit)) units table

abbrev marks : List (List ℕ) → ℕ → ℕ
marks units waiting = each (λ unit waiting. join waiting (only (lowest unit))) units waiting

-- where no unit goes by a number, the table has there what it had
stores_other : (value : List ℕ → ℕ) (units : List (List ℕ)) (table : List ℕ) (k : ℕ) → ((unit : List ℕ) → In unit units → lowest unit ≡ k → ⊥)
    → get_or (stores value units table) k 0 ≡ get_or table k 0
stores_other value [] table k differ = refl
stores_other value (u ∷ us) table k differ =
    stores_other value us (set table (lowest u) (value u)) k (λ unit there. differ unit (inr there))
    ∙ get_or-set_other table (lowest u) k (value u) 0 (λ e. differ u (inl refl) (sym e))

marks_has : (units : List (List ℕ)) (waiting s : ℕ) → has (marks units waiting) s ≡ has waiting s || any (λ unit. eqb (lowest unit) s) units
marks_has [] waiting s = sym (or-false (has waiting s))
marks_has (u ∷ us) waiting s =
    marks_has us (join waiting (only (lowest u))) s
    ∙ ap (λ (test : Bool). test || any (λ unit. eqb (lowest unit) s) us)
    (has_join waiting (only (lowest u)) s ∙ ap (λ (test : Bool). has waiting s || test) (has_only (lowest u) s))
    ∙ or_assoc (has waiting s) (eqb (lowest u) s) (any (λ unit. eqb (lowest unit) s) us)

module _ (ss : List Statement) (small : length ss ≤ 64) where
  lowest_below : (unit : List ℕ) → Fits ss unit → lowest unit < length ss
  lowest_below unit fits = every_at (λ s. s < length ss) unit fits.in_range (lowest unit) (lowest_in unit (fits_filled ss unit fits))

  -- units with no statement in common go by different numbers, so each finds its value
  stores_own : (value : List ℕ → ℕ) (units : List (List ℕ)) (table : List ℕ) → Every (Fits ss) units → length ss ≤ length table
      → ((s : ℕ) → s < length ss → sums (occurs s) units ≤ 1)
      → (unit : List ℕ) → In unit units → get_or (stores value units table) (lowest unit) 0 ≡ value unit
  stores_own value [] table fit long once unit there = absurd there
  stores_own value (u ∷ us) table fit long once unit (inl e) =
      ap (λ (x : List ℕ). get_or (stores value (u ∷ us) table) (lowest x) 0) e
      ∙ stores_other value us (set table (lowest u) (value u)) (lowest u) differ
      ∙ get_or-set_same table (lowest u) (value u) 0 (omega (arith, lowest_below u fit.0))
      ∙ ap value (sym e)
    where
      differ : (v : List ℕ) → In v us → lowest v ≡ lowest u → ⊥
      differ v there same =
          omega (
            arith,
            once (lowest u) (lowest_below u fit.0),
            lowest_in u (fits_filled ss u fit.0),
            ap (λ (x : ℕ). occurs x v) same,
            lowest_in v (fits_filled ss v (every_in (Fits ss) us v fit.1 there)),
            sums_in (occurs (lowest u)) us v there,
          )
  stores_own value (u ∷ us) table fit long once unit (inr there) =
      stores_own value us (set table (lowest u) (value u)) fit.1 (omega (arith, length-set table (lowest u) (value u)))
      (λ s below. omega (arith, once s below)) unit there

  module _ (direct : List ℕ) (nothing : get_or direct 64 0 ≡ 0) where
    -- one unit added, as its value stored by its lowest number
    wait_stores : (unit : List ℕ) → Fits ss unit → (t : Tables)
        → wait_in direct (lanes_of unit) t
        ≡ tables (set t.units (lowest unit) (unit_word unit)) (set t.needs (lowest unit) (needed_by direct unit)) (join t.waiting (only (lowest unit)))
    wait_stores unit fits t =
        let laned = fits_laned ss unit small fits in
        ap (λ (low : ℕ). tables (set t.units low (unit_word unit)) (set t.needs low (needed_lanes direct (lanes_of unit))) (join t.waiting (member_lane low)))
        (lowest_lane_lem laned)
        ∙ ap₂ (λ (need set-of : ℕ). tables (set t.units (lowest unit) (unit_word unit)) (set t.needs (lowest unit) need) (join t.waiting set-of))
        (needed_lanes_lem direct nothing laned) (member_only (lowest unit) (lowest_small laned))

    adds_stores : (units : List (List ℕ)) → Every (Fits ss) units → (t : Tables)
        → adds direct units t ≡ tables (stores unit_word units t.units) (stores (needed_by direct) units t.needs) (marks units t.waiting)
    adds_stores [] fit t = refl
    adds_stores (u ∷ us) fit t = ap (adds direct us) (wait_stores u fit.0 t) ∙ adds_stores us fit.1 _

    -- Units added to tables in which nothing waits are the units that wait.
    pub adds_wait : (units : List (List ℕ)) → Every (Fits ss) units → ((s : ℕ) → s < length ss → sums (occurs s) units ≤ 1) → (table needs : List ℕ)
        → length ss ≤ length table → length ss ≤ length needs
        → let t = adds direct units (tables table needs 0) in Waits direct units t.units t.needs t.waiting
    adds_wait units fit once table needs long long' =
        let same = adds_stores units fit (tables table needs 0) in
        record {
          word = λ unit there.
              ap (λ (t : Tables). get_or t.units (lowest unit) 0) same ∙ stores_own unit_word units table fit long once unit there;
          need = λ unit there.
              ap (λ (t : Tables). get_or t.needs (lowest unit) 0) same ∙ stores_own (needed_by direct) units needs fit long' once unit there;
          numbers = λ s.
              ap (λ (t : Tables). has t.waiting s) same
              ∙ marks_has units 0 s
              ∙ ap (λ (test : Bool). test || any (λ unit. eqb (lowest unit) s) units) (has_nobody s);
        }
