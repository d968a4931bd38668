-- "Schedule": the units come out whole and in an order in which no statement depends on one behind it; some step is always left to do, and
-- there are steps enough.
use mathlib.Core.Path.{◌≡◌, refl, sym, ap, subst, ◌∙◌}
use mathlib.Core.Logic.{◌⊎◌, inl, inr}
use mathlib.Core.Bool.{Bool, true, false, ◌&&◌, false≢true}
use mathlib.Core.Option.{Option, none, some}
use mathlib.Core.List.{List, [], ◌∷◌, ◌++◌}
use Prim.Native.Nat.{ℕ, zero, suc, ◌+◌, ◌≤◌, ◌<◌}
use native.Mathlib.Omega.{arith}
use lib.ListN.{length}
use borrow.Author.Tests.{ltb-false}
use Rattle.basics.specs.Choice.{pick}
use Rattle.basics.specs.Lists.{flat}
use Rattle.basics.specs.Sets.{nobody, has}
use Rattle.basics.proofs.Tests.{and_both, below_or_not}
use Rattle.basics.proofs.Sets.{has_nobody}
use Rattle.meaning.specs.declared.Statement.{Statement}
use Rattle.meaning.specs.Dependence.{depends_on}
use Rattle.meaning.specs.Schedule.{lowest, is_pack, statement_ready, is_ready, lowest_unit, without, singles, with_unit, schedule_from, schedule}
use Rattle.theorems.specs.Units.{Every, Pairwise, occurs, Fits, Units}
use Rattle.theorems.proofs.Occurs.{occurs_own, occurs_cons, occurs_range, every_weaker, every_append, every_by, pairwise_append}
use Rattle.theorems.proofs.Units.{fits_filled, units_size}
use Rattle.theorems.proofs.Combination.{one_fits}
use Rattle.theorems.proofs.Waiting.{In, sums, occurs_flat, sums_append, every_in, sums_in, holder, Finds, finds, without_sums, every_without, singles_often, singles_every, weight, singles_weight, weight_twice}
use Rattle.theorems.proofs.Ready.{with_present, with_absent, all_occurs, ready_depends, ready_behind}

-- a test that passes counts 1
counts_as : {test outcome : Bool} → test ≡ outcome → pick {A = ℕ} test 1 0 ≡ pick outcome 1 0
counts_as e = ap {B = ℕ} (λ (test : Bool). pick test 1 0) e

-- all pairs of a list, from what occurs in it
pairwise_by : (R : ℕ → ℕ → Type 0) (xs : List ℕ) → ((s t : ℕ) → 0 < occurs s xs → 0 < occurs t xs → R s t) → Pairwise R xs
pairwise_by R [] h = tt
pairwise_by R (x ∷ xs) h =
    (every_by (R x) xs (λ t k. h x t (omega (arith, occurs_own x xs)) (omega arith)), pairwise_by R xs (λ s t k k'. h s t (omega arith) (omega arith)))

module _ (ss : List Statement) where
  -- s does not depend on t
  abbrev pub Free : ℕ → ℕ → Type 0
  Free s t = depends_on ss s t ≡ false

  -- the waiting units and the set of scheduled statements: each statement of the block is in one of the units, once, or in the set
  pub record Waits (waiting : List (List ℕ)) (set : ℕ) : Type 0 where
    pub fit : Every (Fits ss) waiting
    pub once : (t : ℕ) → t < length ss → sums (occurs t) waiting + pick (has set t) 1 0 ≡ 1

  -- what is made of them
  record Made (waiting out : List (List ℕ)) : Type 0 where
    fit : Every (Fits ss) out
    often : (t : ℕ) → sums (occurs t) out ≡ sums (occurs t) waiting
    ordered : Pairwise Free (flat out)

  sums_range : (units : List (List ℕ)) → Every (Fits ss) units → (t : ℕ) → length ss ≤ t → sums (occurs t) units ≡ 0
  sums_range [] fit t h = refl
  sums_range (u ∷ us) fit t h = omega (arith, occurs_range (length ss) u fit.0.in_range t h, sums_range us fit.1 t h)

  module _ (waiting : List (List ℕ)) (set : ℕ) (waits : Waits waiting set) where
    pub filled : Every (λ u. 0 < length u) waiting
    filled = every_weaker (fits_filled ss) waiting waits.fit

    pub in_block : (t : ℕ) → 0 < sums (occurs t) waiting → t < length ss
    in_block t h = either (below_or_not t (length ss))
      where
        either : (t < length ss) ⊎ (length ss ≤ t) → t < length ss
        either (inl k) = k
        either (inr k) = absurd (omega (arith, h, sums_range waiting waits.fit t k))

    pub at_most_once : (t : ℕ) → sums (occurs t) waiting ≤ 1
    at_most_once t = either (below_or_not t (length ss))
      where
        either : (t < length ss) ⊎ (length ss ≤ t) → sums (occurs t) waiting ≤ 1
        either (inl k) = omega (arith, waits.once t k)
        either (inr k) = omega (arith, sums_range waiting waits.fit t k)

    -- who waits is not scheduled, and who does not wait is
    not_yet : (t : ℕ) → 0 < sums (occurs t) waiting → has set t ≡ true → ⊥
    not_yet t h e = omega (arith, h, waits.once t (in_block t h), counts_as e)

    already : (t : ℕ) → t < length ss → sums (occurs t) waiting ≡ 0 → has set t ≡ true
    already t below absent = either (has set t) refl
      where
        either : (test : Bool) → has set t ≡ test → test ≡ true
        either true e = refl
        either false e = absurd (omega (arith, absent, waits.once t below, counts_as e))

    pub taken : (g : List ℕ → ℕ) (unit : List ℕ) → In unit waiting → sums g waiting ≡ g unit + sums g (without unit waiting)
    taken g unit there = without_sums g unit waiting there filled (at_most_once (lowest unit))

    -- a ready unit depends on nothing that waits
    ready_free : (unit : List ℕ) → is_ready ss set unit ≡ true → (s t : ℕ) → 0 < occurs s unit → 0 < sums (occurs t) waiting → Free s t
    ready_free unit ready s t member there = either (depends_on ss s t) refl
      where
        either : (test : Bool) → depends_on ss s t ≡ test → test ≡ false
        either true e = absurd (not_yet t there (ready_depends ss set s (all_occurs (statement_ready ss set) unit ready s member) t e))
        either false e = refl

    -- it is taken
    pub left_waiting : (unit : List ℕ) → In unit waiting → Waits (without unit waiting) (with_unit unit set)
    left_waiting unit there = record { fit = every_without (Fits ss) unit waiting waits.fit; once = λ t below. either t below (below_or_not 0 (occurs t unit)) }
      where
        either : (t : ℕ) → t < length ss → (0 < occurs t unit) ⊎ (occurs t unit ≤ 0)
            → sums (occurs t) (without unit waiting) + pick (has (with_unit unit set) t) 1 0 ≡ 1
        either t below (inl member) =
            omega (
              arith,
              member,
              waits.once t below,
              taken (occurs t) unit there,
              counts_as (with_present unit set t member),
            )
        either t below (inr absent) =
            let none_there : occurs t unit ≡ 0 = omega arith in
            omega (
              arith,
              none_there,
              waits.once t below,
              taken (occurs t) unit there,
              counts_as (with_absent unit set t none_there),
            )

    take_unit : (unit : List ℕ) → In unit waiting → is_ready ss set unit ≡ true → (rest : List (List ℕ)) → Made (without unit waiting) rest
        → Made waiting (unit ∷ rest)
    take_unit unit there ready rest made =
        record {
          fit = (every_in (Fits ss) waiting unit waits.fit there, made.fit);
          often = λ t. omega (arith, made.often t, taken (occurs t) unit there);
          ordered =
              pairwise_append Free unit (flat rest)
              (pairwise_by Free unit (λ s t member member'. ready_free unit ready s t member (omega (arith, member', sums_in (occurs t) waiting unit there))))
              made.ordered
              (every_by (λ s. Every (Free s) (flat rest)) unit λ s member.
              every_by (Free s) (flat rest) λ t behind.
              ready_free unit ready s t member (omega (arith, behind, occurs_flat t rest, made.often t, taken (occurs t) unit there)));
        }

    -- a pack is dissolved
    dissolved_often : (pack : List ℕ) → In pack waiting → (t : ℕ) → sums (occurs t) (singles pack ++ without pack waiting) ≡ sums (occurs t) waiting
    dissolved_often pack there t =
        omega (arith, sums_append (occurs t) (singles pack) (without pack waiting), singles_often t pack, taken (occurs t) pack there)

    pub dissolved_waits : (pack : List ℕ) → In pack waiting → Waits (singles pack ++ without pack waiting) set
    dissolved_waits pack there =
        record {
          fit =
              every_append (Fits ss) (singles pack) (without pack waiting)
              (singles_every (λ s. s < length ss) (Fits ss) (one_fits ss) pack (every_in (Fits ss) waiting pack waits.fit there).in_range)
              (every_without (Fits ss) pack waiting waits.fit);
          once = λ t below. omega (arith, waits.once t below, dissolved_often pack there t);
        }

    dissolved_made : (pack : List ℕ) → In pack waiting → (out : List (List ℕ)) → Made (singles pack ++ without pack waiting) out → Made waiting out
    dissolved_made pack there out made = record { fit = made.fit; often = λ t. made.often t ∙ dissolved_often pack there t; ordered = made.ordered }

    -- where no unit is ready and none is a pack, none waits: the lowest waiting statement would be ready
    none_waits : Every (λ u. is_ready ss set u ≡ false) waiting → Every (λ u. is_pack u ≡ false) waiting → (n t : ℕ) → t < n → sums (occurs t) waiting ≡ 0
    none_waits unready unpacked zero t h = absurd (omega arith)
    none_waits unready unpacked (suc n) t h = either (below_or_not 0 (sums (occurs t) waiting)) (λ t' h'. none_waits unready unpacked n t' h')
      where
        alone : (u : List ℕ) → is_pack u ≡ false → 0 < occurs t u → ((t' : ℕ) → t' < t → has set t' ≡ true) → is_ready ss set u ≡ true
        alone [] single member scheduled = absurd (omega arith)
        alone (x ∷ []) single member scheduled = either (occurs_cons t x [] member)
          where
            either : (t ≡ x) ⊎ (0 < occurs t []) → statement_ready ss set x && true ≡ true
            either (inl e) = and_both (statement_ready ss set x) true (subst (λ (y : ℕ). statement_ready ss set y ≡ true) e (ready_behind ss set t scheduled)) refl
            either (inr k) = absurd (omega arith)
        alone (x ∷ y ∷ rest) single member scheduled = absurd (omega (arith, ltb-false 1 (suc (suc (length rest))) single))

        either : (0 < sums (occurs t) waiting) ⊎ (sums (occurs t) waiting ≤ 0) → ((t' : ℕ) → t' < n → sums (occurs t') waiting ≡ 0)
            → sums (occurs t) waiting ≡ 0
        either (inl there) lower =
            let found = holder t waiting there in
            let ready = alone found.unit (every_in (λ u. is_pack u ≡ false) waiting found.unit unpacked found.waits) found.holds
            (λ t' below. already t' (omega (arith, in_block t there)) (lower t' (omega arith))) in
            absurd (false≢true (sym (every_in (λ u. is_ready ss set u ≡ false) waiting found.unit unready found.waits) ∙ ready))
        either (inr absent) lower = omega arith

    nothing_left_lem : Every (λ u. is_ready ss set u ≡ false) waiting → Every (λ u. is_pack u ≡ false) waiting → Made waiting []
    nothing_left_lem unready unpacked = record { fit = tt; often = λ t. sym (none_waits unready unpacked (suc t) t (omega arith)); ordered = tt }

    -- each step leaves less to do
    less_to_take : (n : ℕ) (unit : List ℕ) → In unit waiting → sums weight waiting ≤ suc n → sums weight (without unit waiting) ≤ n
    less_to_take n unit there enough = omega (arith, enough, taken weight unit there, every_in (λ u. 0 < length u) waiting unit filled there)

    less_to_dissolve : (n : ℕ) (pack : List ℕ) → In pack waiting → is_pack pack ≡ true → sums weight waiting ≤ suc n
        → sums weight (singles pack ++ without pack waiting) ≤ n
    less_to_dissolve n pack there is-pack enough =
        omega (
          arith,
          enough,
          taken weight pack there,
          sums_append weight (singles pack) (without pack waiting),
          singles_weight pack,
          counts_as is-pack,
        )

  -- with steps enough, all units come out
  abbrev Schedules : ℕ → Type 0
  Schedules n = (waiting : List (List ℕ)) (set : ℕ) → Waits waiting set → sums weight waiting ≤ n → Made waiting (schedule_from n ss waiting set)

  no_step : (waiting : List (List ℕ)) (set : ℕ) → Waits waiting set → sums weight waiting ≤ 0 → Made waiting (schedule_from zero ss waiting set)
  unfolding schedule_from
  no_step [] set waits enough = record { fit = tt; often = λ t. refl; ordered = tt }
  no_step (u ∷ us) set waits enough = absurd (omega (arith, enough, fits_filled ss u waits.fit.0))

  one_step : (n : ℕ) → Schedules n → (waiting : List (List ℕ)) (set : ℕ) → Waits waiting set → sums weight waiting ≤ suc n
      → Made waiting (schedule_from (suc n) ss waiting set)
  unfolding schedule_from
  one_step n later waiting set waits enough = take (lowest_unit (is_ready ss set) waiting) (finds (is_ready ss set) waiting)
    where
      dissolve : Every (λ u. is_ready ss set u ≡ false) waiting → (found : Option (List ℕ)) → Finds is_pack waiting found
          → Made waiting (elim found [ some pack ↦ schedule_from n ss (singles pack ++ without pack waiting) set | none ↦ [] ])
      dissolve unready none unpacked = nothing_left_lem waiting set waits unready unpacked
      dissolve unready (some pack) found =
          dissolved_made waiting set waits pack found.0 (schedule_from n ss (singles pack ++ without pack waiting) set)
          (later (singles pack ++ without pack waiting) set (dissolved_waits waiting set waits pack found.0)
          (less_to_dissolve waiting set waits n pack found.0 found.1 enough))

      take : (found : Option (List ℕ)) → Finds (is_ready ss set) waiting found
          → Made waiting
          (elim found [
            | some unit ↦ unit ∷ schedule_from n ss (without unit waiting) (with_unit unit set)
            | none ↦
                elim (lowest_unit is_pack waiting) [
                  | some pack ↦ schedule_from n ss (singles pack ++ without pack waiting) set
                  | none ↦ []
                ]
          ])
      take none unready = dissolve unready (lowest_unit is_pack waiting) (finds is_pack waiting)
      take (some unit) found =
          take_unit waiting set waits unit found.0 found.1 (schedule_from n ss (without unit waiting) (with_unit unit set))
          (later (without unit waiting) (with_unit unit set) (left_waiting waiting set waits unit found.0)
          (less_to_take waiting set waits n unit found.0 enough))

  scheduled : (n : ℕ) → Schedules n
  scheduled zero = no_step
  scheduled (suc n) = one_step n (scheduled n)

  -- at first all units wait and nothing is scheduled
  pub all_wait : (units : List (List ℕ)) → Units ss units → Waits units nobody
  all_wait units known =
      record {
        fit = known.fit;
        once = λ t below. omega (arith, known.once t below, occurs_flat t units, counts_as (has_nobody t));
      }

  -- twice as many steps as statements are enough
  schedule_made : (units : List (List ℕ)) → Units ss units → Made units (schedule ss units)
  unfolding schedule
  schedule_made units known =
      scheduled (length ss + length ss) units nobody (all_wait units known)
      (omega (arith, weight_twice units, units_size ss units known))

  -- The schedule of units that fit, with each statement of the block in one of them, is made of such units again.
  pub schedule_units : (units : List (List ℕ)) → Units ss units → Units ss (schedule ss units)
  schedule_units units known =
      let made = schedule_made units known in
      record {
        fit = made.fit;
        once = λ s below. occurs_flat s (schedule ss units) ∙ made.often s ∙ sym (occurs_flat s units) ∙ known.once s below;
      }

  -- Each unit comes when all that its statements depend on is in earlier units: no statement depends on one of its own unit or of a later one.
  pub schedule_ordered : (units : List (List ℕ)) → Units ss units → Pairwise Free (flat (schedule ss units))
  schedule_ordered units known = (schedule_made units known).ordered
