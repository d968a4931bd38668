-- The search of the lowest waiting number that passes a test: what it finds, and that the lowest unit of the list is at that number.
use mathlib.Core.Path.{◌≡◌, refl, sym, ap, ◌∙◌}
use mathlib.Core.Logic.{◌⊎◌, inl, inr}
use mathlib.Core.Bool.{Bool, true, false, ◌&&◌, false≢true}
use mathlib.Core.Option.{Option, none, some}
use mathlib.Core.List.{List, [], ◌∷◌}
use Prim.Native.Nat.{ℕ, zero, suc, ◌+◌, ◌≤◌, ◌<◌}
use native.Mathlib.Omega.{arith}
use lib.Dec.{eqb, ltb}
use borrow.Author.Tests.{ltb-true, ltb-false, eqb-true, eq-eqb}
use Rattle.basics.specs.Lists.{any}
use Rattle.basics.specs.Sets.{has}
use Rattle.basics.proofs.Tests.{and_left, and_right, and_both, or_either, or_left, or_right, below_or_not}
use Rattle.basics.proofs.Parts.{pick_holds}
use Rattle.meaning.specs.Schedule.{lowest, lower, lowest_unit}
use Rattle.theorems.proofs.Waiting.{In, every_in, Finds, finds}
use Rattle.schedule.specs.Stages.{first_of, lowest_waiting}

-- r is the first number from i on that passes the test, 64 where none below 64 does
pub record FirstFrom (test : ℕ → Bool) (i r : ℕ) : Type 0 where
  pub bound : r ≤ 64
  pub from : i ≤ r
  pub passes : r < 64 → test r ≡ true
  pub before : (j : ℕ) → i ≤ j → j < r → test j ≡ false

pub first_from : (test : ℕ → Bool) (k i : ℕ) → i + k ≡ 64 → FirstFrom test i (first_of test k i)
unfolding first_of
first_from test zero i e =
    record {
      bound = omega arith;
      from = omega arith;
      passes = λ h. absurd (omega arith);
      before = λ j low high. absurd (omega arith);
    }
first_from test (suc k) i e = by (test i) refl (first_from test k (i + 1) (omega arith))
  where
    by : (t : Bool) → test i ≡ t → FirstFrom test (i + 1) (first_of test k (i + 1))
        → FirstFrom test i (elim t [ true ↦ i | false ↦ first_of test k (i + 1) ])
    by true f rest =
        record { bound = omega arith; from = omega arith; passes = λ h. f; before = λ j low high. absurd (omega arith) }
    by false f rest =
        record {
          bound = rest.bound;
          from = omega (arith, rest.from);
          passes = rest.passes;
          before = λ j low high. earlier j (below_or_not i j) low high;
        }
      where
        earlier : (j : ℕ) → (i < j) ⊎ (j ≤ i) → i ≤ j → j < first_of test k (i + 1) → test j ≡ false
        earlier j (inl above) low high = rest.before j (omega arith) high
        earlier j (inr same) low high =
            let this : j ≡ i = omega arith in
            ap test this ∙ f

-- there is only one such number
pub same_first : (test : ℕ → Bool) (r q : ℕ) → FirstFrom test 0 r → FirstFrom test 0 q → r ≡ q
same_first test r q a b = either (below_or_not r q) (below_or_not q r)
  where
    either : (r < q) ⊎ (q ≤ r) → (q < r) ⊎ (r ≤ q) → r ≡ q
    either (inl low) other = absurd (false≢true (sym (b.before r (omega arith) low) ∙ a.passes (omega (arith, b.bound))))
    either (inr high) (inl low) = absurd (false≢true (sym (a.before q (omega arith) low) ∙ b.passes (omega (arith, a.bound))))
    either (inr high) (inr low) = omega arith

pub lowest_waiting_lem : (test : ℕ → Bool) (waiting r : ℕ) → FirstFrom (λ i. has waiting i && test i) 0 r → lowest_waiting test waiting ≡ r
lowest_waiting_lem test waiting r found =
    same_first (λ i. has waiting i && test i) (lowest_waiting test waiting) r (first_from (λ i. has waiting i && test i) 64 0 (omega arith)) found

-- the unit that is found has the lowest number of those that pass
abbrev Least : (List ℕ → Bool) → List (List ℕ) → Option (List ℕ) → Type 0
Least test units none = Unit {0}
Least test units (some unit) = (other : List ℕ) → In other units → test other ≡ true → lowest unit ≤ lowest other

least : (test : List ℕ → Bool) (units : List (List ℕ)) → Least test units (lowest_unit test units)
least test [] = tt
least test (u ∷ us) = either (test u) refl (lowest_unit test us) (finds test us) (least test us)
  where
    own : (found : Option (List ℕ)) → Finds test us found → Least test us found → Least test (u ∷ us) (lower u found)
    own none unfit h = only_one
      where
        only_one : (other : List ℕ) → In other (u ∷ us) → test other ≡ true → lowest u ≤ lowest other
        only_one other (inl e) passes = omega (arith, ap lowest e)
        only_one other (inr later) passes = absurd (false≢true (sym (every_in (λ x. test x ≡ false) us other unfit later) ∙ passes))
    own (some unit) found h =
        pick_holds (Least test (u ∷ us)) (ltb (lowest unit) (lowest u)) (some unit) (some u)
        (λ f other there passes. below (ltb-true (lowest unit) (lowest u) f) other there passes)
        (λ f other there passes. above (ltb-false (lowest unit) (lowest u) f) other there passes)
      where
        below : lowest unit < lowest u → (other : List ℕ) → In other (u ∷ us) → test other ≡ true → lowest unit ≤ lowest other
        below f other (inl e) passes = omega (arith, ap lowest e)
        below f other (inr later) passes = h other later passes

        above : lowest u ≤ lowest unit → (other : List ℕ) → In other (u ∷ us) → test other ≡ true → lowest u ≤ lowest other
        above f other (inl e) passes = omega (arith, ap lowest e)
        above f other (inr later) passes = omega (arith, h other later passes)

    passed : test u ≡ false → (found : Option (List ℕ)) → Least test us found → Least test (u ∷ us) found
    passed e none h = tt
    passed e (some unit) h = behind
      where
        behind : (other : List ℕ) → In other (u ∷ us) → test other ≡ true → lowest unit ≤ lowest other
        behind other (inl f) passes = absurd (false≢true (sym e ∙ ap test (sym f) ∙ passes))
        behind other (inr later) passes = h other later passes

    either : (t : Bool) → test u ≡ t → (found : Option (List ℕ)) → Finds test us found → Least test us found
        → Least test (u ∷ us) (elim t [ true ↦ lower u found | false ↦ found ])
    either true e found f h = own found f h
    either false e found f h = passed e found h

-- the unit of a number
pub record Numbered (units : List (List ℕ)) (s : ℕ) : Type 0 where
  pub unit : List ℕ
  pub waits : In unit units
  pub number : lowest unit ≡ s

pub numbered : (units : List (List ℕ)) (s : ℕ) → any (λ unit. eqb (lowest unit) s) units ≡ true → Numbered units s
numbered [] s e = absurd (false≢true e)
numbered (u ∷ us) s e = either (or_either (eqb (lowest u) s) (any (λ unit. eqb (lowest unit) s) us) e) (λ f. numbered us s f)
  where
    either : (eqb (lowest u) s ≡ true) ⊎ (any (λ unit. eqb (lowest unit) s) us ≡ true)
        → (any (λ unit. eqb (lowest unit) s) us ≡ true → Numbered us s) → Numbered (u ∷ us) s
    either (inl f) later = record { unit = u; waits = inl refl; number = eqb-true (lowest u) s f }
    either (inr f) later =
        let found = later f in
        record { unit = found.unit; waits = inr found.waits; number = found.number }

pub has_number : (units : List (List ℕ)) (unit : List ℕ) → In unit units → any (λ other. eqb (lowest other) (lowest unit)) units ≡ true
has_number [] unit there = absurd there
has_number (u ∷ us) unit (inl e) = or_left _ _ (eq-eqb (lowest u) (lowest unit) (ap lowest (sym e)))
has_number (u ∷ us) unit (inr later) = or_right (eqb (lowest u) (lowest unit)) _ (has_number us unit later)

abbrev pub number_of_unit : Option (List ℕ) → ℕ
number_of_unit none = 64
number_of_unit (some unit) = lowest unit

-- Where a test of numbers is a test of the units at these numbers, the lowest waiting number that passes is that of the lowest unit.
module _ (test : List ℕ → Bool) (slot : ℕ → Bool) (units : List (List ℕ)) (waiting : ℕ) where
  pub lowest_unit_lem :
      ((s : ℕ) → has waiting s ≡ any (λ unit. eqb (lowest unit) s) units)
      → ((unit : List ℕ) → In unit units → slot (lowest unit) ≡ test unit)
      → ((unit : List ℕ) → In unit units → lowest unit < 64)
      → lowest_waiting slot waiting ≡ number_of_unit (lowest_unit test units)
  lowest_unit_lem numbers same range =
      lowest_waiting_lem slot waiting (number_of_unit (lowest_unit test units)) (is_first (lowest_unit test units) (finds test units) (least test units))
    where
      -- who passes is at a unit that does
      passing : (i : ℕ) → has waiting i && slot i ≡ true → (unit : List ℕ) × (In unit units) × (lowest unit ≡ i) × (test unit ≡ true)
      passing i e =
          let found = numbered units i (sym (numbers i) ∙ and_left (has waiting i) (slot i) e) in (
            found.unit,
            found.waits,
            found.number,
            sym (same found.unit found.waits) ∙ ap slot found.number ∙ and_right (has waiting i) (slot i) e,
          )

      fails : (i : ℕ) → (has waiting i && slot i ≡ true → ⊥) → has waiting i && slot i ≡ false
      fails i never = either (has waiting i && slot i) refl
        where
          either : (t : Bool) → has waiting i && slot i ≡ t → t ≡ false
          either true e = absurd (never e)
          either false e = refl

      is_first : (found : Option (List ℕ)) → Finds test units found → Least test units found
          → FirstFrom (λ i. has waiting i && slot i) 0 (number_of_unit found)
      is_first none unfit h =
          record {
            bound = omega arith;
            from = omega arith;
            passes = λ f. absurd (omega arith);
            before = λ j low high. fails j (λ e. none_passes (passing j e));
          }
        where
          none_passes : {i : ℕ} → (unit : List ℕ) × (In unit units) × (lowest unit ≡ i) × (test unit ≡ true) → ⊥
          none_passes p = false≢true (sym (every_in (λ x. test x ≡ false) units p.0 unfit p.1) ∙ p.3)
      is_first (some unit) found h =
          record {
            bound = omega (arith, range unit found.0);
            from = omega arith;
            passes =
                λ f. and_both (has waiting (lowest unit)) (slot (lowest unit)) (numbers (lowest unit) ∙ has_number units unit found.0)
                (same unit found.0 ∙ found.1);
            before = λ j low high. fails j (λ e. lower_passes j high (passing j e));
          }
        where
          lower_passes : (j : ℕ) → j < lowest unit → (other : List ℕ) × (In other units) × (lowest other ≡ j) × (test other ≡ true) → ⊥
          lower_passes j high p = omega (arith, high, h p.0 p.1 p.3, p.2)
