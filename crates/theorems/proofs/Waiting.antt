-- "Schedule": the waiting units. The unit that is found is one of them; to take it from them takes its statements from them and no others;
-- and a pack that is dissolved has its statements in its singles.
use mathlib.Core.Path.{◌≡◌, refl, sym, ap, subst, ◌∙◌}
use mathlib.Core.Logic.{◌⊎◌, inl, inr}
use mathlib.Core.Bool.{Bool, true, false, not}
use mathlib.Core.Option.{Option, none, some}
use mathlib.Core.List.{List, [], ◌∷◌, ◌++◌}
use Prim.Native.Nat.{ℕ, ◌+◌, ◌≤◌, ◌<◌, min}
use native.Mathlib.Omega.{arith}
use lib.Dec.{eqb, ltb}
use lib.ListN.{length, length-append}
use borrow.Author.Tests.{ltb-true, eq-eqb, ne_eqb}
use Rattle.basics.specs.Choice.{pick}
use Rattle.basics.specs.Lists.{flat, keep}
use Rattle.basics.proofs.Tests.{below_or_not}
use Rattle.basics.proofs.Parts.{pick_holds}
use Rattle.meaning.specs.Schedule.{lowest, is_pack, lower, lowest_unit, without, singles}
use Rattle.theorems.specs.Units.{Every, occurs}
use Rattle.theorems.proofs.Occurs.{occurs_own, occurs_behind, occurs_append}

-- one of the units
abbrev pub In : List ℕ → List (List ℕ) → Type 0
In unit [] = ⊥
In unit (u ∷ us) = (unit ≡ u) ⊎ In unit us

-- what a number for each unit adds up to
abbrev pub sums : (List ℕ → ℕ) → List (List ℕ) → ℕ
sums g [] = 0
sums g (u ∷ us) = g u + sums g us

pub occurs_flat : (t : ℕ) (units : List (List ℕ)) → occurs t (flat units) ≡ sums (occurs t) units
occurs_flat t [] = refl
occurs_flat t (u ∷ us) = occurs_append t u (flat us) ∙ ap (λ (n : ℕ). occurs t u + n) (occurs_flat t us)

pub sums_append : (g : List ℕ → ℕ) (xs ys : List (List ℕ)) → sums g (xs ++ ys) ≡ sums g xs + sums g ys
sums_append g [] ys = omega arith
sums_append g (x ∷ xs) ys = omega (arith, sums_append g xs ys)

pub every_in : (P : List ℕ → Type 0) (units : List (List ℕ)) (unit : List ℕ) → Every P units → In unit units → P unit
every_in P [] unit every there = absurd there
every_in P (u ∷ us) unit every (inl e) = subst P (sym e) every.0
every_in P (u ∷ us) unit every (inr later) = every_in P us unit every.1 later

pub sums_in : (g : List ℕ → ℕ) (units : List (List ℕ)) (unit : List ℕ) → In unit units → g unit ≤ sums g units
sums_in g [] unit there = absurd there
sums_in g (u ∷ us) unit (inl e) = omega (arith, ap g e)
sums_in g (u ∷ us) unit (inr later) = omega (arith, sums_in g us unit later)

-- where something occurs in the units, it does in one of them
pub record Holder (t : ℕ) (units : List (List ℕ)) : Type 0 where
  pub unit : List ℕ
  pub waits : In unit units
  pub holds : 0 < occurs t unit

pub holder : (t : ℕ) (units : List (List ℕ)) → 0 < sums (occurs t) units → Holder t units
holder t [] h = absurd (omega arith)
holder t (u ∷ us) h = either (below_or_not 0 (occurs t u)) λ k. holder t us k
  where
    either : (0 < occurs t u) ⊎ (occurs t u ≤ 0) → (0 < sums (occurs t) us → Holder t us) → Holder t (u ∷ us)
    either (inl here) later = record { unit = u; waits = inl refl; holds = here }
    either (inr not_here) later =
        let found = later (omega arith) in
        record { unit = found.unit; waits = inr found.waits; holds = found.holds }

-- "A unit goes by its lowest statement number", which is one of its own
pub lowest_in : (unit : List ℕ) → 0 < length unit → 0 < occurs (lowest unit) unit
lowest_in [] h = absurd (omega arith)
lowest_in (s ∷ []) h = omega (arith, occurs_own s [])
lowest_in (s ∷ t ∷ rest) h = either (below_or_not s (lowest (t ∷ rest))) (lowest_in (t ∷ rest) (omega arith))
  where
    either : (s < lowest (t ∷ rest)) ⊎ (lowest (t ∷ rest) ≤ s) → 0 < occurs (lowest (t ∷ rest)) (t ∷ rest)
        → 0 < occurs (min s (lowest (t ∷ rest))) (s ∷ t ∷ rest)
    either (inl below) later =
        let e : s ≡ min s (lowest (t ∷ rest)) = omega arith in
        subst (λ (k : ℕ). 0 < occurs k (s ∷ t ∷ rest)) e (omega (arith, occurs_own s (t ∷ rest)))
    either (inr above) later =
        let e : lowest (t ∷ rest) ≡ min s (lowest (t ∷ rest)) = omega arith in
        subst (λ (k : ℕ). 0 < occurs k (s ∷ t ∷ rest)) e (omega (arith, occurs_behind (lowest (t ∷ rest)) s (t ∷ rest), later))

-- what a search for a unit finds: one that passes the test, or that none does
abbrev pub Finds : (List ℕ → Bool) → List (List ℕ) → Option (List ℕ) → Type 0
Finds test units none = Every (λ u. test u ≡ false) units
Finds test units (some unit) = In unit units × (test unit ≡ true)

pub finds : (test : List ℕ → Bool) (units : List (List ℕ)) → Finds test units (lowest_unit test units)
finds test [] = tt
finds test (u ∷ us) = either (test u) refl (lowest_unit test us) (finds test us)
  where
    lower_finds : test u ≡ true → (found : Option (List ℕ)) → Finds test us found → Finds test (u ∷ us) (lower u found)
    lower_finds e none h = (inl refl, e)
    lower_finds e (some other) h =
        pick_holds (Finds test (u ∷ us)) (ltb (lowest other) (lowest u)) (some other) (some u) (λ f. (inr h.0, h.1)) (λ f. (inl refl, e))

    either : (passes : Bool) → test u ≡ passes → (found : Option (List ℕ)) → Finds test us found
        → Finds test (u ∷ us) (elim passes [ true ↦ lower u found | false ↦ found ])
    either true e found h = lower_finds e found h
    either false e none h = (e, h)
    either false e (some other) h = (inr h.0, h.1)

-- the units without those that begin at k
abbrev kept : Bool → List ℕ → List (List ℕ) → List (List ℕ)
kept test u rest = elim test [ true ↦ u ∷ rest | false ↦ rest ]

none_dropped : (k : ℕ) (units : List (List ℕ)) → Every (λ u. 0 < length u) units → sums (occurs k) units ≡ 0
    → keep (λ other. not (eqb (lowest other) k)) units ≡ units
none_dropped k [] filled absent = refl
none_dropped k (u ∷ us) filled absent =
    ap (λ (test : Bool). kept (not test) u (keep (λ other. not (eqb (lowest other) k)) us)) (ne_eqb (lowest u) k differ)
    ∙ ap {B = List (List ℕ)} (λ rest. u ∷ rest) (none_dropped k us filled.1 (omega arith))
  where
    differ : lowest u ≡ k → ⊥
    differ e = omega (arith, absent, lowest_in u filled.0, ap (λ (x : ℕ). occurs x u) e)

-- without a unit of its own statements they are the others: whatever is added up over all is added up over it and the others
pub without_sums : (g : List ℕ → ℕ) (unit : List ℕ) (units : List (List ℕ)) → In unit units → Every (λ u. 0 < length u) units
    → sums (occurs (lowest unit)) units ≤ 1 → sums g units ≡ g unit + sums g (without unit units)
without_sums g unit [] there filled once = absurd there
without_sums g unit (u ∷ us) (inl e) filled once = omega (arith, ap g e, ap (sums g) others)
  where
    absent : sums (occurs (lowest unit)) us ≡ 0
    absent = omega (arith, once, lowest_in u filled.0, ap (λ (x : List ℕ). occurs (lowest x) u) e)

    others : without unit (u ∷ us) ≡ us
    others =
        ap (λ (test : Bool). kept (not test) u (without unit us)) (eq-eqb (lowest u) (lowest unit) (ap lowest (sym e)))
        ∙ none_dropped (lowest unit) us filled.1 absent
without_sums g unit (u ∷ us) (inr later) filled once =
    omega (arith, without_sums g unit us later filled.1 (omega arith), ap (sums g) others)
  where
    differ : lowest u ≡ lowest unit → ⊥
    differ e =
        omega (
          arith,
          once,
          lowest_in u filled.0,
          ap (λ (x : ℕ). occurs x u) e,
          lowest_in unit (every_in (λ x. 0 < length x) us unit filled.1 later),
          sums_in (occurs (lowest unit)) us unit later,
        )

    others : without unit (u ∷ us) ≡ u ∷ without unit us
    others = ap (λ (test : Bool). kept (not test) u (without unit us)) (ne_eqb (lowest u) (lowest unit) differ)

every_keep : (P : List ℕ → Type 0) (test : List ℕ → Bool) (units : List (List ℕ)) → Every P units → Every P (keep test units)
every_keep P test [] every = tt
every_keep P test (u ∷ us) every = either (test u) (every_keep P test us every.1)
  where
    either : (passes : Bool) → Every P (keep test us) → Every P (kept passes u (keep test us))
    either true later = (every.0, later)
    either false later = later

pub every_without : (P : List ℕ → Type 0) (unit : List ℕ) (units : List (List ℕ)) → Every P units → Every P (without unit units)
every_without P unit units every = every_keep P (λ other. not (eqb (lowest other) (lowest unit))) units every

-- a pack's singles
pub singles_often : (t : ℕ) (pack : List ℕ) → sums (occurs t) (singles pack) ≡ occurs t pack
singles_often t [] = refl
singles_often t (s ∷ rest) = omega (arith, singles_often t rest)

pub singles_every : (Q : ℕ → Type 0) (P : List ℕ → Type 0) → ((s : ℕ) → Q s → P (s ∷ [])) → (pack : List ℕ) → Every Q pack → Every P (singles pack)
singles_every Q P h [] every = tt
singles_every Q P h (s ∷ rest) every = (h s every.0, singles_every Q P h rest every.1)

-- how many steps a unit may take: one to take each statement, and one to dissolve a pack
abbrev pub weight : List ℕ → ℕ
weight unit = length unit + pick (is_pack unit) 1 0

pub singles_weight : (pack : List ℕ) → sums weight (singles pack) ≡ length pack
singles_weight [] = refl
singles_weight (s ∷ rest) = omega (arith, singles_weight rest)

-- a pack has two statements at least, so twice as many steps as statements are enough
pub weight_twice : (units : List (List ℕ)) → sums weight units ≤ length (flat units) + length (flat units)
weight_twice [] = omega arith
weight_twice (u ∷ us) = either (ltb 1 (length u)) refl (weight_twice us)
  where
    either : (test : Bool) → ltb 1 (length u) ≡ test → sums weight us ≤ length (flat us) + length (flat us)
        → length u + pick test 1 0 + sums weight us ≤ length (u ++ flat us) + length (u ++ flat us)
    either true e later = omega (arith, ltb-true 1 (length u) e, length-append u (flat us))
    either false e later = omega (arith, length-append u (flat us))
