-- One unit is taken: it waits no longer, its statements are scheduled, and its word stands behind the others.
use mathlib.Core.Path.{◌≡◌, refl, sym, ap, ◌∙◌}
use mathlib.Core.Logic.{inl, inr}
use mathlib.Core.Bool.{Bool, true, false, ◌&&◌, ◌||◌, not, false≢true, and-true, and-false}
use mathlib.Core.List.{List, [], ◌∷◌, ◌++◌}
use Prim.Native.Nat.{ℕ, ◌+◌, ◌<◌}
use native.Mathlib.Omega.{arith}
use lib.Dec.{eqb}
use lib.Bits.{bit_xor}
use lib.ListN.{length, get_or, set, length-append, get_or-append}
use lib.Seq.{get_or_at, get_or-set_same, get_or-set_other}
use borrow.Author.Tests.{eqb-true, eqb-false}
use Rattle.basics.specs.Choice.{pick}
use Rattle.basics.specs.Lists.{any, keep}
use Rattle.basics.specs.Sets.{only, has}
use Rattle.basics.proofs.Counting.{one_further}
use Rattle.basics.proofs.Sets.{has_only, has_differ}
use Rattle.meaning.specs.Schedule.{lowest, without}
use Rattle.theorems.proofs.Waiting.{In}
use Rattle.units.specs.Words.{unit_word, InOrder}
use Rattle.units.specs.Waiting.{Waits}
use Rattle.schedule.specs.Stages.{without_one}

-- the set without one
pub has_without : (set i s : ℕ) → has (without_one set i) s ≡ has set s && not (eqb i s)
has_without set i s = by (has set i) refl (has set s) refl (eqb i s) refl
  where
    here : (own other : Bool) → has set i ≡ own → has set s ≡ other → eqb i s ≡ true → own ≡ other
    here own other e f g = sym e ∙ ap (has set) (eqb-true i s g) ∙ f

    by : (own : Bool) → has set i ≡ own → (other : Bool) → has set s ≡ other → (same : Bool) → eqb i s ≡ same
        → has (pick own (bit_xor set (only i)) set) s ≡ other && not same
    by false e other f true g = f ∙ sym (here false other e f g) ∙ sym (and-false other)
    by false e other f false g = f ∙ sym (and-true other)
    by true e true f same g = has_differ set (only i) s ∙ rw (f, has_only i s, g)
    by true e false f true g = absurd (false≢true (sym (here true false e f g)))
    by true e false f false g = has_differ set (only i) s ∙ rw (f, has_only i s, g)

-- the units without one
abbrev numbered_by : ℕ → List (List ℕ) → Bool
numbered_by s units = any (λ unit. eqb (lowest unit) s) units

pub numbers_without : (k s : ℕ) (units : List (List ℕ))
    → numbered_by s (keep (λ other. not (eqb (lowest other) k)) units) ≡ numbered_by s units && not (eqb k s)
numbers_without k s [] = refl
numbers_without k s (u ∷ us) = by (eqb (lowest u) k) refl (eqb (lowest u) s) refl (eqb k s) refl (numbers_without k s us)
  where
    by : (dropped : Bool) → eqb (lowest u) k ≡ dropped → (own : Bool) → eqb (lowest u) s ≡ own → (same : Bool) → eqb k s ≡ same
        → numbered_by s (keep (λ other. not (eqb (lowest other) k)) us) ≡ numbered_by s us && not (eqb k s)
        → numbered_by s (elim (not dropped) [ true ↦ u ∷ keep (λ other. not (eqb (lowest other) k)) us | false ↦ keep (λ other. not (eqb (lowest other) k)) us ])
        ≡ (own || numbered_by s us) && not same
    by true d true o true e later = later ∙ rw e (and-false (numbered_by s us))
    by true d true o false e later = absurd (eqb-false k s e (sym (eqb-true (lowest u) k d) ∙ eqb-true (lowest u) s o))
    by true d false o same e later = later ∙ rw e
    by false d true o true e later = absurd (eqb-false (lowest u) k d (eqb-true (lowest u) s o ∙ sym (eqb-true k s e)))
    by false d true o false e later = rw o
    by false d false o same e later = rw o (later ∙ rw e)

-- who is left was there
pub in_keep : (test : List ℕ → Bool) (units : List (List ℕ)) (unit : List ℕ) → In unit (keep test units) → In unit units
in_keep test [] unit there = absurd there
in_keep test (u ∷ us) unit there = by (test u) (λ k. in_keep test us unit k) there
  where
    by : (t : Bool) → (In unit (keep test us) → In unit us) → In unit (elim t [ true ↦ u ∷ keep test us | false ↦ keep test us ]) → In unit (u ∷ us)
    by true later (inl e) = inl e
    by true later (inr k) = inr (later k)
    by false later k = inr (later k)

-- the tables of what waits, without the unit
pub left_in_tables : (direct : List ℕ) (units : List (List ℕ)) (table needs : List ℕ) (waiting : ℕ) (unit : List ℕ)
    → Waits direct units table needs waiting → Waits direct (without unit units) table needs (without_one waiting (lowest unit))
left_in_tables direct units table needs waiting unit waits =
    record {
      word = λ other there. waits.word other (in_keep (λ o. not (eqb (lowest o) (lowest unit))) units other there);
      need = λ other there. waits.need other (in_keep (λ o. not (eqb (lowest o) (lowest unit))) units other there);
      numbers =
          λ s. has_without waiting (lowest unit) s
          ∙ ap (λ (a : Bool). a && not (eqb (lowest unit) s)) (waits.numbers s)
          ∙ sym (numbers_without (lowest unit) s units);
    }

-- one word more behind the others
pub in_order_more : (units : List (List ℕ)) (order : List ℕ) (size : ℕ) (unit : List ℕ) → InOrder units order size → size < length order
    → InOrder (units ++ unit ∷ []) (set order size (unit_word unit)) (size + 1)
in_order_more units order size unit known room =
    record {
      sized = length-append units (unit ∷ []) ∙ ap (λ (n : ℕ). n + 1) known.sized;
      words =
          one_further (λ i. get_or (set order size (unit_word unit)) i 0 ≡ unit_word (get_or (units ++ unit ∷ []) i [])) size
          (λ i low.
          get_or-set_other order size i (unit_word unit) 0 (omega arith)
          ∙ known.words i low
          ∙ ap unit_word (sym (get_or-append units (unit ∷ []) [] i (omega (arith, known.sized)))))
          (get_or-set_same order size (unit_word unit) 0 room ∙ ap unit_word (sym (get_or_at units unit [] [] size known.sized)));
    }
