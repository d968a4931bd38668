-- The loop that searches a set from its lowest on: it ends where the set is empty, stops where the lowest passes, and goes on behind it.
use mathlib.Core.Path.{◌≡◌, refl, sym, ap, ◌∙◌}
use mathlib.Core.Bool.{Bool, true, false, ◌&&◌, not, and-true, and-false}
use Prim.Native.Nat.{ℕ, ◌^◌, ◌<◌}
use native.Mathlib.Omega.{arith}
use lib.Dec.{eqb}
use lib.Count.{count_trailing_zeros}
use borrow.Author.Tests.{eqb-true, ne_eqb}
use Rattle.basics.specs.Sets.{nobody, has}
use Rattle.basics.proofs.Tests.{and_both}
use Rattle.basics.proofs.Sets.{has_nobody}
use Rattle.rows.specs.Walk.{behind_first}
use Rattle.rows.proofs.Walks.{lowest_below, lowest_first, has_behind_first}
use Rattle.schedule.specs.Stages.{lowest_waiting}
use Rattle.schedule.proofs.Searches.{first_from, lowest_waiting_lem}

module _ (test : ℕ → Bool) where
  pub search_ends : lowest_waiting test 0 ≡ 64
  search_ends =
      lowest_waiting_lem test 0 64
      (record {
        bound = omega arith;
        from = omega arith;
        passes = λ h. absurd (omega arith);
        before = λ j low high. rw (has_nobody j);
      })

  module _ (rest : ℕ) (small : rest < 2 ^ 64) (some : rest ≡ nobody → ⊥) where
    pub search_stops : test (count_trailing_zeros 64 rest) ≡ true → lowest_waiting test rest ≡ count_trailing_zeros 64 rest
    search_stops e =
        let lowest = lowest_first rest small (ne_eqb rest nobody some) in
        let below = lowest_below rest small (ne_eqb rest nobody some) in
        lowest_waiting_lem test rest (count_trailing_zeros 64 rest)
        (record {
          bound = omega (arith, below);
          from = omega arith;
          passes = λ h. and_both (has rest (count_trailing_zeros 64 rest)) (test (count_trailing_zeros 64 rest)) lowest.within e;
          before = λ j low high. rw (lowest.first j high);
        })

    pub search_goes_on : test (count_trailing_zeros 64 rest) ≡ false → lowest_waiting test rest ≡ lowest_waiting test (behind_first rest)
    search_goes_on e =
        let known = first_from (λ i. has (behind_first rest) i && test i) 64 0 (omega arith) in
        lowest_waiting_lem test rest (lowest_waiting test (behind_first rest))
        (record {
          bound = known.bound;
          from = known.from;
          passes = λ h. sym (behind (lowest_waiting test (behind_first rest))) ∙ known.passes h;
          before = λ j low high. sym (behind j) ∙ known.before j low high;
        })
      where
        behind : (j : ℕ) → has (behind_first rest) j && test j ≡ has rest j && test j
        behind j = ap (λ (a : Bool). a && test j) (has_behind_first rest j small) ∙ by (eqb (count_trailing_zeros 64 rest) j) refl
          where
            by : (same : Bool) → eqb (count_trailing_zeros 64 rest) j ≡ same → (has rest j && not same) && test j ≡ has rest j && test j
            by true f = rw (sym (ap test (eqb-true (count_trailing_zeros 64 rest) j f)) ∙ e) (ap (λ (a : Bool). a && false) (and-false (has rest j)) ∙ sym (and-false (has rest j)))
            by false f = ap (λ (a : Bool). a && test j) (and-true (has rest j))
