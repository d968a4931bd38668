-- The loops over the tables of pairs and rows add the units of "Combination": of each chain its units from the left end, chain after chain.
use mathlib.Core.Path.{◌≡◌, refl, sym, ap, subst, ◌∙◌}
use mathlib.Core.Bool.{Bool, true, false, ◌&&◌}
use mathlib.Core.Option.{none, some}
use mathlib.Core.List.{List, [], ◌∷◌, ◌++◌, append-nil}
use Prim.Native.Nat.{ℕ, zero, suc, ◌≤◌, ◌<◌}
use native.Mathlib.Omega.{arith}
use lib.ListN.{length, get_or}
use Rattle.basics.specs.Choice.{pick}
use Rattle.basics.proofs.Counting.{count_both}
use Rattle.basics.proofs.Finding.{each_append}
use Rattle.meaning.specs.declared.Statement.{Statement}
use Rattle.meaning.specs.Dependence.{independent}
use Rattle.meaning.specs.Pairs.{Pair, is_right, partner, chain}
use Rattle.meaning.specs.Combination.{pairwise, cut, combine}
use Rattle.theorems.specs.Units.{Every, occurs}
use Rattle.theorems.proofs.Occurs.{every_weaker}
use Rattle.theorems.proofs.Orders.{few_numbers}
use Rattle.theorems.proofs.Totals.{total_term}
use Rattle.theorems.proofs.Chains.{Chain, ends, goes, chain_long}
use Rattle.theorems.proofs.Pairs.{Admitted, in_chain, chain_range}
use Rattle.reach.specs.Tied.{number_of, Rowed}
use Rattle.reach.proofs.Reaching.{no_path_lem}
use Rattle.pairs.specs.Tied.{Paired}
use Rattle.pairs.proofs.Tables.{no_partner, lefts_below}
use Rattle.units.specs.Lanes.{lanes_of}
use Rattle.combine.specs.Cutting.{Tables, wait_in, four_apart, next_unit, last_lane, cut_along, cut_from, combined}
use Rattle.combine.proofs.Turns.{one_next, two_next, four_next, cut_ended, cut_more}
use Rattle.combine.proofs.Waiting.{adds}

-- six tests, in the order of the loop and in that of "pairwise"
six : (ab ac ad bc bd cd : Bool)
    → ab && (ac && (ad && (bc && (bd && cd)))) ≡ (ab && (ac && (ad && true))) && ((bc && (bd && true)) && ((cd && true) && (true && true)))
six true true true true true true = refl
six true true true true true false = refl
six true true true true false cd = refl
six true true true false bd cd = refl
six true true false bc bd cd = refl
six true false ad bc bd cd = refl
six false ac ad bc bd cd = refl

module _ (ss : List Statement) (direct reached : List ℕ) (rowed : Rowed ss direct reached) where
  -- "pairwise independent"
  four_apart_lem : (a b c d : ℕ) → a < length ss → b < length ss → c < length ss → d < length ss
      → four_apart reached a b c d ≡ pairwise ss (a ∷ b ∷ c ∷ d ∷ [])
  four_apart_lem a b c d ha hb hc hd =
      let apart = no_path_lem ss direct reached rowed in
      rw (apart a b ha hb, apart a c ha hc, apart a d ha hd, apart b c hb hc, apart b d hb hd, apart c d hc hd)
      (six (independent ss a b) (independent ss a c) (independent ss a d) (independent ss b c) (independent ss b d) (independent ss c d))

module _ (ss : List Statement) (pairs : List Pair) (direct reached next : List ℕ) (rights : ℕ) (small : length ss ≤ 64) (known : Admitted ss pairs)
    (paired : Paired pairs next rights) (rowed : Rowed ss direct reached) where
  -- the one that follows, and none
  follows : (s t : ℕ) → partner pairs s ≡ some t → get_or next s 64 ≡ t
  follows s t e = paired.partners s ∙ ap number_of e

  ended : (s : ℕ) → partner pairs s ≡ none → get_or next s 64 ≡ 64
  ended s e = paired.partners s ∙ ap number_of e

  none_past : get_or next 64 64 ≡ 64
  none_past = ended 64 (no_partner 64 pairs (every_weaker (λ p below e. omega arith) pairs (lefts_below ss pairs known)))

  -- what is left of a chain: nothing, or a chain
  data Onward : ℕ → List ℕ → Type 0 where
    stops : Onward 64 []
    on : {s : ℕ} {c : List ℕ} → Chain pairs s c → Onward s c

  -- the first unit of a chain, and what is left of the chain behind it
  record First (at : ℕ) (c : List ℕ) : Type 0 where
    unit : List ℕ
    rest : List ℕ
    found : next_unit reached next at ≡ unit
    onward : Onward (get_or next (last_lane (lanes_of unit)) 64) rest
    cuts : cut ss c ≡ unit ∷ cut ss rest
    shorter : length rest < length c
    range : Every (λ s. s < length ss) rest

  -- at least four remain
  at_least_four : (a b c d : ℕ) (rest : List ℕ) → get_or next a 64 ≡ b → get_or next b 64 ≡ c → get_or next c 64 ≡ d
      → Onward (get_or next d 64) rest → Chain pairs c (c ∷ d ∷ rest) → Every (λ s. s < length ss) (a ∷ b ∷ c ∷ d ∷ rest) → First a (a ∷ b ∷ c ∷ d ∷ rest)
  unfolding cut
  at_least_four a b c d rest ab bc cd after-four after_two range = either (pairwise ss (a ∷ b ∷ c ∷ d ∷ [])) refl
    where
      found : (test : Bool) → pairwise ss (a ∷ b ∷ c ∷ d ∷ []) ≡ test → next_unit reached next a ≡ pick test (a ∷ b ∷ c ∷ d ∷ []) (a ∷ b ∷ [])
      found test e =
          four_next reached next a b c d ab bc cd (λ f. omega (arith, range.1.0)) (λ f. omega (arith, range.1.1.1.0)) test
          (four_apart_lem ss direct reached rowed a b c d range.0 range.1.0 range.1.1.0 range.1.1.1.0 ∙ e)

      cuts : (test : Bool) → pairwise ss (a ∷ b ∷ c ∷ d ∷ []) ≡ test
          → cut ss (a ∷ b ∷ c ∷ d ∷ rest) ≡ elim test [ true ↦ (a ∷ b ∷ c ∷ d ∷ []) ∷ cut ss rest | false ↦ (a ∷ b ∷ []) ∷ cut ss (c ∷ d ∷ rest) ]
      cuts test e = ap (λ (t : Bool). elim t [ true ↦ (a ∷ b ∷ c ∷ d ∷ []) ∷ cut ss rest | false ↦ (a ∷ b ∷ []) ∷ cut ss (c ∷ d ∷ rest) ]) e

      either : (test : Bool) → pairwise ss (a ∷ b ∷ c ∷ d ∷ []) ≡ test → First a (a ∷ b ∷ c ∷ d ∷ rest)
      either true e =
          record {
            unit = a ∷ b ∷ c ∷ d ∷ [];
            rest = rest;
            found = found true e;
            onward = after-four;
            cuts = cuts true e;
            shorter = omega arith;
            range = range.1.1.1.1;
          }
      either false e =
          record {
            unit = a ∷ b ∷ [];
            rest = c ∷ d ∷ rest;
            found = found false e;
            onward = subst (λ (x : ℕ). Onward x (c ∷ d ∷ rest)) (sym bc) (on after_two);
            cuts = cuts false e;
            shorter = omega arith;
            range = range.1.1;
          }

  first_unit : {at : ℕ} {c : List ℕ} → Chain pairs at c → Every (λ s. s < length ss) c → First at c
  unfolding cut
  first_unit (ends {s = a} e) range =
      record {
        unit = a ∷ [];
        rest = [];
        found = one_next reached next a (ended a e);
        onward = subst (λ (x : ℕ). Onward x []) (sym (ended a e)) stops;
        cuts = refl;
        shorter = omega arith;
        range = tt;
      }
  first_unit (goes {s = a} {t = b} e (ends f)) range =
      record {
        unit = a ∷ b ∷ [];
        rest = [];
        found =
            two_next reached next a b 64 64 (follows a b e) (ended b f) none_past (λ same. omega (arith, range.1.0)) refl;
        onward = subst (λ (x : ℕ). Onward x []) (sym (ended b f)) stops;
        cuts = refl;
        shorter = omega arith;
        range = tt;
      }
  first_unit (goes {s = a} {t = b} e (goes {t = c} f (ends g))) range =
      record {
        unit = a ∷ b ∷ [];
        rest = c ∷ [];
        found =
            two_next reached next a b c 64 (follows a b e) (follows b c f) (ended c g) (λ same. omega (arith, range.1.0)) refl;
        onward = subst (λ (x : ℕ). Onward x (c ∷ [])) (sym (follows b c f)) (on (ends g));
        cuts = refl;
        shorter = omega arith;
        range = range.1.1;
      }
  first_unit (goes {s = a} {t = b} e (goes {t = c} f (goes {t = d} g (ends h)))) range =
      at_least_four a b c d [] (follows a b e) (follows b c f) (follows c d g) (subst (λ (x : ℕ). Onward x []) (sym (ended d h)) stops)
      (goes g (ends h)) range
  first_unit (goes {s = a} {t = b} e (goes {t = c} f (goes {t = d} g (goes {t = x} {c = more} h rest)))) range =
      at_least_four a b c d more (follows a b e) (follows b c f) (follows c d g) (subst (λ (y : ℕ). Onward y more) (sym (follows d x h)) (on rest))
      (goes g (goes h rest)) range

  -- a chain in the block begins in it
  chain_first : {at : ℕ} {c : List ℕ} → Chain pairs at c → Every (λ s. s < length ss) c → at < length ss
  chain_first (ends e) range = range.0
  chain_first (goes e rest) range = range.0

  -- "A chain is cut from its left end": as many turns as it has statements add all of its units
  abbrev CutAdds : ℕ → Type 0
  CutAdds k =
      (at : ℕ) (c : List ℕ) → Onward at c → Every (λ s. s < length ss) c → length c ≤ k → (t : Tables)
      → cut_along k reached direct next at t ≡ adds direct (cut ss c) t

  no_turn : CutAdds zero
  unfolding cut
  no_turn at c stops range enough t = cut_ended reached direct next zero 64 t refl
  no_turn at c (on chained) range enough t = absurd (omega (arith, chain_long chained))

  one_turn : (k : ℕ) → CutAdds k → CutAdds (suc k)
  unfolding cut
  one_turn k later at c stops range enough t = cut_ended reached direct next (suc k) 64 t refl
  one_turn k later at c (on chained) range enough t =
      let first = first_unit chained range in
      cut_more reached direct next k at t (λ e. omega (arith, chain_first chained range))
      ∙ ap (λ (u : List ℕ). cut_along k reached direct next (get_or next (last_lane (lanes_of u)) 64) (wait_in direct (lanes_of u) t)) first.found
      ∙ later _ first.rest first.onward first.range (omega (arith, first.shorter)) (wait_in direct (lanes_of first.unit) t)
      ∙ ap (λ (units : List (List ℕ)). adds direct units t) (sym first.cuts)

  cut_adds : (k : ℕ) → CutAdds k
  cut_adds zero = no_turn
  cut_adds (suc k) = one_turn k (cut_adds k)

  -- a longest chain has no statement twice, so no more statements than the block
  chain_few : (s : ℕ) → s < length ss → is_right pairs s ≡ false → length (chain pairs s) ≤ length ss
  chain_few s below starts =
      few_numbers (length ss) (chain pairs s) (chain_range ss known.sound (known.whole s below starts) below)
      (λ t h. omega (arith, total_term (in_chain pairs t) (length ss) s below, known.partition t h, in_chain_lem t))
    where
      in_chain_lem : (t : ℕ) → in_chain pairs t s ≡ occurs t (chain pairs s)
      in_chain_lem t = rw starts

  -- The units of all longest chains are added.
  pub combined_adds : (t : Tables) → combined (length ss) reached direct next rights t ≡ adds direct (combine ss pairs) t
  unfolding combined combine
  combined_adds t =
      count_both (λ j x units. x ≡ adds direct units t) (cut_from (length ss) reached direct next rights)
      (λ s units. units ++ pick (is_right pairs s) [] (cut ss (chain pairs s))) (length ss) t [] refl step
    where
      step : (s : ℕ) (x : Tables) (units : List (List ℕ)) → s < length ss → x ≡ adds direct units t
          → cut_from (length ss) reached direct next rights s x ≡ adds direct (units ++ pick (is_right pairs s) [] (cut ss (chain pairs s))) t
      step s x units below e =
          ap (λ (right : Bool). pick right x (cut_along (length ss) reached direct next s x)) (paired.are_right s)
          ∙ either (is_right pairs s) refl
        where
          either : (right : Bool) → is_right pairs s ≡ right
              → pick right x (cut_along (length ss) reached direct next s x) ≡ adds direct (units ++ pick right [] (cut ss (chain pairs s))) t
          either true starts = e ∙ ap (λ (us : List (List ℕ)). adds direct us t) (sym (append-nil units))
          either false starts =
              cut_adds (length ss) s (chain pairs s) (on (known.whole s below starts)) (chain_range ss known.sound (known.whole s below starts) below)
              (chain_few s below starts) x
              ∙ ap (adds direct (cut ss (chain pairs s))) e
              ∙ sym (each_append (λ unit. wait_in direct (lanes_of unit)) units (cut ss (chain pairs s)) t)
