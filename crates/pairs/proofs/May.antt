-- The test on the tables by which a pair is admitted is that of "Pairs".
use mathlib.Core.Path.{◌≡◌, refl, ap, ap₂, ◌∙◌}
use mathlib.Core.Bool.{Bool, true, false, ◌&&◌, not}
use mathlib.Core.List.{List}
use Prim.Native.Nat.{ℕ, ◌+◌, ◌*◌, ◌≤◌, ◌<◌}
use native.Mathlib.Omega.{arith}
use lib.Dec.{eqb}
use lib.ListN.{length, get_or}
use borrow.Author.Tests.{eqb-true, eqb-false, eq-eqb}
use Rattle.basics.specs.Lists.{any}
use Rattle.basics.specs.Sets.{has}
use Rattle.basics.proofs.Tests.{and_left, and_right, and_both, same_test}
use Rattle.meaning.specs.declared.Statement.{Statement}
use Rattle.meaning.specs.Block.{statement, cell_place}
use Rattle.meaning.specs.Dependence.{independent}
use Rattle.meaning.specs.Pairs.{Pair, pair, is_left, is_right, partner, chain, alike, may_be_admitted}
use Rattle.meaning.proofs.Bounds.{place_cells}
use Rattle.theorems.specs.Units.{Every}
use Rattle.theorems.proofs.Occurs.{every_weaker}
use Rattle.theorems.proofs.Pairs.{Admitted}
use Rattle.facts.specs.Facts.{fact_at}
use Rattle.facts.specs.Tied.{Stated}
use Rattle.reach.proofs.Reaching.{no_path_lem}
use Rattle.reach.specs.Tied.{number_of, Rowed}
use Rattle.pairs.specs.Admission.{leads_to, may_join, may_pair, tables_of}
use Rattle.pairs.proofs.Tables.{tables_size, rights_tied, partners_tied, rights_below}
use Rattle.pairs.proofs.Leading.{left_free, leads_chain}

-- a sort is the operation and the kind of destination in one number
two_in_one : (a b c d : ℕ) → c ≤ 1 → d ≤ 1 → eqb (2 * a + c) (2 * b + d) ≡ eqb a b && eqb c d
two_in_one a b c d hc hd =
    same_test (eqb (2 * a + c) (2 * b + d)) (eqb a b && eqb c d)
    (λ e.
    let both : 2 * a + c ≡ 2 * b + d = eqb-true (2 * a + c) (2 * b + d) e in
    and_both (eqb a b) (eqb c d) (eq-eqb a b (omega arith)) (eq-eqb c d (omega arith)))
    (λ e. eq-eqb (2 * a + c) (2 * b + d) (omega (arith, eqb-true a b (and_left (eqb a b) (eqb c d) e), eqb-true c d (and_right (eqb a b) (eqb c d) e))))

pub sorts_alike : (ss : List Statement) (facts : List ℕ) → Stated ss facts → (s t : ℕ) → s < length ss → t < length ss
    → eqb (fact_at facts 192 s) (fact_at facts 192 t) ≡ alike (statement ss s) (statement ss t)
sorts_alike ss facts stated s t hs ht =
    ap₂ eqb (stated.sorts s hs) (stated.sorts t ht)
    ∙ two_in_one (statement ss s).operation (statement ss t).operation (cell_place (statement ss s).destination) (cell_place (statement ss t).destination)
    (place_cells (statement ss s).destination) (place_cells (statement ss t).destination)

-- the conditions put together
regroup : (a b c d e : Bool) → a && (b && (c && (d && e))) ≡ a && b && c && d && e
regroup true true true d e = refl
regroup true true false d e = refl
regroup true false c d e = refl
regroup false b c d e = refl

each_same : {a a' b b' c c' d d' e e' : Bool} → a ≡ a' → b ≡ b' → c ≡ c' → d ≡ d' → e ≡ e'
    → a && (b && (c && (not d && not e))) ≡ a' && b' && c' && not d' && not e'
each_same {a' = a} {b' = b} {c' = c} {d' = d} {e' = e} p q r u v = rw (p, q, r, u, v) (regroup a b c (not d) (not e))

no_such : (a b c : Bool) → a && (false && b && c) ≡ false
no_such true b c = refl
no_such false b c = refl

module _ (ss : List Statement) (facts direct reached : List ℕ) (few : length ss ≤ 64) (stated : Stated ss facts) (rowed : Rowed ss direct reached) where
  pub may_pair_lem : (pairs : List Pair) → Admitted ss pairs → (s t : ℕ) → s < length ss → t < length ss
      → may_pair facts reached (tables_of pairs) s t ≡ may_be_admitted ss pairs (pair s t)
  unfolding may_be_admitted
  may_pair_lem pairs known s t hs ht = by (eqb s t) refl
    where
      partners : (u : ℕ) → get_or (tables_of pairs).next u 64 ≡ number_of (partner pairs u)
      partners = partners_tied ss pairs known few

      small : Every (λ p. p.right < 64) pairs
      small = every_weaker (λ p h. omega (arith, h)) pairs (rights_below ss pairs known)

      by : (same : Bool) → eqb s t ≡ same
          → may_pair facts reached (tables_of pairs) s t
          ≡ not same && alike (statement ss s) (statement ss t) && independent ss s t && not (is_left pairs s) && not (is_right pairs t) && not (any (eqb s) (chain pairs t))
      by true e =
          ap (λ (same : Bool). eqb (fact_at facts 192 s) (fact_at facts 192 t)
          && (not same && (not (has (get_or reached s 0) t) && not (has (get_or reached t 0) s)) && may_join (tables_of pairs) s t)) e
          ∙ no_such (eqb (fact_at facts 192 s) (fact_at facts 192 t)) (not (has (get_or reached s 0) t) && not (has (get_or reached t 0) s)) (may_join (tables_of pairs) s t)
      by false e =
          each_same
          (sorts_alike ss facts stated s t hs ht)
          (no_path_lem ss direct reached rowed s t hs ht)
          (left_free pairs (tables_of pairs).next partners small s)
          (rights_tied pairs t)
          (ap (λ (n : ℕ). leads_to n (tables_of pairs).next t s) (tables_size pairs)
          ∙ leads_chain pairs (tables_of pairs).next partners small s t (omega arith) (eqb-false s t e))
