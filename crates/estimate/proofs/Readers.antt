-- An admitted pair reads what a pair defines: the walk over the readers of its left that have a partner finds one where there is one.
use mathlib.Core.Path.{◌≡◌, refl, sym, ap, ap₂, ◌∙◌}
use mathlib.Core.Logic.{◌⊎◌, inl, inr}
use mathlib.Core.Bool.{Bool, true, false, ◌&&◌, ◌||◌, not, false≢true, and-false}
use mathlib.Core.Option.{Option, none, some}
use mathlib.Core.List.{List, [], ◌∷◌}
use Prim.Native.Nat.{ℕ, ◌+◌, ◌≤◌, ◌<◌}
use native.Mathlib.Omega.{arith}
use lib.Dec.{eqb, ltb}
use lib.ListN.{length, get_or}
use borrow.Author.Tests.{ltb-true, lt-ltb, le-ltb, eqb-true, eqb-false, eq-eqb, ne_eqb, not-true}
use Rattle.basics.specs.Counting.{count}
use Rattle.basics.specs.Lists.{any}
use Rattle.basics.specs.Sets.{has}
use Rattle.basics.proofs.Counting.{count_up}
use Rattle.basics.proofs.Tests.{and_left, and_right, and_both, or_either, or_left, or_right, below_or_not, same_test, eqb_back}
use Rattle.meaning.specs.declared.Statement.{Statement}
use Rattle.meaning.specs.Block.{Position, left, right}
use Rattle.meaning.specs.Pairs.{Pair, pair, same_pair, is_admitted}
use Rattle.meaning.specs.Estimate.{both_defined, definitions, is_pair, reads_together}
use Rattle.meaning.specs.Extension.{is_this, reads_result}
use Rattle.theorems.specs.Units.{Every}
use Rattle.rows.proofs.Walks.{walk_counts}
use Rattle.facts.specs.Facts.{fact_at}
use Rattle.reach.specs.Tied.{number_of, Defined}
use Rattle.pairs.specs.Admission.{admitted_in}
use Rattle.estimate.specs.Costs.{reads_at, reads_pair, are_read}
use Rattle.estimate.proofs.Definitions.{definitions_column, definition_at, definitions_at}

-- Some member of a set passes a test: what a walk over the set finds.
module _ (member test : ℕ → Bool) where
  abbrev among : ℕ → Bool → Bool
  among a found = elim (member a) [ true ↦ found || test a | false ↦ found ]

  record Passing : Type 0 where
    number : ℕ
    is_member : member number ≡ true
    passes : test number ≡ true

  among_found : (n : ℕ) → count n 0 among false ≡ true → Passing
  among_found n =
      count_up (λ (i : ℕ) (found : Bool). found ≡ true → Passing) among n false (λ e. absurd (false≢true e))
      λ a found below known. by a found known (member a) refl
    where
      by : (a : ℕ) (found : Bool) → (found ≡ true → Passing) → (t : Bool) → member a ≡ t → elim t as (λ x. Bool) [ true ↦ found || test a | false ↦ found ] ≡ true → Passing
      by a found known true m e = either (or_either found (test a) e)
        where
          either : (found ≡ true) ⊎ (test a ≡ true) → Passing
          either (inl before) = known before
          either (inr this) = record { number = a; is_member = m; passes = this }
      by a found known false m e = known e

  among_finds : (n a : ℕ) → a < n → member a ≡ true → test a ≡ true → count n 0 among false ≡ true
  among_finds n a below m e =
      count_up (λ (i : ℕ) (found : Bool). a < i → found ≡ true) among n false (λ h. absurd (omega arith))
      (λ i found below' known h. by i found known h (below_or_not a i) (member i) refl) below
    where
      by : (i : ℕ) (found : Bool) → (a < i → found ≡ true) → a < i + 1 → (a < i) ⊎ (i ≤ a) → (t : Bool) → member i ≡ t
          → elim t as (λ x. Bool) [ true ↦ found || test i | false ↦ found ] ≡ true
      by i found known h (inl before) true k = or_left found (test i) (known before)
      by i found known h (inl before) false k = known before
      by i found known h (inr here) true k =
          let own : a ≡ i = omega arith in
          or_right found (test i) (ap test (sym own) ∙ e)
      by i found known h (inr here) false k =
          let own : a ≡ i = omega arith in
          absurd (false≢true (sym k ∙ ap member (sym own) ∙ m))

-- A pair that is admitted is one of the pairs, and one of the pairs is admitted.
same_pair_lem : (p q : Pair) → same_pair p q ≡ true → p ≡ q
same_pair_lem p q e = ap₂ pair (eqb-true p.left q.left (and_left _ _ e)) (eqb-true p.right q.right (and_right (eqb p.left q.left) _ e))

own_pair : (p : Pair) → same_pair p p ≡ true
own_pair p = and_both _ _ (eq-eqb p.left p.left refl) (eq-eqb p.right p.right refl)

pub admitted_every : (P : Pair → Type 0) (pairs : List Pair) (p : Pair) → Every P pairs → is_admitted pairs p ≡ true → P p
admitted_every P [] p every e = absurd (false≢true e)
admitted_every P (q ∷ pairs) p every e = either (or_either (same_pair p q) _ e) (admitted_every P pairs p every.1)
  where
    either : (same_pair p q ≡ true) ⊎ (is_admitted pairs p ≡ true) → (is_admitted pairs p ≡ true → P p) → P p
    either (inl this) later = rw (same_pair_lem p q this) every.0
    either (inr others) later = later others

admitted_any : (test : Pair → Bool) (pairs : List Pair) (p : Pair) → is_admitted pairs p ≡ true → test p ≡ true → any test pairs ≡ true
admitted_any test [] p e pass = e
admitted_any test (q ∷ pairs) p e pass = either (or_either (same_pair p q) _ e) (λ f. admitted_any test pairs p f pass)
  where
    either : (same_pair p q ≡ true) ⊎ (is_admitted pairs p ≡ true) → (is_admitted pairs p ≡ true → any test pairs ≡ true) → test q || any test pairs ≡ true
    either (inl this) later = or_left (test q) _ (ap test (sym (same_pair_lem p q this)) ∙ pass)
    either (inr others) later = or_right (test q) _ (later others)

record Admits (test : Pair → Bool) (pairs : List Pair) : Type 0 where
  one : Pair
  admitted : is_admitted pairs one ≡ true
  passes : test one ≡ true

any_admits : (test : Pair → Bool) (pairs : List Pair) → any test pairs ≡ true → Admits test pairs
any_admits test [] e = absurd (false≢true e)
any_admits test (q ∷ pairs) e = either (or_either (test q) _ e) (any_admits test pairs)
  where
    either : (test q ≡ true) ⊎ (any test pairs ≡ true) → (any test pairs ≡ true → Admits test pairs) → Admits test (q ∷ pairs)
    either (inl this) later = record { one = q; admitted = or_left (same_pair q q) _ (own_pair q); passes = this }
    either (inr others) later =
        let found = later others in
        record { one = found.one; admitted = or_right (same_pair found.one q) _ found.admitted; passes = found.passes }

-- Two numbers of definitions are those of a pair.
reads_both : (p : Pair) (s t : Option ℕ) → p.left < 64 → p.right < 64
    → eqb (number_of s) p.left && eqb (number_of t) p.right ≡ is_pair (same_pair p) (both_defined s t)
reads_both p none t low high = ap (λ (test : Bool). test && eqb (number_of t) p.right) (ne_eqb 64 p.left (λ e. omega arith))
reads_both p (some s) none low high =
    ap (λ (test : Bool). eqb s p.left && test) (ne_eqb 64 p.right (λ e. omega arith)) ∙ and-false (eqb s p.left)
reads_both p (some s) (some t) low high = ap₂ ◌&&◌ (eqb_back s p.left) (eqb_back t p.right)

reads_left : (p : Pair) (s t : Option ℕ) → is_pair (same_pair p) (both_defined s t) ≡ true → is_this p.left s ≡ true
reads_left p none t e = e
reads_left p (some s) none e = absurd (false≢true e)
reads_left p (some s) (some t) e = and_left (eqb p.left s) _ e

module _ (ss : List Statement) (facts : List ℕ) (few : length ss ≤ 64) (defined : Defined ss facts) where
  reads_position : (p : Pair) (position : Position) (a b : ℕ) → p.left < length ss → p.right < length ss → a < length ss → b < length ss
      → reads_at facts (definitions_column position) p a b ≡ is_pair (same_pair p) (definitions ss position (pair a b))
  unfolding definitions
  reads_position p position a b low high below below' =
      ap₂ (λ (s t : ℕ). eqb s p.left && eqb t p.right) (definitions_at ss facts defined position a below) (definitions_at ss facts defined position b below')
      ∙ reads_both p (definition_at ss position a) (definition_at ss position b) (omega arith) (omega arith)

  reads_result_lem : (p : Pair) (position : Position) (q : Pair) → is_pair (same_pair p) (definitions ss position q) ≡ true
      → is_this p.left (definition_at ss position q.left) ≡ true
  unfolding definitions
  reads_result_lem p position q e = reads_left p (definition_at ss position q.left) (definition_at ss position q.right) e

  together : (p q : Pair) → p.left < length ss → p.right < length ss → q.left < length ss → q.right < length ss
      → reads_at facts 320 p q.left q.right || reads_at facts 384 p q.left q.right ≡ reads_together ss p q
  together p q low high below below' =
      ap₂ ◌||◌ (reads_position p left q.left q.right low high below below') (reads_position p right q.left q.right low high below below')

  reader_of : (p q : Pair) → reads_together ss p q ≡ true → reads_result ss p.left q.left ≡ true
  reader_of p q e = either (or_either (is_pair (same_pair p) (definitions ss left q)) _ e)
    where
      either : (is_pair (same_pair p) (definitions ss left q) ≡ true) ⊎ (is_pair (same_pair p) (definitions ss right q) ≡ true)
          → reads_result ss p.left q.left ≡ true
      either (inl e) = or_left _ _ (reads_result_lem p left q e)
      either (inr e) = or_right (is_this p.left (definition_at ss left q.left)) _ (reads_result_lem p right q e)

  module _
      (pairs : List Pair) (next : List ℕ)
      (in_range : Every (λ p. (p.left < length ss) × (p.right < length ss)) pairs)
      (next-number : (s : ℕ) → get_or next s 64 ≤ 64)
      (admitted-in : (s t : ℕ) → admitted_in next s t ≡ is_admitted pairs (pair s t))
      (p : Pair) (low : p.left < length ss) (high : p.right < length ss) where
    -- the readers of p's left
    is_reader : (a : ℕ) → has (fact_at facts 448 p.left) a ≡ ltb a (length ss) && reads_result ss p.left a
    is_reader a = defined.readers p.left a low

    no_reader : (a : ℕ) → length ss ≤ a → has (fact_at facts 448 p.left) a ≡ false
    no_reader a past = is_reader a ∙ ap (λ (test : Bool). test && reads_result ss p.left a) (le-ltb a (length ss) past)

    found_read : Passing (has (fact_at facts 448 p.left)) (reads_pair facts next p) → any (reads_together ss p) pairs ≡ true
    found_read found =
        let a : ℕ = found.number in
        let b : ℕ = get_or next a 64 in
        let below : a < length ss = ltb-true a (length ss) (and_left _ _ (sym (is_reader a) ∙ found.is_member)) in
        let other : eqb b 64 ≡ false = not-true (eqb b 64) (and_left (not (eqb b 64)) _ found.passes) in
        let below' : b < 64 = omega (arith, next-number a, eqb-false b 64 other) in
        let admitted : is_admitted pairs (pair a b) ≡ true =
        sym (admitted-in a b) ∙ and_both (ltb a 64) _ (lt-ltb a 64 (omega arith)) (and_both (ltb b 64) _ (lt-ltb b 64 below') (eq-eqb b b refl)) in
        let range : (a < length ss) × (b < length ss) = admitted_every (λ q. (q.left < length ss) × (q.right < length ss)) pairs (pair a b) in_range admitted in
        admitted_any (reads_together ss p) pairs (pair a b) admitted
        (sym (together p (pair a b) low high range.0 range.1) ∙ and_right (not (eqb b 64)) _ found.passes)

    read_found : Admits (reads_together ss p) pairs → count (length ss) 0 (among (has (fact_at facts 448 p.left)) (reads_pair facts next p)) false ≡ true
    read_found found =
        let q : Pair = found.one in
        let range : (q.left < length ss) × (q.right < length ss) = admitted_every (λ q. (q.left < length ss) × (q.right < length ss)) pairs q in_range found.admitted in
        let there : admitted_in next q.left q.right ≡ true = admitted-in q.left q.right ∙ found.admitted in
        let follows : get_or next q.left 64 ≡ q.right = eqb-true (get_or next q.left 64) q.right (and_right (ltb q.right 64) _ (and_right (ltb q.left 64) _ there)) in
        among_finds (has (fact_at facts 448 p.left)) (reads_pair facts next p) (length ss) q.left range.0
        (is_reader q.left ∙ and_both (ltb q.left (length ss)) _ (lt-ltb q.left (length ss) range.0) (reader_of p q found.passes))
        (ap (λ (b : ℕ). not (eqb b 64) && (reads_at facts 320 p q.left b || reads_at facts 384 p q.left b)) follows
        ∙ and_both (not (eqb q.right 64)) _
        (ap not (ne_eqb q.right 64 (λ e. omega (arith, range.1))))
        (together p q low high range.0 range.1 ∙ found.passes))

    -- "an admitted pair reads them in this order at one position with t, t' as last definitions"
    pub are_read_lem : are_read facts next p ≡ any (reads_together ss p) pairs
    are_read_lem =
        walk_counts (length ss) (fact_at facts 448 p.left) (λ a found. found || reads_pair facts next p a) false few no_reader
        ∙ same_test (count (length ss) 0 (among (has (fact_at facts 448 p.left)) (reads_pair facts next p)) false) (any (reads_together ss p) pairs)
        (λ e. found_read (among_found (has (fact_at facts 448 p.left)) (reads_pair facts next p) (length ss) e))
        (λ e. read_found (any_admits (reads_together ss p) pairs e))
