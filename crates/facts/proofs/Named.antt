-- The tables of places that three columns leave, named one after the other, say who names which place.
use mathlib.Core.Path.{◌≡◌, refl, sym, ap, ◌∙◌, subst}
use mathlib.Core.Logic.{◌≢◌, ◌⊎◌, inl, inr}
use mathlib.Core.Bool.{false, ◌&&◌}
use mathlib.Core.List.{List}
use Prim.Native.Nat.{ℕ, ◌+◌, ◌≤◌, ◌<◌}
use native.Mathlib.Omega.{arith}
use lib.Dec.{eqb, ltb}
use lib.ListN.{length, get_or, set, replicate, length-replicate}
use borrow.Author.Tests.{le-ltb}
use Rattle.basics.specs.Sets.{only, has}
use Rattle.basics.proofs.Counting.{count_up}
use Rattle.basics.proofs.Sets.{has_nobody}
use Rattle.basics.proofs.Tests.{below_or_not, equal_or_not}
use Rattle.basics.proofs.Lists.{replicate_at}
use Rattle.meaning.specs.declared.Statement.{Statement}
use Rattle.meaning.specs.Block.{statement}
use Rattle.codes.specs.Codes.{place_code, operand_code}
use Rattle.facts.specs.Facts.{fact_at}
use Rattle.facts.specs.Places.{Named as Tables, named_tables, join_at, name_place, name_places}
use Rattle.facts.specs.Tied.{Stated, Names, Named, is_place_code}
use Rattle.facts.proofs.Steps.{names_nothing, names_beyond, names_again, names_first}
use Rattle.facts.proofs.Numbers.{Numbered, Met, place_code_lem, beyond_places, number_now, next_numbered, next_met, met_none, met_again}

-- what stands when the first j statements of a column have been met: so many numbers more at most, and the rows of earlier columns kept
record Reached (code_of : ℕ → ℕ) (start : Tables) (j : ℕ) (t : Tables) : Type 0 where
  numbered : Numbered t.numbers t.given
  met : Met code_of j t.numbers t.given t.named
  so_many : t.given ≤ start.given + j
  kept : (other : ℕ → ℕ) (m : ℕ) (named : List ℕ) → Met other m start.numbers start.given named → Met other m t.numbers t.given named

module _ (code_of : ℕ → ℕ) (start : Tables) (j : ℕ) (t : Tables) (few : start.given + j ≤ 191) (r : Reached code_of start j t) where
  abbrev c : ℕ
  c = code_of j

  abbrev after : List ℕ
  after = set t.numbers c (t.given + 1)

  reached_none : is_place_code c ≡ false → name_place c j t ≡ t → Reached code_of start (j + 1) (name_place c j t)
  reached_none none e =
      subst (Reached code_of start (j + 1)) (sym e)
      (record {
        numbered = r.numbered;
        met = met_none code_of j t.numbers t.given t.named r.met none;
        so_many = omega (arith, r.so_many);
        kept = r.kept;
      })

  module _ (some : c ≢ 0) (within : c < 2570) where
    in_table : c < length t.numbers
    in_table = omega (arith, r.numbered.codes)

    reached_again : get_or t.numbers c 0 ≢ 0 → Reached code_of start (j + 1) (name_place c j t)
    reached_again known =
        subst (Reached code_of start (j + 1)) (sym (names_again c j t.numbers t.named t.given some in_table known))
        (record {
          numbered = r.numbered;
          met =
              met_again code_of j t.numbers t.given t.named r.met r.numbered (omega (arith, r.so_many)) (place_code_lem c some within)
              known;
          so_many = omega (arith, r.so_many);
          kept = r.kept;
        })

    reached_first : get_or t.numbers c 0 ≡ 0 → Reached code_of start (j + 1) (name_place c j t)
    reached_first new =
        subst (Reached code_of start (j + 1)) (sym (names_first c j t.numbers t.named t.given some in_table new))
        (record {
          numbered = numbered;
          met =
              subst (λ (number : ℕ). Met code_of (j + 1) after (t.given + 1) (join_at t.named number (only j))) now
              (met_again code_of j after (t.given + 1) t.named (later code_of j t.named r.met) numbered (omega (arith, r.so_many))
              (place_code_lem c some within)
              (λ (e : get_or after c 0 ≡ 0). omega (arith, now)));
          so_many = omega (arith, r.so_many);
          kept = λ other m named before. later other m named (r.kept other m named before);
        })
      where
        now : get_or after c 0 ≡ t.given + 1
        now = number_now t.numbers t.given r.numbered c some within new

        numbered : Numbered after (t.given + 1)
        numbered = next_numbered t.numbers t.given r.numbered c some within new

        later : (other : ℕ → ℕ) (m : ℕ) (named : List ℕ) → Met other m t.numbers t.given named → Met other m after (t.given + 1) named
        later other m named before = next_met t.numbers t.given r.numbered c some within new other m named before

  reached_next : Reached code_of start (j + 1) (name_place c j t)
  reached_next = by (equal_or_not c 0) (below_or_not c 2570) (equal_or_not (get_or t.numbers c 0) 0)
    where
      no_place : c ≡ 0 → is_place_code c ≡ false
      no_place e = rw e

      by : (c ≡ 0) ⊎ (c ≢ 0) → (c < 2570) ⊎ (2570 ≤ c) → (get_or t.numbers c 0 ≡ 0) ⊎ (get_or t.numbers c 0 ≢ 0)
          → Reached code_of start (j + 1) (name_place c j t)
      by (inl none) w n = reached_none (no_place none) (names_nothing c j t.numbers t.named t.given none)
      by (inr some) (inr past) n =
          reached_none (beyond_places c past) (names_beyond c j t.numbers t.named t.given (omega (arith, r.numbered.codes)))
      by (inr some) (inl within) (inl new) = reached_first some within new
      by (inr some) (inl within) (inr known) = reached_again some within known

-- one column, from tables in which no statement of it has been met
column_reached : (facts : List ℕ) (column n : ℕ) (start : Tables) → n ≤ 64 → start.given ≤ 128 → Numbered start.numbers start.given
    → Met (fact_at facts column) 0 start.numbers start.given start.named
    → Reached (fact_at facts column) start n (name_places facts column n start)
unfolding name_places
column_reached facts column n start small few numbered met =
    count_up (Reached (fact_at facts column) start) (λ i. name_place (fact_at facts column i) i) n start
    (record { numbered = numbered; met = met; so_many = omega arith; kept = λ other m named before. before })
    (λ j t below r. reached_next (fact_at facts column) start j t (omega arith) r)

-- rows in which nobody is
module _ (empty : List ℕ) (rows : length empty ≡ 193) (nobody-in : (number : ℕ) → get_or empty number 0 ≡ 0) where
  nobody_met : (code_of : ℕ → ℕ) (numbers : List ℕ) (given : ℕ) → Met code_of 0 numbers given empty
  nobody_met code_of numbers given =
      record {
        rows = rows;
        row_of_none = nobody-in 0;
        not_given = λ number above. nobody-in number;
        named_by = λ code i. ap (λ (row : ℕ). has row i) (nobody-in (get_or numbers code 0)) ∙ has_nobody i ∙ sym (rw (le-ltb i 0 (omega arith)));
      }

-- the rows of a column that says of each statement what the codes say
names_of : (ss : List Statement) (code_of : Statement → ℕ) (facts : List ℕ) (column : ℕ) (numbers : List ℕ) (given : ℕ) (named : List ℕ)
    → ((s : ℕ) → s < length ss → fact_at facts column s ≡ code_of (statement ss s))
    → Met (fact_at facts column) (length ss) numbers given named → Names ss code_of numbers named
names_of ss code_of facts column numbers given named says m code i = m.named_by code i ∙ by (below_or_not i (length ss))
  where
    by : (i < length ss) ⊎ (length ss ≤ i)
        → ltb i (length ss) && (eqb (fact_at facts column i) code && is_place_code code) ≡ ltb i (length ss) && (eqb (code_of (statement ss i)) code && is_place_code code)
    by (inl below) = ap (λ (k : ℕ). ltb i (length ss) && (eqb k code && is_place_code code)) (says i below)
    by (inr past) = rw (le-ltb i (length ss) past)

module _ (ss : List Statement) (facts : List ℕ) (stated : Stated ss facts) (small : length ss ≤ 64) (fresh : List ℕ) (unnumbered : Numbered fresh 0)
    (empty : List ℕ) (rows : length empty ≡ 193) (nobody-in : (number : ℕ) → get_or empty number 0 ≡ 0) where
  abbrev one : Tables
  one = name_places facts 0 (length ss) (named_tables fresh empty 0)

  abbrev two : Tables
  two = name_places facts 64 (length ss) (named_tables one.numbers empty one.given)

  abbrev three : Tables
  three = name_places facts 128 (length ss) (named_tables two.numbers empty two.given)

  one_reached : Reached (fact_at facts 0) (named_tables fresh empty 0) (length ss) one
  one_reached =
      column_reached facts 0 (length ss) (named_tables fresh empty 0) small (omega arith) unnumbered (nobody_met empty rows nobody-in _ _ _)

  two_reached : Reached (fact_at facts 64) (named_tables one.numbers empty one.given) (length ss) two
  two_reached =
      column_reached facts 64 (length ss) (named_tables one.numbers empty one.given) small (omega (arith, one_reached.so_many))
      one_reached.numbered
      (nobody_met empty rows nobody-in _ _ _)

  three_reached : Reached (fact_at facts 128) (named_tables two.numbers empty two.given) (length ss) three
  three_reached =
      column_reached facts 128 (length ss) (named_tables two.numbers empty two.given) small
      (omega (arith, one_reached.so_many, two_reached.so_many))
      two_reached.numbered
      (nobody_met empty rows nobody-in _ _ _)

  three_named : Named ss three.numbers one.named two.named three.named
  three_named =
      record {
        writing =
            names_of ss (λ s. place_code s.destination) facts 0 three.numbers three.given one.named stated.destinations
            (three_reached.kept (fact_at facts 0) (length ss) one.named
            (two_reached.kept (fact_at facts 0) (length ss) one.named one_reached.met));
        reading_left =
            names_of ss (λ s. operand_code s.left) facts 64 three.numbers three.given two.named stated.lefts
            (three_reached.kept (fact_at facts 64) (length ss) two.named two_reached.met);
        reading_right =
            names_of ss (λ s. operand_code s.right) facts 128 three.numbers three.given three.named stated.rights three_reached.met;
      }

-- no number is given yet
unnumbered_zeros : (n : ℕ) → n ≡ 2570 → Numbered (replicate n 0) 0
unnumbered_zeros n e =
    record {
      codes = length-replicate n 0 ∙ e;
      no_place = replicate_at n 0 0;
      in_turn_lem = λ code. omega (arith, replicate_at {A = ℕ} n code 0);
      apart = λ code other numbered same. absurd (numbered (replicate_at n code 0));
    }

-- The tables that are made for a block: the writers of each place, and its readers on the left and on the right.
pub places_named : (ss : List Statement) (n : ℕ) (facts : List ℕ) → length ss ≡ n → n ≤ 64 → Stated ss facts
    → (first second third : Tables)
    → first ≡ name_places facts 0 n (named_tables (replicate 2570 0) (replicate 193 0) 0)
    → second ≡ name_places facts 64 n (named_tables first.numbers (replicate 193 0) first.given)
    → third ≡ name_places facts 128 n (named_tables second.numbers (replicate 193 0) second.given)
    → Named ss third.numbers first.named second.named third.named
places_named ss n facts so_many small stated first second third e f g =
    rw (g, f, e, ← so_many)
    (three_named ss facts stated (omega arith) (replicate 2570 0) (unnumbered_zeros 2570 refl) (replicate 193 0) (length-replicate {A = ℕ} 193 0) (λ i. replicate_at 193 i 0))
