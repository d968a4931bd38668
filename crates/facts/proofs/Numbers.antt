-- The tables of places: no two places share a number, and a place's row has the statements that name it.
use mathlib.Core.Path.{◌≡◌, refl, sym, ap, ◌∙◌}
use mathlib.Core.Logic.{◌≢◌, ◌⊎◌, inl, inr}
use mathlib.Core.Bool.{true, false, ◌&&◌, and-false, or-true, or-false}
use mathlib.Core.List.{List}
use Prim.Native.Nat.{ℕ, ◌+◌, ◌≤◌, ◌<◌}
use native.Mathlib.Omega.{arith}
use lib.Dec.{eqb, ltb}
use lib.ListN.{length, get_or, set, length-set}
use lib.Seq.{get_or-set_same, get_or-set_other}
use borrow.Author.Tests.{lt-ltb, le-ltb, eq-eqb, ne_eqb}
use Rattle.basics.specs.Sets.{only, join, has}
use Rattle.basics.proofs.Sets.{has_only, has_join}
use Rattle.basics.proofs.Tests.{below_or_not, equal_or_not}
use Rattle.meaning.specs.declared.Place.{Place}
use Rattle.codes.specs.Codes.{place_code}
use Rattle.codes.specs.Fitting.{place_fits}
use Rattle.codes.proofs.Places.{from_two, below_2569}
use Rattle.facts.specs.Places.{join_at, naming}
use Rattle.facts.specs.Tied.{is_place_code}

-- the numbers by code, of which so many are given
pub record Numbered (numbers : List ℕ) (given : ℕ) : Type 0 where
  pub codes : length numbers ≡ 2570
  pub no_place : get_or numbers 0 0 ≡ 0
  pub in_turn_lem : (code : ℕ) → get_or numbers code 0 ≤ given
  pub apart : (code other : ℕ) → get_or numbers code 0 ≢ 0 → get_or numbers code 0 ≡ get_or numbers other 0 → code ≡ other

-- the rows by number, when the first j statements of a column have been met
pub record Met (code_of : ℕ → ℕ) (j : ℕ) (numbers : List ℕ) (given : ℕ) (named : List ℕ) : Type 0 where
  pub rows : length named ≡ 193
  pub row_of_none : get_or named 0 0 ≡ 0
  pub not_given : (number : ℕ) → given < number → get_or named number 0 ≡ 0
  pub named_by : (code i : ℕ) → has (naming numbers named code) i ≡ ltb i j && (eqb (code_of i) code && is_place_code code)

-- the code of a place is in the table of numbers
pub place_code_lem : (code : ℕ) → code ≢ 0 → code < 2570 → is_place_code code ≡ true
place_code_lem code some within = rw (lt-ltb 0 code (omega arith), lt-ltb code 2570 within)

pub beyond_places : (code : ℕ) → 2570 ≤ code → is_place_code code ≡ false
beyond_places code past = rw (le-ltb code 2570 past) (and-false (ltb 0 code))

pub place_coded : (p : Place) → place_fits p ≡ true → is_place_code (place_code p) ≡ true
place_coded p fits = place_code_lem (place_code p) (λ e. omega (arith, from_two p)) (omega (arith, below_2569 p fits))

-- one statement more, which is i or is not
more_below : (i j : ℕ) → i ≢ j → ltb i (j + 1) ≡ ltb i j
more_below i j other = by (below_or_not i j)
  where
    by : (i < j) ⊎ (j ≤ i) → ltb i (j + 1) ≡ ltb i j
    by (inl h) = lt-ltb i (j + 1) (omega arith) ∙ sym (lt-ltb i j h)
    by (inr h) = le-ltb i (j + 1) (omega arith) ∙ sym (le-ltb i j h)

-- a place gets the next number
module _ (numbers : List ℕ) (given : ℕ) (n : Numbered numbers given) (c : ℕ) (some : c ≢ 0) (within : c < 2570) (new : get_or numbers c 0 ≡ 0) where
  abbrev after : List ℕ
  after = set numbers c (given + 1)

  pub number_now : get_or after c 0 ≡ given + 1
  number_now = get_or-set_same numbers c (given + 1) 0 (omega (arith, n.codes))

  number_else : (code : ℕ) → code ≢ c → get_or after code 0 ≡ get_or numbers code 0
  number_else code other = get_or-set_other numbers c code (given + 1) 0 other

  pub next_numbered : Numbered after (given + 1)
  next_numbered =
      record {
        codes = length-set numbers c (given + 1) ∙ n.codes;
        no_place = number_else 0 (λ (e : 0 ≡ c). some (sym e)) ∙ n.no_place;
        in_turn_lem = in_turn_lem;
        apart = apart;
      }
    where
      in_turn_lem : (code : ℕ) → get_or after code 0 ≤ given + 1
      in_turn_lem code = by (equal_or_not code c)
        where
          by : (code ≡ c) ⊎ (code ≢ c) → get_or after code 0 ≤ given + 1
          by (inl e) = rw e (omega (arith, number_now))
          by (inr other) = omega (arith, number_else code other, n.in_turn_lem code)

      apart : (code other : ℕ) → get_or after code 0 ≢ 0 → get_or after code 0 ≡ get_or after other 0 → code ≡ other
      apart code other numbered e = by (equal_or_not code c) (equal_or_not other c)
        where
          by : (code ≡ c) ⊎ (code ≢ c) → (other ≡ c) ⊎ (other ≢ c) → code ≡ other
          by (inl a) (inl b) = a ∙ sym b
          by (inl a) (inr b) =
              let here : get_or after code 0 ≡ given + 1 = ap (λ (k : ℕ). get_or after k 0) a ∙ number_now in
              absurd (omega (arith, number_else other b, n.in_turn_lem other))
          by (inr a) (inl b) =
              let here : get_or after other 0 ≡ given + 1 = ap (λ (k : ℕ). get_or after k 0) b ∙ number_now in
              absurd (omega (arith, number_else code a, n.in_turn_lem code))
          by (inr a) (inr b) =
              n.apart code other (λ (none : get_or numbers code 0 ≡ 0). numbered (number_else code a ∙ none))
              (sym (number_else code a) ∙ e ∙ number_else other b)

  -- the rows say what they said
  pub next_met : (code_of : ℕ → ℕ) (j : ℕ) (named : List ℕ) → Met code_of j numbers given named → Met code_of j after (given + 1) named
  next_met code_of j named m =
      record { rows = m.rows; row_of_none = m.row_of_none; not_given = λ number above. m.not_given number (omega arith); named_by = named_by }
    where
      same_row : (code : ℕ) → (code ≡ c) ⊎ (code ≢ c) → naming after named code ≡ naming numbers named code
      same_row code (inl e) =
          ap (λ (k : ℕ). naming after named k) e ∙ ap (λ (number : ℕ). get_or named number 0) number_now ∙ m.not_given (given + 1) (omega arith)
          ∙ sym (ap (λ (k : ℕ). naming numbers named k) e ∙ ap (λ (number : ℕ). get_or named number 0) new ∙ m.row_of_none)
      same_row code (inr other) = ap (λ (number : ℕ). get_or named number 0) (number_else code other)

      named_by : (code i : ℕ) → has (naming after named code) i ≡ ltb i j && (eqb (code_of i) code && is_place_code code)
      named_by code i = ap (λ (row : ℕ). has row i) (same_row code (equal_or_not code c)) ∙ m.named_by code i

-- statement j names what is no place
module _ (code_of : ℕ → ℕ) (j : ℕ) (numbers : List ℕ) (given : ℕ) (named : List ℕ) (m : Met code_of j numbers given named) where
  pub met_none : is_place_code (code_of j) ≡ false → Met code_of (j + 1) numbers given named
  met_none none = record { rows = m.rows; row_of_none = m.row_of_none; not_given = m.not_given; named_by = named_by }
    where
      same : (code i : ℕ) → (i ≡ j) ⊎ (i ≢ j) → (code ≡ code_of j) ⊎ (code ≢ code_of j)
          → ltb i j && (eqb (code_of i) code && is_place_code code) ≡ ltb i (j + 1) && (eqb (code_of i) code && is_place_code code)
      same code i (inr other) d = rw (more_below i j other)
      same code i (inl e) (inl d) = rw (e, d, none, eq-eqb (code_of j) (code_of j) refl, le-ltb j j (omega arith), lt-ltb j (j + 1) (omega arith))
      same code i (inl e) (inr d) =
          rw (e, ne_eqb (code_of j) code (λ (k : code_of j ≡ code). d (sym k)), le-ltb j j (omega arith), lt-ltb j (j + 1) (omega arith))

      named_by : (code i : ℕ) → has (naming numbers named code) i ≡ ltb i (j + 1) && (eqb (code_of i) code && is_place_code code)
      named_by code i = m.named_by code i ∙ same code i (equal_or_not i j) (equal_or_not code (code_of j))

  -- statement j names a place that has a number
  module _ (n : Numbered numbers given) (few : given ≤ 192) (place : is_place_code (code_of j) ≡ true) (known : get_or numbers (code_of j) 0 ≢ 0) where
    abbrev number : ℕ
    number = get_or numbers (code_of j) 0

    abbrev row : ℕ
    row = join (get_or named number 0) (only j)

    row_now : get_or (set named number row) number 0 ≡ row
    row_now = get_or-set_same named number row 0 (omega (arith, m.rows, n.in_turn_lem (code_of j)))

    row_else : (other : ℕ) → other ≢ number → get_or (set named number row) other 0 ≡ get_or named other 0
    row_else other differ = get_or-set_other named number other row 0 differ

    pub met_again : Met code_of (j + 1) numbers given (join_at named number (only j))
    met_again =
        record {
          rows = length-set named number row ∙ m.rows;
          row_of_none = row_else 0 (λ (e : 0 ≡ number). known (sym e)) ∙ m.row_of_none;
          not_given = λ other above. row_else other (λ (e : other ≡ number). omega (arith, n.in_turn_lem (code_of j))) ∙ m.not_given other above;
          named_by = named_by;
        }
      where
        here : (i : ℕ) → (i ≡ j) ⊎ (i ≢ j) → has row i ≡ ltb i (j + 1) && (eqb (code_of i) (code_of j) && is_place_code (code_of j))
        here i (inl e) =
            has_join (get_or named number 0) (only j) i
            ∙ rw (e, has_only j j, eq-eqb j j refl, eq-eqb (code_of j) (code_of j) refl, place, lt-ltb j (j + 1) (omega arith)) (or-true (has (get_or named number 0) j))
        here i (inr other) =
            has_join (get_or named number 0) (only j) i
            ∙ rw (has_only j i, ne_eqb j i (λ (e : j ≡ i). other (sym e)), more_below i j other) (or-false (has (get_or named number 0) i) ∙ m.named_by (code_of j) i)

        elsewhere : (code i : ℕ) → code ≢ code_of j → (i ≡ j) ⊎ (i ≢ j)
            → ltb i j && (eqb (code_of i) code && is_place_code code) ≡ ltb i (j + 1) && (eqb (code_of i) code && is_place_code code)
        elsewhere code i d (inr other) = rw (more_below i j other)
        elsewhere code i d (inl e) =
            rw (e, ne_eqb (code_of j) code (λ (k : code_of j ≡ code). d (sym k)), le-ltb j j (omega arith), lt-ltb j (j + 1) (omega arith))

        named_by : (code i : ℕ) → has (naming numbers (set named number row) code) i ≡ ltb i (j + 1) && (eqb (code_of i) code && is_place_code code)
        named_by code i = by (equal_or_not code (code_of j))
          where
            by : (code ≡ code_of j) ⊎ (code ≢ code_of j)
                → has (naming numbers (set named number row) code) i ≡ ltb i (j + 1) && (eqb (code_of i) code && is_place_code code)
            by (inl e) = rw (e, row_now) (here i (equal_or_not i j))
            by (inr d) =
                ap (λ (r : ℕ). has r i) (row_else (get_or numbers code 0) (λ (e : get_or numbers code 0 ≡ number). d (sym (n.apart (code_of j) code known (sym e)))))
                ∙ m.named_by code i ∙ elsewhere code i d (equal_or_not i j)
