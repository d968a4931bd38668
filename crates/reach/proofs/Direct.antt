-- "A later statement depends on an earlier one if it reads what that one writes, writes what that one reads, or writes the same place": the rows
-- that are read from the tables of places say just this.
use mathlib.Core.Path.{◌≡◌, refl, sym, ap, ap₂, ◌∙◌}
use mathlib.Core.Logic.{◌⊎◌, inl, inr}
use mathlib.Core.Bool.{Bool, true, false, ◌&&◌, ◌||◌, and-true, and-false, or_assoc}
use mathlib.Core.List.{List}
use Prim.Native.Nat.{ℕ, ◌+◌, ◌-◌, ◌^◌, ◌≤◌, ◌<◌}
use native.Mathlib.Omega.{arith}
use lib.Dec.{eqb, ltb}
use lib.Bits.{bit_and}
use lib.ListN.{length, get_or, set, replicate, length-set, length-replicate}
use lib.Seq.{get_or-set_same, get_or-set_other}
use borrow.Author.Tests.{eqb-true, eq-eqb, lt-ltb, le-ltb}
use Rattle.basics.specs.Lists.{all}
use Rattle.basics.specs.Sets.{join, has}
use Rattle.basics.proofs.Tests.{and_left, same_test, below_or_not}
use Rattle.basics.proofs.Counting.{one_further, count_up}
use Rattle.basics.proofs.Lists.{replicate_at}
use Rattle.basics.proofs.Sets.{has_nobody, has_join, has_both, has_below}
use Rattle.meaning.specs.declared.Place.{Place}
use Rattle.meaning.specs.declared.Operand.{Operand}
use Rattle.meaning.specs.declared.Operand.TheVariants.{Held}
use Rattle.meaning.specs.declared.Statement.{Statement}
use Rattle.meaning.specs.Block.{statement, same, names}
use Rattle.meaning.specs.Dependence.{conflicts, depends_on}
use Rattle.codes.specs.Codes.{place_code, operand_code}
use Rattle.codes.specs.Fitting.{place_fits, operand_fits, statement_fits}
use Rattle.codes.proofs.Places.{same_codes_lem}
use Rattle.codes.proofs.Operands.{name_codes}
use Rattle.codes.proofs.Fits.{destination_fits, left_fits, right_fits}
use Rattle.facts.specs.Places.{naming}
use Rattle.facts.specs.Tied.{is_place_code, Named}
use Rattle.facts.proofs.Numbers.{place_coded}
use Rattle.reach.specs.Rows.{direct_row, direct_rows}

-- a code that is a place's is compared either way round
turned : (place code : ℕ) → is_place_code place ≡ true → eqb place code && is_place_code code ≡ eqb code place
turned place code e =
    same_test (eqb place code && is_place_code code) (eqb code place)
    (λ t. eq-eqb code place (sym (eqb-true place code (and_left _ _ t))))
    (λ t. let this : code ≡ place = eqb-true code place t in rw this (rw (eq-eqb place place refl) e))

placed : (test place : Bool) → place ≡ true → test && place ≡ test
placed true place e = e
placed false place e = refl

-- two tests are equal behind a number's test where they are for numbers that pass it
pub where_below : (i n : ℕ) (a b : Bool) → (i < n → a ≡ b) → ltb i n && a ≡ ltb i n && b
where_below i n a b e = by (below_or_not i n)
  where
    by : (i < n) ⊎ (n ≤ i) → ltb i n && a ≡ ltb i n && b
    by (inl low) = ap (λ (t : Bool). ltb i n && t) (e low)
    by (inr high) = rw (le-ltb i n high)

-- who is in a row of five sets, of those before it
row_has : (a b c d f later e : ℕ)
    → has (bit_and (join (join a b) (join (join c d) f)) (2 ^ later - 1)) e ≡ (has a e || has b e || (has c e || has d e || has f e)) && ltb e later
row_has a b c d f later e =
    has_both (join (join a b) (join (join c d) f)) (2 ^ later - 1) e
    ∙ ap₂ ◌&&◌
    (has_join (join a b) (join (join c d) f) e
    ∙ ap₂ ◌||◌ (has_join a b e) (has_join (join c d) f e ∙ ap (λ (t : Bool). t || has f e) (has_join c d e)))
    (has_below later e)

-- of those before a statement of the block, all are of the block
row_tests : (later e n : ℕ) (a b c d f a' b' c' d' f' : Bool) → later < n
    → a ≡ ltb e n && a' → b ≡ ltb e n && b' → c ≡ ltb e n && c' → d ≡ ltb e n && d' → f ≡ ltb e n && f'
    → (a || b || (c || d || f)) && ltb e later ≡ ltb e later && ltb later n && (a' || b' || (c' || d') || f')
row_tests later e n a b c d f a' b' c' d' f' h ea eb ec ed ef = by (below_or_not e later)
  where
    by : (e < later) ⊎ (later ≤ e) → (a || b || (c || d || f)) && ltb e later ≡ ltb e later && ltb later n && (a' || b' || (c' || d') || f')
    by (inl low) =
        rw (ea, eb, ec, ed, ef, lt-ltb e n (omega arith), lt-ltb e later low, lt-ltb later n h)
        (and-true (a' || b' || (c' || d' || f')) ∙ sym (or_assoc (a' || b') (c' || d') f'))
    by (inr high) = rw (le-ltb e later high) (and-false (a || b || (c || d || f)))

module _ (ss : List Statement) (fits : all statement_fits ss ≡ true) (numbers writers lefts rights : List ℕ)
    (named : Named ss numbers writers lefts rights) where
  -- who writes what an operand names, who reads a place, and who writes it
  pub operand_writers : (o : Operand) (e : ℕ) → operand_fits o ≡ true
      → has (naming numbers writers (operand_code o)) e ≡ ltb e (length ss) && names o (statement ss e).destination
  operand_writers o e ok =
      named.writing (operand_code o) e
      ∙ where_below e (length ss) _ _ λ low.
      turned (place_code (statement ss e).destination) (operand_code o) (place_coded (statement ss e).destination (destination_fits ss fits e low))
      ∙ sym (name_codes o (statement ss e).destination ok (destination_fits ss fits e low))

  pub place_writers : (p : Place) (e : ℕ) → place_fits p ≡ true
      → has (naming numbers writers (place_code p)) e ≡ ltb e (length ss) && same (statement ss e).destination p
  place_writers p e ok =
      named.writing (place_code p) e
      ∙ where_below e (length ss) _ _ λ low.
      placed (eqb (place_code (statement ss e).destination) (place_code p)) (is_place_code (place_code p)) (place_coded p ok)
      ∙ sym (same_codes_lem (statement ss e).destination p (destination_fits ss fits e low) ok)

  place_lefts : (p : Place) (e : ℕ) → place_fits p ≡ true
      → has (naming numbers lefts (place_code p)) e ≡ ltb e (length ss) && names (statement ss e).left p
  place_lefts p e ok =
      named.reading_left (place_code p) e
      ∙ where_below e (length ss) _ _ λ low.
      placed (eqb (operand_code (statement ss e).left) (place_code p)) (is_place_code (place_code p)) (place_coded p ok)
      ∙ sym (name_codes (statement ss e).left p (left_fits ss fits e low) ok)

  place_rights : (p : Place) (e : ℕ) → place_fits p ≡ true
      → has (naming numbers rights (place_code p)) e ≡ ltb e (length ss) && names (statement ss e).right p
  place_rights p e ok =
      named.reading_right (place_code p) e
      ∙ where_below e (length ss) _ _ λ low.
      placed (eqb (operand_code (statement ss e).right) (place_code p)) (is_place_code (place_code p)) (place_coded p ok)
      ∙ sym (name_codes (statement ss e).right p (right_fits ss fits e low) ok)

  -- the row of a statement of the block
  pub direct_row_lem : (later e : ℕ) → later < length ss → has (direct_row (statement ss later) later numbers writers lefts rights) e ≡ depends_on ss later e
  direct_row_lem later e h =
      let s = statement ss later in
      row_has (naming numbers writers (operand_code s.left)) (naming numbers writers (operand_code s.right))
      (naming numbers lefts (place_code s.destination)) (naming numbers rights (place_code s.destination))
      (naming numbers writers (place_code s.destination)) later e
      ∙ row_tests later e (length ss) _ _ _ _ _ _ _ _ _ _ h
      (operand_writers s.left e (left_fits ss fits later h))
      (operand_writers s.right e (right_fits ss fits later h))
      (place_lefts s.destination e (destination_fits ss fits later h))
      (place_rights s.destination e (destination_fits ss fits later h))
      (operand_writers (Held s.destination) e (destination_fits ss fits later h))

-- a table of 64 rows that is filled from the front
pub record Filled (row : ℕ → ℕ) (k : ℕ) (rows : List ℕ) : Type 0 where
  pub sized : length rows ≡ 64
  pub filled : (s : ℕ) → s < k → get_or rows s 0 ≡ row s
  pub rest : (s : ℕ) → k ≤ s → get_or rows s 0 ≡ 0

pub nothing_filled : (row : ℕ → ℕ) → Filled row 0 (replicate 64 0)
nothing_filled row = record { sized = length-replicate {A = ℕ} 64 0; filled = λ s low. absurd (omega arith); rest = λ s high. replicate_at 64 s 0 }

pub one_filled : (row : ℕ → ℕ) (k : ℕ) (rows : List ℕ) (r : ℕ) → k < 64 → r ≡ row k → Filled row k rows → Filled row (k + 1) (set rows k r)
one_filled row k rows r h e so_far =
    record {
      sized = length-set rows k r ∙ so_far.sized;
      filled =
          one_further (λ s. get_or (set rows k r) s 0 ≡ row s) k
          (λ s low. get_or-set_other rows k s r 0 (omega arith) ∙ so_far.filled s low)
          (get_or-set_same rows k r 0 (omega (arith, so_far.sized)) ∙ e);
      rest = λ s high. get_or-set_other rows k s r 0 (omega arith) ∙ so_far.rest s (omega arith);
    }

-- what is no statement of the block depends on nothing, and nothing depends on what does not come before it
pub no_dependence : (ss : List Statement) (later e : ℕ) → length ss ≤ later → depends_on ss later e ≡ false
no_dependence ss later e h = rw (le-ltb later (length ss) h) (ap (λ (t : Bool). t && conflicts (statement ss later) (statement ss e)) (and-false (ltb e later)))

pub nothing_beyond : (ss : List Statement) (later e : ℕ) → later ≤ e → depends_on ss later e ≡ false
nothing_beyond ss later e h = rw (le-ltb e later h)

-- The law of the direct rows. `slots` are the statements' slots in memory, of which the first so many are declared.
module _ (ss : List Statement) (small : length ss ≤ 64) (fits : all statement_fits ss ≡ true) (numbers writers lefts rights : List ℕ)
    (named : Named ss numbers writers lefts rights)
    (slots : List Statement) (declared : (i : ℕ) → i < length ss → statement slots i ≡ statement ss i) where
  all_filled : Filled (λ s. direct_row (statement ss s) s numbers writers lefts rights) (length ss) (direct_rows slots (length ss) numbers writers lefts rights)
  unfolding direct_rows
  all_filled =
      let row : ℕ → ℕ = λ s. direct_row (statement ss s) s numbers writers lefts rights in
      count_up (Filled row) _ (length ss) (replicate 64 0) (nothing_filled row)
      (λ k rows low so_far.
      one_filled row k rows _ (omega arith) (ap (λ (s : Statement). direct_row s k numbers writers lefts rights) (declared k low)) so_far)

  pub direct_depends : (later e : ℕ) → has (get_or (direct_rows slots (length ss) numbers writers lefts rights) later 0) e ≡ depends_on ss later e
  direct_depends later e = by (below_or_not later (length ss))
    where
      by : (later < length ss) ⊎ (length ss ≤ later)
          → has (get_or (direct_rows slots (length ss) numbers writers lefts rights) later 0) e ≡ depends_on ss later e
      by (inl low) = ap (λ (row : ℕ). has row e) (all_filled.filled later low) ∙ direct_row_lem ss fits numbers writers lefts rights named later e low
      by (inr high) = ap (λ (row : ℕ). has row e) (all_filled.rest later high) ∙ has_nobody e ∙ sym (no_dependence ss later e high)
