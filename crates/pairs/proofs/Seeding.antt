-- "Seeding" on the tables gives the tables of the pairs that it gives. Once (s, t) is admitted s is left in a pair, so for each s the first t
-- that may be is the only one.
use mathlib.Core.Path.{◌≡◌, refl, sym, ap, subst₂, ◌∙◌}
use mathlib.Core.Bool.{Bool, true, false, ◌&&◌, ◌||◌, not}
use mathlib.Core.List.{List, [], ◌∷◌}
use Prim.Native.Nat.{ℕ, ◌≤◌, ◌<◌}
use native.Mathlib.Omega.{arith}
use lib.Dec.{eqb, ltb}
use lib.ListN.{length, take}
use lib.Seq.{get_or-take}
use borrow.Author.Tests.{lt-ltb, le-ltb, eq-eqb, ne_eqb}
use Rattle.basics.specs.Choice.{pick}
use Rattle.basics.specs.Counting.{count}
use Rattle.basics.specs.Lists.{any, all}
use Rattle.basics.specs.Sets.{has}
use Rattle.basics.proofs.Tests.{or_right}
use Rattle.basics.proofs.Counting.{count_both}
use Rattle.basics.proofs.Finding.{any_append}
use Rattle.meaning.specs.declared.Statement.{Statement}
use Rattle.meaning.specs.Block.{statement, blank}
use Rattle.meaning.specs.Dependence.{independent}
use Rattle.meaning.specs.Pairs.{Pair, pair, is_left, is_right, chain, alike, may_be_admitted, admit}
use Rattle.meaning.specs.Seeding.{row_in_some_position, seed_one, seed}
use Rattle.theorems.proofs.Pairs.{Admitted, none_admitted, admit_keeps}
use Rattle.rows.proofs.Walks.{walk_counts}
use Rattle.codes.specs.Fitting.{statement_fits}
use Rattle.facts.specs.Tied.{Stated, Named}
use Rattle.reach.specs.Tied.{Rowed}
use Rattle.pairs.specs.Admission.{Tables, empty, admit_to, tables_of, may_pair, neighbours_of, seed_tables, seeded_tables}
use Rattle.pairs.proofs.Tables.{admit_tables}
use Rattle.pairs.proofs.May.{may_pair_lem}
use Rattle.pairs.proofs.InRow.{neighbours_found}

-- who is left in a pair is left in no other
left_taken : (ss : List Statement) (pairs : List Pair) (s t : ℕ) → is_left pairs s ≡ true → may_be_admitted ss pairs (pair s t) ≡ false
unfolding may_be_admitted
left_taken ss pairs s t e =
    ap (λ (left : Bool).
    not (eqb s t) && alike (statement ss s) (statement ss t) && independent ss s t && not left && not (is_right pairs t) && not (any (eqb s) (chain pairs t))) e
    ∙ nothing (not (eqb s t) && alike (statement ss s) (statement ss t) && independent ss s t) (not (is_right pairs t)) (not (any (eqb s) (chain pairs t)))
  where
    nothing : (a b c : Bool) → a && false && b && c ≡ false
    nothing true b c = refl
    nothing false b c = refl

now_left : (pairs : List Pair) (s t : ℕ) → is_left (admit pairs (pair s t)) s ≡ true
now_left pairs s t =
    any_append (λ p. eqb p.left s) pairs (pair s t ∷ []) ∙ or_right (is_left pairs s) (eqb s s || false) (ap (λ (test : Bool). test || false) (eq-eqb s s refl))

nothing_admitted : empty ≡ tables_of []
unfolding tables_of
nothing_admitted = refl

-- what the walk has found for s, 64 where it has found nothing, beside the pairs
data Found (ss : List Statement) (pairs : List Pair) (s : ℕ) : ℕ → List Pair → Type 0 where
  nothing_yet : Found ss pairs s 64 pairs
  found : {t : ℕ} → t < 64 → may_be_admitted ss pairs (pair s t) ≡ true → Found ss pairs s t (admit pairs (pair s t))

abbrev walked : Bool → Bool → ℕ → ℕ → ℕ
walked candidate may t other = elim candidate [ true ↦ pick may t other | false ↦ other ]

module _ (ss : List Statement) (pairs : List Pair) (s : ℕ) where
  -- one statement more, before one was found
  find_one : (t : ℕ) → t < 64 → (row may : Bool) → may_be_admitted ss pairs (pair s t) ≡ may
      → Found ss pairs s (walked row may t 64) (pick (row && may) (admit pairs (pair s t)) pairs)
  find_one t h true true e = found h e
  find_one t h true false e = nothing_yet
  find_one t h false may e = nothing_yet

  -- and behind it
  keep_one : (u t : ℕ) → u < 64 → may_be_admitted ss pairs (pair s u) ≡ true → (candidate may row : Bool)
      → Found ss pairs s (walked candidate (false && may) t u) (pick (row && false) (admit (admit pairs (pair s u)) (pair s t)) (admit pairs (pair s u)))
  keep_one u t h e true may true = found h e
  keep_one u t h e true may false = found h e
  keep_one u t h e false may true = found h e
  keep_one u t h e false may false = found h e

  -- the tables, with what was found
  found_tables : {t : ℕ} {after : List Pair} → Found ss pairs s t after
      → pick (eqb t 64) (tables_of pairs) (admit_to (pair s t) (tables_of pairs)) ≡ tables_of after
  found_tables nothing_yet = refl
  found_tables (found {t = t} h e) = rw (ne_eqb t 64 (λ f. omega arith)) (sym (admit_tables pairs (pair s t)))

  found_admitted : {t : ℕ} {after : List Pair} → Admitted ss pairs → Found ss pairs s t after → Admitted ss after
  found_admitted known nothing_yet = known
  found_admitted known (found {t = t} h e) = admit_keeps ss pairs (pair s t) known e

module _ (ss : List Statement) (facts direct reached : List ℕ) (few : length ss ≤ 64) (stated : Stated ss facts) (rowed : Rowed ss direct reached) where
  module _ (pairs : List Pair) (known : Admitted ss pairs) (s candidates : ℕ) (below : s < length ss)
      (neighbours : (t : ℕ) → has candidates t ≡ ltb t (length ss) && row_in_some_position (statement ss s) (statement ss t)) where
    may : (t : ℕ) → t < length ss → may_pair facts reached (tables_of pairs) s t ≡ may_be_admitted ss pairs (pair s t)
    may t h = may_pair_lem ss facts direct reached few stated rowed pairs known s t below h

    step : (t u : ℕ) (after : List Pair) → t < length ss → Found ss pairs s u after
        → Found ss pairs s (walked (has candidates t) (eqb u 64 && may_pair facts reached (tables_of pairs) s t) t u) (seed_one ss (pair s t) after)
    step t u after h nothing_yet =
        subst₂ (λ (candidate test : Bool). Found ss pairs s (walked candidate test t 64) (seed_one ss (pair s t) pairs))
        (sym (neighbours t ∙ ap (λ (test : Bool). test && row_in_some_position (statement ss s) (statement ss t)) (lt-ltb t (length ss) h)))
        (sym (may t h))
        (find_one ss pairs s t (omega arith) (row_in_some_position (statement ss s) (statement ss t)) (may_be_admitted ss pairs (pair s t)) refl)
    step t u after h (found small e) =
        subst₂
        (λ (none test : Bool).
        Found ss pairs s (walked (has candidates t) (none && may_pair facts reached (tables_of pairs) s t) t u)
        (pick (row_in_some_position (statement ss s) (statement ss t) && test) (admit (admit pairs (pair s u)) (pair s t)) (admit pairs (pair s u))))
        (sym (ne_eqb u 64 (λ f. omega arith)))
        (sym (left_taken ss (admit pairs (pair s u)) s t (now_left pairs s u)))
        (keep_one ss pairs s u t small e (has candidates t) (may_pair facts reached (tables_of pairs) s t) (row_in_some_position (statement ss s) (statement ss t)))

    -- "for t in order"
    abbrev onward : ℕ → ℕ → ℕ
    onward t u = pick (eqb u 64 && may_pair facts reached (tables_of pairs) s t) t u

    whole : Found ss pairs s (count (length ss) 0 (λ t u. elim (has candidates t) [ true ↦ onward t u | false ↦ u ]) 64)
        (count (length ss) 0 (λ t. seed_one ss (pair s t)) pairs)
    whole =
        count_both (λ (t u : ℕ) (after : List Pair). Found ss pairs s u after)
        (λ t u. elim (has candidates t) [ true ↦ onward t u | false ↦ u ]) (λ t. seed_one ss (pair s t)) (length ss) 64 pairs nothing_yet
        (λ t u after h so_far. step t u after h so_far)

    seed_row : seed_tables facts reached s candidates (tables_of pairs) ≡ tables_of (count (length ss) 0 (λ t. seed_one ss (pair s t)) pairs)
    seed_row =
        ap (λ (u : ℕ). pick (eqb u 64) (tables_of pairs) (admit_to (pair s u) (tables_of pairs)))
        (walk_counts (length ss) candidates onward 64 few (λ t past. neighbours t ∙ ap (λ (test : Bool). test && row_in_some_position (statement ss s) (statement ss t)) (le-ltb t (length ss) past)))
        ∙ found_tables ss pairs s whole

    row_admitted : Admitted ss (count (length ss) 0 (λ t. seed_one ss (pair s t)) pairs)
    row_admitted = found_admitted ss pairs s known whole

  -- "For s in order"
  module _ (numbers writers lefts rights : List ℕ) (fit : all statement_fits ss ≡ true) (named : Named ss numbers writers lefts rights) where
    abbrev Tied : Tables → List Pair → Type 0
    Tied t pairs = (t ≡ tables_of pairs) × Admitted ss pairs

    one_row : (s : ℕ) (row : Statement) (t : Tables) (pairs : List Pair) → s < length ss → row ≡ statement ss s → Tied t pairs
        → Tied (seed_tables facts reached s (neighbours_of row numbers writers lefts rights) t) (count (length ss) 0 (λ u. seed_one ss (pair s u)) pairs)
    one_row s row t pairs below same tied =
        let neighbours = neighbours_found ss numbers writers lefts rights fit named in
        let candidates = neighbours_of (statement ss s) numbers writers lefts rights in (
          ap (λ (other : Statement). seed_tables facts reached s (neighbours_of other numbers writers lefts rights) t) same
              ∙ ap (seed_tables facts reached s candidates) tied.0
              ∙ seed_row pairs tied.1 s candidates below (λ u. neighbours s u below),
          row_admitted pairs tied.1 s candidates below (λ u. neighbours s u below),
        )

    -- The tables that seeding leaves are those of the pairs of "Seeding".
    pub seeded_tables_lem : (slots : List Statement) (n : ℕ) → take n slots ≡ ss → length ss ≡ n
        → seeded_tables slots n facts reached numbers writers lefts rights empty ≡ tables_of (seed ss)
    unfolding seeded_tables seed
    seeded_tables_lem slots n front sized =
        ap (λ (k : ℕ). count k 0 (λ s. seed_tables facts reached s (neighbours_of (statement slots s) numbers writers lefts rights)) empty) (sym sized)
        ∙ (count_both (λ (s : ℕ) (t : Tables) (pairs : List Pair). Tied t pairs)
        (λ s. seed_tables facts reached s (neighbours_of (statement slots s) numbers writers lefts rights))
        (λ s. count (length ss) 0 (λ u. seed_one ss (pair s u)))
        (length ss) empty [] (nothing_admitted, none_admitted ss)
        (λ s t pairs below tied.
        one_row s (statement slots s) t pairs below
        (sym (get_or-take n slots s blank (omega arith)) ∙ ap (λ (rows : List Statement). statement rows s) front) tied)
        ).0
