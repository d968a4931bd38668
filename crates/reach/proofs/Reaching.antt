-- "Two different statements are independent if no path of dependences joins them": the rows of all that paths lead to, filled from the direct
-- rows by walks, are the rows of the definition.
use mathlib.Core.Path.{◌≡◌, refl, sym, ap, ◌∙◌, subst}
use mathlib.Core.Logic.{◌⊎◌, inl, inr}
use mathlib.Core.Bool.{Bool, true, false, ◌||◌, not, false≢true, and_assoc, or-false, or_assoc}
use mathlib.Core.List.{List, [], ◌∷◌, ◌++◌}
use Prim.Native.Nat.{ℕ, ◌+◌, ◌≤◌, ◌<◌}
use native.Mathlib.Omega.{arith}
use lib.Dec.{eqb}
use lib.ListN.{length, get_or, set, replicate, length-append, length-set, length-replicate, get_or-append}
use lib.Seq.{get_or_at, get_or-set_same, get_or-set_other}
use borrow.Author.Tests.{eqb-true, eq-eqb, lt-ltb}
use Rattle.basics.specs.Choice.{pick}
use Rattle.basics.specs.Lists.{all}
use Rattle.basics.specs.Sets.{nobody, only, join, has}
use Rattle.basics.proofs.Tests.{below_or_not, or_left, or_right}
use Rattle.basics.proofs.Counting.{one_further, count_both}
use Rattle.basics.proofs.Sets.{has_nobody, has_only, has_join, same_sets, no_one}
use Rattle.meaning.specs.declared.Statement.{Statement}
use Rattle.meaning.specs.Block.{statement}
use Rattle.meaning.specs.Dependence.{depends_on, reached_by, reachability, reaches, independent}
use Rattle.rows.proofs.Walks.{walk_counts}
use Rattle.codes.specs.Fitting.{statement_fits}
use Rattle.facts.specs.Tied.{Named}
use Rattle.reach.specs.Rows.{direct_rows, reached_from, reached_rows, no_path}
use Rattle.reach.specs.Tied.{Rowed}
use Rattle.reach.proofs.Direct.{no_dependence, nothing_beyond, direct_depends}

-- Of one row so far: `grown` begins with all that the statement depends on and takes in what each of those reaches; `built` begins with nobody
-- and takes in each of those with what it reaches. Below j both have met all.
record Alike (direct j grown built : ℕ) : Type 0 where
  members : (i : ℕ) → has grown i ≡ has direct i || has built i
  met : (i : ℕ) → i < j → has direct i ≡ true → has built i ≡ true

alike_start : (direct : ℕ) → Alike direct 0 direct nobody
alike_start direct =
    record {
      members = λ i. sym (ap (λ (t : Bool). has direct i || t) (has_nobody i) ∙ or-false (has direct i));
      met = λ i low e. absurd (omega arith);
    }

-- one that the statement depends on is met, with what it reaches
alike_yes : (direct j grown built reached : ℕ) → has direct j ≡ true → Alike direct j grown built
    → Alike direct (j + 1) (join grown reached) (join built (join (only j) reached))
alike_yes direct j grown built reached e h =
    record {
      members = λ i. has_join grown reached i ∙ ap (λ (t : Bool). t || has reached i) (h.members i) ∙ both i (eqb j i) refl ∙ ap (λ (t : Bool). has direct i || t) (sym (built_has i));
      met =
          one_further (λ i. has direct i ≡ true → has (join built (join (only j) reached)) i ≡ true) j
          (λ i low d. built_has i ∙ or_left (has built i) _ (h.met i low d))
          (λ d. built_has j ∙ or_right (has built j) _ (or_left (eqb j j) _ (eq-eqb j j refl)));
    }
  where
    built_has : (i : ℕ) → has (join built (join (only j) reached)) i ≡ has built i || (eqb j i || has reached i)
    built_has i =
        has_join built (join (only j) reached) i
        ∙ ap (λ (t : Bool). has built i || t) (has_join (only j) reached i ∙ ap (λ (t : Bool). t || has reached i) (has_only j i))

    both : (i : ℕ) (t : Bool) → eqb j i ≡ t → has direct i || has built i || has reached i ≡ has direct i || (has built i || (t || has reached i))
    both i true t =
        let here : has direct i ≡ true = ap (has direct) (sym (eqb-true j i t)) ∙ e in
        rw here
    both i false t = or_assoc (has direct i) (has built i) (has reached i)

-- one that it does not depend on is passed over
alike_no : (direct j grown built : ℕ) → has direct j ≡ false → Alike direct j grown built → Alike direct (j + 1) grown built
alike_no direct j grown built e h =
    record {
      members = h.members;
      met = one_further (λ i. has direct i ≡ true → has built i ≡ true) j h.met (λ d. absurd (false≢true (sym e ∙ d)));
    }

-- when all are met the two are one
alike_end : (direct k grown built : ℕ) → ((i : ℕ) → k ≤ i → has direct i ≡ false) → Alike direct k grown built → grown ≡ built
alike_end direct k grown built none h = same_sets grown built (λ i. h.members i ∙ by i (has direct i) refl)
  where
    by : (i : ℕ) (t : Bool) → has direct i ≡ t → t || has built i ≡ has built i
    by i true e = sym (h.met i (low (below_or_not i k)) e)
      where
        low : (i < k) ⊎ (k ≤ i) → i < k
        low (inl below) = below
        low (inr beyond) = absurd (false≢true (sym (none i beyond) ∙ e))
    by i false e = refl

module _ (ss : List Statement) (later direct : ℕ) (reached rows : List ℕ) (small : later ≤ 64)
    (depends : (e : ℕ) → has direct e ≡ depends_on ss later e)
    (agree : (e : ℕ) → e < later → get_or reached e 0 ≡ get_or rows e nobody) where
  alike_step : (j grown built : ℕ) → j < later → (t : Bool) → has direct j ≡ t → Alike direct j grown built
      → Alike direct (j + 1) (elim t [ true ↦ join grown (get_or reached j 0) | false ↦ grown ])
      (pick t (join built (join (only j) (get_or rows j nobody))) built)
  alike_step j grown built low true e h =
      subst (λ (r : ℕ). Alike direct (j + 1) (join grown r) (join built (join (only j) (get_or rows j nobody)))) (sym (agree j low))
      (alike_yes direct j grown built (get_or rows j nobody) e h)
  alike_step j grown built low false e h = alike_no direct j grown built e h

  same_row : reached_from direct reached ≡ reached_by ss rows later
  same_row =
      walk_counts later direct (λ e row. join row (get_or reached e 0)) direct small beyond
      ∙ alike_end direct later _ _ beyond
      (count_both (Alike direct)
      (λ e row. elim (has direct e) [ true ↦ join row (get_or reached e 0) | false ↦ row ])
      (λ e row. pick (depends_on ss later e) (join row (join (only e) (get_or rows e nobody))) row)
      later direct nobody (alike_start direct)
      (λ j grown built low h.
      subst (λ (t : Bool).
      Alike direct (j + 1) (elim (has direct j) [ true ↦ join grown (get_or reached j 0) | false ↦ grown ])
      (pick t (join built (join (only j) (get_or rows j nobody))) built))
      (depends j) (alike_step j grown built low (has direct j) refl h)))
    where
      beyond : (e : ℕ) → later ≤ e → has direct e ≡ false
      beyond e high = depends e ∙ nothing_beyond ss later e high

-- the rows so far, in a table of 64 and in a list
record Matches (k : ℕ) (reached rows : List ℕ) : Type 0 where
  sized : length reached ≡ 64
  counted : length rows ≡ k
  equal : (s : ℕ) → s < k → get_or reached s 0 ≡ get_or rows s nobody

one_more : (k : ℕ) (reached rows : List ℕ) (r r' : ℕ) → k < 64 → r ≡ r' → Matches k reached rows → Matches (k + 1) (set reached k r) (rows ++ r' ∷ [])
one_more k reached rows r r' low e h =
    record {
      sized = length-set reached k r ∙ h.sized;
      counted = length-append rows (r' ∷ []) ∙ omega (arith, h.counted);
      equal =
          one_further (λ s. get_or (set reached k r) s 0 ≡ get_or (rows ++ r' ∷ []) s nobody) k
          (λ s below.
          get_or-set_other reached k s r 0 (omega arith)
          ∙ h.equal s below
          ∙ sym (get_or-append rows (r' ∷ []) nobody s (omega (arith, h.counted))))
          (get_or-set_same reached k r 0 (omega (arith, h.sized)) ∙ e ∙ sym (get_or_at rows r' [] nobody k h.counted));
    }

-- The law of the rows.
module _ (ss : List Statement) (small : length ss ≤ 64) (direct : List ℕ)
    (depends : (later e : ℕ) → has (get_or direct later 0) e ≡ depends_on ss later e) where
  all_match : Matches (length ss) (reached_rows direct (length ss)) (reachability ss)
  unfolding reached_rows reachability
  all_match =
      count_both Matches _ _ (length ss) (replicate 64 0) []
      (record { sized = length-replicate {A = ℕ} 64 0; counted = refl; equal = λ s low. absurd (omega arith) })
      (λ k reached rows low h.
      one_more k reached rows _ _ (omega arith) (same_row ss k (get_or direct k 0) reached rows (omega arith) (depends k) h.equal) h)

  pub reached_rows_lem : (s : ℕ) → s < length ss → get_or (reached_rows direct (length ss)) s 0 ≡ get_or (reachability ss) s nobody
  reached_rows_lem s low = all_match.equal s low

-- What the rows say, from the record alone.
module _ (ss : List Statement) (direct reached : List ℕ) (rowed : Rowed ss direct reached) where
  -- two statements are independent
  pub no_path_lem : (s t : ℕ) → s < length ss → t < length ss → no_path reached s t ≡ independent ss s t
  unfolding independent
  no_path_lem s t low high =
      rw (rowed.reaching s low, rowed.reaching t high, lt-ltb s (length ss) low, lt-ltb t (length ss) high)
      (sym (and_assoc (not (eqb s t)) (not (reaches ss s t)) (not (reaches ss t s))))

  -- what is no statement depends on nothing
  pub no_row : (s : ℕ) → length ss ≤ s → get_or direct s 0 ≡ nobody
  no_row s high = no_one (get_or direct s 0) (λ e. rowed.depends s e ∙ no_dependence ss s e high)

-- The law: the rows that the phases fill are the dependences and the paths. `slots` are the statements' slots in memory, of which the first so
-- many are declared.
pub rowed : (ss : List Statement) → length ss ≤ 64 → all statement_fits ss ≡ true → (numbers writers lefts rights : List ℕ)
    → Named ss numbers writers lefts rights
    → (slots : List Statement) → ((i : ℕ) → i < length ss → statement slots i ≡ statement ss i)
    → Rowed ss (direct_rows slots (length ss) numbers writers lefts rights)
    (reached_rows (direct_rows slots (length ss) numbers writers lefts rights) (length ss))
rowed ss small fits numbers writers lefts rights named slots declared =
    let depends = direct_depends ss small fits numbers writers lefts rights named slots declared in
    record { depends = depends; reaching = reached_rows_lem ss small (direct_rows slots (length ss) numbers writers lefts rights) depends }
