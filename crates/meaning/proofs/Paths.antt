-- The rows of "Dependence" are right: from a statement its row reaches exactly the statements to which a path of dependences leads.
use mathlib.Core.Path.{◌≡◌, refl, sym, subst, ◌∙◌, ap}
use mathlib.Core.Logic.{◌⊎◌, inl, inr, ◌↔◌, ◌≢◌}
use mathlib.Core.Bool.{Bool, true, false, ◌&&◌, not, false≢true}
use mathlib.Core.List.{List, [], ◌∷◌, ◌++◌}
use Prim.Native.Nat.{ℕ, ◌+◌, ◌≤◌, ◌<◌}
use native.Mathlib.Omega.{arith}
use lib.Dec.{eqb, ltb}
use lib.ListN.{length, get_or, length-append, get_or-append, get_or-eq_default}
use lib.Seq.{get_or_at}
use borrow.Author.Tests.{ltb-true, lt-ltb, eqb-true, eq-eqb, not-true}
use Rattle.basics.specs.Choice.{pick}
use Rattle.basics.specs.Sets.{nobody, only, join, has}
use Rattle.basics.proofs.Tests.{and_left, and_right, and_both, or_either, or_left, or_right, below_or_not}
use Rattle.basics.proofs.Counting.{one_further, count_up}
use Rattle.basics.proofs.Sets.{has_nobody, has_only, has_join}
use Rattle.meaning.specs.declared.Statement.{Statement}
use Rattle.meaning.specs.Dependence.{depends_on, Path, direct, through, reached_by, reachability, reaches, independent}

-- a first step of a path to s, over one of the statements below j, and what is left of the path behind it
abbrev Onward : List Statement → ℕ → ℕ → Type 0
Onward ss between s = (s ≡ between) ⊎ Path ss between s

record Step (ss : List Statement) (later j s : ℕ) : Type 0 where
  between : ℕ
  below : between < j
  depends : depends_on ss later between ≡ true
  onward : Onward ss between s

-- a dependence goes to an earlier statement, from one of the block
earlier_below : (ss : List Statement) (later earlier : ℕ) → depends_on ss later earlier ≡ true → earlier < later
earlier_below ss later earlier e = ltb-true earlier later (and_left _ _ (and_left _ _ e))

later_below : (ss : List Statement) (later earlier : ℕ) → depends_on ss later earlier ≡ true → later < length ss
later_below ss later earlier e = ltb-true later (length ss) (and_right (ltb earlier later) _ (and_left _ _ e))

-- a path is a first step over a statement below its start, and the other way round
path_step : {ss : List Statement} {later s : ℕ} → Path ss later s → Step ss later later s
path_step {ss} {later} {s} (direct e) = record { between = s; below = earlier_below ss later s e; depends = e; onward = inl refl }
path_step {ss} {later} {s} (through {between} e path) =
    record { between = between; below = earlier_below ss later between e; depends = e; onward = inr path }

step_path : {ss : List Statement} {later j s : ℕ} → Step ss later j s → Path ss later s
step_path {ss} {later} {j} {s} step = behind step.onward
  where
    behind : Onward ss step.between s → Path ss later s
    behind (inl e) = direct {later = later} {earlier = s} (rw e step.depends)
    behind (inr path) = through step.depends path

-- rows that are right for the statements below k
abbrev Right : List Statement → ℕ → List ℕ → Type 0
Right ss k rows = (later s : ℕ) → later < k → (has (get_or rows later nobody) s ≡ true) ↔ Path ss later s

-- the row so far reaches what is a step away over a statement below j
abbrev RightRow : List Statement → ℕ → ℕ → ℕ → Type 0
RightRow ss later j row = (s : ℕ) → (has row s ≡ true) ↔ Step ss later j s

module _ (ss : List Statement) (rows : List ℕ) (later : ℕ) (right : Right ss later rows) where
  -- s is at j itself, or a path leads from j to it
  reached_there : (j s : ℕ) → j < later → has (join (only j) (get_or rows j nobody)) s ≡ true → Onward ss j s
  reached_there j s below e = either (or_either _ _ (sym (has_join (only j) (get_or rows j nobody) s) ∙ e))
    where
      either : (has (only j) s ≡ true) ⊎ (has (get_or rows j nobody) s ≡ true) → Onward ss j s
      either (inl own) = inl (sym (eqb-true j s (sym (has_only j s) ∙ own)))
      either (inr reached) = inr ((right j s below).0 reached)

  reached_back : (j s : ℕ) → j < later → Onward ss j s → has (join (only j) (get_or rows j nobody)) s ≡ true
  reached_back j s below (inl e) =
      has_join (only j) (get_or rows j nobody) s ∙ or_left _ _ (has_only j s ∙ eq-eqb j s (sym e))
  reached_back j s below (inr path) = has_join (only j) (get_or rows j nobody) s ∙ or_right (has (only j) s) _ ((right j s below).1 path)

  -- one more statement below: the row grows by what is reached over it where the later statement depends on it, and else by nothing
  further : (j s : ℕ) → Step ss later j s → Step ss later (j + 1) s
  further j s step =
      record { between = step.between; below = omega (arith, step.below); depends = step.depends; onward = step.onward }

  there : (depends : Bool) (j row s : ℕ) → depends_on ss later j ≡ depends → j < later → RightRow ss later j row
      → has (pick depends (join row (join (only j) (get_or rows j nobody))) row) s ≡ true → Step ss later (j + 1) s
  there false j row s d below so_far e = further j s ((so_far s).0 e)
  there true j row s d below so_far e = either (or_either _ _ (sym (has_join row (join (only j) (get_or rows j nobody)) s) ∙ e))
    where
      either : (has row s ≡ true) ⊎ (has (join (only j) (get_or rows j nobody)) s ≡ true) → Step ss later (j + 1) s
      either (inl old) = further j s ((so_far s).0 old)
      either (inr new) = record { between = j; below = omega arith; depends = d; onward = reached_there j s below new }

  -- a step over a statement below j + 1 is one over a statement below j, or over j
  latest : (j s : ℕ) → Step ss later (j + 1) s → Step ss later j s ⊎ ((depends_on ss later j ≡ true) × Onward ss j s)
  latest j s step = either (below_or_not step.between j)
    where
      either : (step.between < j) ⊎ (j ≤ step.between) → Step ss later j s ⊎ ((depends_on ss later j ≡ true) × Onward ss j s)
      either (inl low) = inl (record { between = step.between; below = low; depends = step.depends; onward = step.onward })
      either (inr high) =
          let e : step.between ≡ j = omega (arith, step.below) in
          inr (rw e at step.depends, subst (λ (b : ℕ). Onward ss b s) e step.onward)

  back : (depends : Bool) (j row s : ℕ) → depends_on ss later j ≡ depends → j < later → RightRow ss later j row
      → Step ss later (j + 1) s → has (pick depends (join row (join (only j) (get_or rows j nobody))) row) s ≡ true
  back depends j row s d below so_far step = either depends d (latest j s step)
    where
      either : (depends : Bool) → depends_on ss later j ≡ depends → Step ss later j s ⊎ ((depends_on ss later j ≡ true) × Onward ss j s)
          → has (pick depends (join row (join (only j) (get_or rows j nobody))) row) s ≡ true
      either false d' (inl old) = (so_far s).1 old
      either false d' (inr new) = absurd (false≢true (sym d' ∙ new.0))
      either true d' (inl old) = has_join row _ s ∙ or_left _ _ ((so_far s).1 old)
      either true d' (inr new) = has_join row _ s ∙ or_right (has row s) _ (reached_back j s below new.1)

  -- so the whole row is right
  no_step : (s : ℕ) → Step ss later 0 s → has nobody s ≡ true
  no_step s step = absurd (omega (arith, step.below))

  row_right : RightRow ss later later (reached_by ss rows later)
  row_right =
      count_up (RightRow ss later) _ later nobody
      (λ s. (λ e. absurd (false≢true (sym (has_nobody s) ∙ e)), no_step s))
      (λ j row below so_far s. (there _ j row s refl below so_far, back _ j row s refl below so_far))

-- one row more, and so all rows
record RightRows (ss : List Statement) (k : ℕ) (rows : List ℕ) : Type 0 where
  sized : length rows ≡ k
  right : Right ss k rows

one_more : (ss : List Statement) (k : ℕ) (rows : List ℕ) → RightRows ss k rows → RightRows ss (k + 1) (rows ++ reached_by ss rows k ∷ [])
one_more ss k rows h = record { sized = length-append rows _ ∙ omega (arith, h.sized); right = right }
  where
    right : Right ss (k + 1) (rows ++ reached_by ss rows k ∷ [])
    right later s =
        one_further (λ at. (has (get_or (rows ++ reached_by ss rows k ∷ []) at nobody) s ≡ true) ↔ Path ss at s) k
        (λ at low. rw (get_or-append rows (reached_by ss rows k ∷ []) nobody at (omega (arith, h.sized))) (h.right at s low))
        (rw (get_or_at rows (reached_by ss rows k) [] nobody k h.sized)
        (λ reached. step_path ((row_right ss rows k h.right s).0 reached), λ path. (row_right ss rows k h.right s).1 (path_step path)))
        later

rows_right : (ss : List Statement) → RightRows ss (length ss) (reachability ss)
unfolding reachability
rows_right ss =
    count_up (RightRows ss) _ (length ss) []
    (record { sized = refl; right = λ later s below. absurd (omega arith) })
    (λ k rows below h. one_more ss k rows h)

-- The law, from the rows to the paths and back.
pub reaches_path : (ss : List Statement) (later earlier : ℕ) → reaches ss later earlier ≡ true → Path ss later earlier
reaches_path ss later earlier e = either (below_or_not later (length ss))
  where
    either : (later < length ss) ⊎ (length ss ≤ later) → Path ss later earlier
    either (inl below) = ((rows_right ss).right later earlier below).0 e
    either (inr above) =
        let outside : get_or (reachability ss) later nobody ≡ nobody = get_or-eq_default (reachability ss) nobody (omega (arith, (rows_right ss).sized)) in
        absurd (false≢true (sym (has_nobody earlier) ∙ sym (ap (λ (row : ℕ). has row earlier) outside) ∙ e))

path_later : {ss : List Statement} {later earlier : ℕ} → Path ss later earlier → later < length ss
path_later {ss} {later} {earlier} (direct e) = later_below ss later earlier e
path_later {ss} {later} (through {between} e path) = later_below ss later between e

pub path_reaches : {ss : List Statement} {later earlier : ℕ} → Path ss later earlier → reaches ss later earlier ≡ true
path_reaches {ss} {later} {earlier} path = ((rows_right ss).right later earlier (path_later path)).1 path

-- "Two different statements are independent if no path of dependences joins them."
pub record Apart (ss : List Statement) (s t : ℕ) : Type 0 where
  pub first : s < length ss
  pub second : t < length ss
  pub differ : s ≢ t
  pub no_way : ¬ Path ss s t
  pub no_way_back : ¬ Path ss t s

fails : (a : Bool) → not a ≡ true → ¬ (a ≡ true)
fails a e h = false≢true (sym (not-true a e) ∙ h)

holds_not : (a : Bool) → ¬ (a ≡ true) → not a ≡ true
holds_not true h = absurd (h refl)
holds_not false h = refl

pub independent_apart : (ss : List Statement) (s t : ℕ) → independent ss s t ≡ true → Apart ss s t
unfolding independent
independent_apart ss s t e =
    record {
      first = ltb-true s (length ss) (and_left _ _ e₁);
      second = ltb-true t (length ss) (and_right (ltb s (length ss)) _ e₁);
      differ = λ same. fails (eqb s t) (and_right (ltb s (length ss) && ltb t (length ss)) _ e₂) (eq-eqb s t same);
      no_way = λ path. fails (reaches ss s t) (and_right (ltb s (length ss) && ltb t (length ss) && not (eqb s t)) _ e₃) (path_reaches path);
      no_way_back = λ path. fails (reaches ss t s) (and_right (ltb s (length ss) && ltb t (length ss) && not (eqb s t) && not (reaches ss s t)) _ e) (path_reaches path);
    }
  where
    e₃ : ltb s (length ss) && ltb t (length ss) && not (eqb s t) && not (reaches ss s t) ≡ true
    e₃ = and_left _ _ e

    e₂ : ltb s (length ss) && ltb t (length ss) && not (eqb s t) ≡ true
    e₂ = and_left _ _ e₃

    e₁ : ltb s (length ss) && ltb t (length ss) ≡ true
    e₁ = and_left _ _ e₂

pub apart_independent : (ss : List Statement) (s t : ℕ) → Apart ss s t → independent ss s t ≡ true
unfolding independent
apart_independent ss s t h =
    and_both _ _
    (and_both _ _
    (and_both _ _ (and_both _ _ (lt-ltb s (length ss) h.first) (lt-ltb t (length ss) h.second))
    (holds_not (eqb s t) λ e. h.differ (eqb-true s t e)))
    (holds_not (reaches ss s t) λ e. h.no_way (reaches_path ss s t e)))
    (holds_not (reaches ss t s) λ e. h.no_way_back (reaches_path ss t s e))
