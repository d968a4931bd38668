-- The columns that statements fill by themselves say of each statement what they are to say, and nothing of no statement.
use mathlib.Core.Path.{◌≡◌, refl, sym, ap, ◌∙◌, subst}
use mathlib.Core.Logic.{◌≢◌, ◌⊎◌, inl, inr}
use mathlib.Core.Bool.{true}
use mathlib.Core.List.{List, [], ◌∷◌}
use Prim.Native.Nat.{ℕ, zero, suc, ◌+◌, ◌*◌, ◌≤◌, ◌<◌}
use native.Mathlib.Omega.{arith}
use lib.ListN.{length, get_or, take, replicate, length-take, length-replicate}
use lib.Seq.{get_or-take, take-length}
use borrow.Author.Tests.{lt-ltb, le-ltb}
use Rattle.basics.specs.Lists.{all}
use Rattle.basics.proofs.Counting.{count_up}
use Rattle.basics.proofs.Tests.{below_or_not, equal_or_not}
use Rattle.basics.proofs.Lists.{replicate_at}
use Rattle.basics.proofs.Stores.{stored_length, stored_else, stored_own}
use Rattle.meaning.specs.declared.Statement.{Statement}
use Rattle.meaning.specs.Block.{blank, statement, statement_price}
use Rattle.codes.specs.Codes.{place_code, operand_code, cell_code}
use Rattle.codes.specs.Fitting.{statement_fits}
use Rattle.codes.proofs.Places.{cells_of_place}
use Rattle.codes.proofs.Operands.{cells_of_operand}
use Rattle.codes.proofs.Fits.{destination_fits, left_fits, right_fits}
use Rattle.facts.specs.Facts.{fact_at, state_facts, stated_facts}
use Rattle.facts.specs.Tied.{Stated}

-- what a statement says in each column
abbrev own : ℕ → Statement → ℕ
own zero s = place_code s.destination
own (suc zero) s = operand_code s.left
own (suc (suc zero)) s = operand_code s.right
own (suc (suc (suc zero))) s = 2 * s.operation + cell_code (place_code s.destination)
own (suc (suc (suc (suc zero)))) s =
    cell_code (operand_code s.left) + cell_code (operand_code s.right) + 1 + cell_code (place_code s.destination)
own (suc (suc (suc (suc (suc k))))) s = 0

module _ (i : ℕ) (s : Statement) (facts : List ℕ) (whole : length facts ≡ 512) (low : i < 64) where
  -- five stores, one a column
  abbrev slots : List (ℕ × ℕ)
  slots = (i, own 0 s) ∷ (64 + i, own 1 s) ∷ (128 + i, own 2 s) ∷ (192 + i, own 3 s) ∷ (256 + i, own 4 s) ∷ []

  stated_length : length (state_facts i s facts) ≡ 512
  stated_length = stored_length slots facts ∙ whole

  -- the statement's own facts
  stated_own : (k : ℕ) → k < 5 → get_or (state_facts i s facts) (64 * k + i) 0 ≡ own k s
  stated_own zero h =
      ap (λ (at : ℕ). get_or (state_facts i s facts) at 0) (omega arith)
      ∙ stored_own [] i (own 0 s) ((64 + i, own 1 s) ∷ (128 + i, own 2 s) ∷ (192 + i, own 3 s) ∷ (256 + i, own 4 s) ∷ []) facts 0 (omega arith)
      (omega arith, (omega arith, (omega arith, (omega arith, tt))))
  stated_own (suc zero) h =
      stored_own ((i, own 0 s) ∷ []) (64 + i) (own 1 s) ((128 + i, own 2 s) ∷ (192 + i, own 3 s) ∷ (256 + i, own 4 s) ∷ []) facts 0 (omega arith)
      (omega arith, (omega arith, (omega arith, tt)))
  stated_own (suc (suc zero)) h =
      stored_own ((i, own 0 s) ∷ (64 + i, own 1 s) ∷ []) (128 + i) (own 2 s) ((192 + i, own 3 s) ∷ (256 + i, own 4 s) ∷ []) facts 0 (omega arith)
      (omega arith, (omega arith, tt))
  stated_own (suc (suc (suc zero))) h =
      stored_own ((i, own 0 s) ∷ (64 + i, own 1 s) ∷ (128 + i, own 2 s) ∷ []) (192 + i) (own 3 s) ((256 + i, own 4 s) ∷ []) facts 0 (omega arith)
      (omega arith, tt)
  stated_own (suc (suc (suc (suc zero)))) h =
      stored_own ((i, own 0 s) ∷ (64 + i, own 1 s) ∷ (128 + i, own 2 s) ∷ (192 + i, own 3 s) ∷ []) (256 + i) (own 4 s) [] facts 0 (omega arith) tt
  stated_own (suc (suc (suc (suc (suc k))))) h = absurd (omega arith)

  -- the facts of the others, and the columns that others fill
  stated_others : (k t : ℕ) → t < 64 → t ≢ i → get_or (state_facts i s facts) (64 * k + t) 0 ≡ get_or facts (64 * k + t) 0
  stated_others k t small other =
      stored_else (64 * k + t) slots facts 0 (omega arith, (omega arith, (omega arith, (omega arith, (omega arith, tt)))))

  stated_beyond : (k : ℕ) → 5 ≤ k → get_or (state_facts i s facts) (64 * k + i) 0 ≡ get_or facts (64 * k + i) 0
  stated_beyond k h = stored_else (64 * k + i) slots facts 0 (omega arith, (omega arith, (omega arith, (omega arith, (omega arith, tt)))))

own_beyond : (k : ℕ) (s : Statement) → 5 ≤ k → own k s ≡ 0
own_beyond zero s h = absurd (omega arith)
own_beyond (suc zero) s h = absurd (omega arith)
own_beyond (suc (suc zero)) s h = absurd (omega arith)
own_beyond (suc (suc (suc zero))) s h = absurd (omega arith)
own_beyond (suc (suc (suc (suc zero)))) s h = absurd (omega arith)
own_beyond (suc (suc (suc (suc (suc k))))) s h = refl

-- the table when the first j statements have been met
record Filled (ss : List Statement) (j : ℕ) (facts : List ℕ) : Type 0 where
  whole : length facts ≡ 512
  met : (k t : ℕ) → t < 64 → t < j → get_or facts (64 * k + t) 0 ≡ own k (statement ss t)
  waiting : (k t : ℕ) → t < 64 → j ≤ t → get_or facts (64 * k + t) 0 ≡ 0

module _ (ss : List Statement) (j : ℕ) (facts : List ℕ) (low : j < 64) (f : Filled ss j facts) where
  abbrev next : List ℕ
  next = state_facts j (statement ss j) facts

  next_own : (k : ℕ) → get_or next (64 * k + j) 0 ≡ own k (statement ss j)
  next_own k = by (below_or_not k 5)
    where
      by : (k < 5) ⊎ (5 ≤ k) → get_or next (64 * k + j) 0 ≡ own k (statement ss j)
      by (inl h) = stated_own j (statement ss j) facts f.whole low k h
      by (inr h) =
          stated_beyond j (statement ss j) facts f.whole low k h ∙ f.waiting k j low (omega arith) ∙ sym (own_beyond k (statement ss j) h)

  next_met : (k t : ℕ) → t < 64 → t < j + 1 → get_or next (64 * k + t) 0 ≡ own k (statement ss t)
  next_met k t small below = by (equal_or_not t j)
    where
      by : (t ≡ j) ⊎ (t ≢ j) → get_or next (64 * k + t) 0 ≡ own k (statement ss t)
      by (inl e) = subst (λ (u : ℕ). get_or next (64 * k + u) 0 ≡ own k (statement ss u)) (sym e) (next_own k)
      by (inr other) = stated_others j (statement ss j) facts f.whole low k t small other ∙ f.met k t small (omega arith)

  next_waiting : (k t : ℕ) → t < 64 → j + 1 ≤ t → get_or next (64 * k + t) 0 ≡ 0
  next_waiting k t small above =
      stated_others j (statement ss j) facts f.whole low k t small (λ (e : t ≡ j). omega arith) ∙ f.waiting k t small (omega arith)

  next_filled : Filled ss (j + 1) next
  next_filled = record { whole = stated_length j (statement ss j) facts f.whole low; met = next_met; waiting = next_waiting }

all_filled : (ss : List Statement) (n : ℕ) (facts : List ℕ) → n ≤ 64 → Filled ss 0 facts → Filled ss n (stated_facts ss n facts)
unfolding stated_facts
all_filled ss n facts small start =
    count_up (Filled ss) (λ i. state_facts i (statement ss i)) n facts start (λ j t below f. next_filled ss j t (omega arith) f)

-- a fact of one of the 64 statements is a word of the table, and others have none
pub fact_within : (facts : List ℕ) (column s : ℕ) → s < 64 → fact_at facts column s ≡ get_or facts (column + s) 0
fact_within facts column s small = rw (lt-ltb s 64 small)

pub fact_past : (facts : List ℕ) (column s : ℕ) → 64 ≤ s → fact_at facts column s ≡ 0
fact_past facts column s large = rw (le-ltb s 64 large)

-- the statements are the first n of the slots
module _ (slots : List Statement) (n : ℕ) (few : n ≤ 64) (there : n ≤ length slots) (fit : all statement_fits (take n slots) ≡ true)
    (facts : List ℕ) (f : Filled slots n facts) where
  abbrev ss : List Statement
  ss = take n slots

  so_many : length ss ≡ n
  so_many = omega (arith, length-take n slots)

  says : (k s : ℕ) → s < length ss → fact_at facts (64 * k) s ≡ own k (statement ss s)
  says k s below =
      let low : s < n = omega (arith, so_many) in
      fact_within facts (64 * k) s (omega arith) ∙ f.met k s (omega arith) low ∙ ap (own k) (sym (get_or-take n slots s blank low))

  nothing_beyond : (k s : ℕ) → k < 8 → length ss ≤ s → fact_at facts (64 * k) s ≡ 0
  nothing_beyond k s h above = by (below_or_not s 64)
    where
      by : (s < 64) ⊎ (64 ≤ s) → fact_at facts (64 * k) s ≡ 0
      by (inl small) = fact_within facts (64 * k) s small ∙ f.waiting k s small (omega (arith, so_many))
      by (inr large) = fact_past facts (64 * k) s large

  filled_stated : Stated ss facts
  filled_stated =
      record {
        destinations = says 0;
        lefts = says 1;
        rights = says 2;
        sorts = λ s below. says 3 s below ∙ ap (λ (c : ℕ). 2 * (statement ss s).operation + c) (sym (cells_of_place (statement ss s).destination (destination_fits ss fit s below)));
        prices = λ s below. says 4 s below ∙ sym (price_cells s below);
        beyond = nothing_beyond;
      }
    where
      price_cells : (s : ℕ) → s < length ss → statement_price (statement ss s) ≡ own 4 (statement ss s)
      price_cells s below =
          rw (
            cells_of_operand (statement ss s).left (left_fits ss fit s below),
            cells_of_operand (statement ss s).right (right_fits ss fit s below),
            cells_of_place (statement ss s).destination (destination_fits ss fit s below),
          )

-- the table that is filled from nothing
pub stated_facts_lem : (slots : List Statement) (n : ℕ) → n ≤ 64 → n ≤ length slots → all statement_fits (take n slots) ≡ true
    → Stated (take n slots) (stated_facts slots n (replicate 512 0))
stated_facts_lem slots n few there fit =
    filled_stated slots n few there fit _ (all_filled slots n _ few (nothing_yet 512 (length-replicate {A = ℕ} 512 0)))
  where
    nothing_yet : (m : ℕ) → length {A = ℕ} (replicate m 0) ≡ 512 → Filled slots 0 (replicate m 0)
    nothing_yet m whole = record { whole = whole; met = λ k t small below. absurd (omega arith); waiting = λ k t small h. replicate_at m (64 * k + t) 0 }

pub statements_stated : (ss : List Statement) → length ss ≤ 64 → all statement_fits ss ≡ true → Stated ss (stated_facts ss (length ss) (replicate 512 0))
statements_stated ss few fit =
    subst (λ (declared : List Statement). Stated declared (stated_facts ss (length ss) (replicate 512 0))) (take-length ss)
    (stated_facts_lem ss (length ss) few (omega arith) (rw (take-length ss) fit))
