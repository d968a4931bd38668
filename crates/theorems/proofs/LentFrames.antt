-- What footprints mean for lent contents: a list leaves every other cell as it was lent, and what it leaves depends on nothing but the
-- variables and the cells that it reads. And what lies outside the block's footprint lies outside the list's.
use mathlib.Core.Path.{◌≡◌, refl, sym, ap, ◌∙◌}
use mathlib.Core.Logic.{◌⊎◌, inl, inr}
use mathlib.Core.Bool.{Bool, true, false, false≢true}
use mathlib.Core.List.{List, [], ◌∷◌}
use Prim.Native.Nat.{ℕ, ◌<◌}
use lib.Dec.{ltb}
use lib.ListN.{length, get_or}
use Rattle.basics.specs.Choice.{pick}
use Rattle.basics.proofs.Tests.{and_left, and_right, or_either}
use Rattle.meaning.specs.declared.Place.{Place}
use Rattle.meaning.specs.declared.Place.TheVariants.{Variable, Cell}
use Rattle.meaning.specs.Block.{Block, same}
use Rattle.meaning.specs.Machine.{Contents, cell_at, right_size, run_block}
use Rattle.meaning.specs.List.{Instruction, allowed}
use Rattle.meaning.specs.Card.{run_list}
use Rattle.theorems.specs.Memory.{Memory, view}
use Rattle.theorems.specs.Footprint.{block_reads, block_writes, list_reads, list_writes, is_in}
use Rattle.theorems.proofs.Readable.{Readable}
use Rattle.theorems.proofs.Puts.{same_true}
use Rattle.theorems.proofs.View.{cell_seen, variables_faithful, view_block}
use Rattle.theorems.proofs.Mirror.{view_list, size_list}
use Rattle.theorems.proofs.Footprint.{within, Inside}
use Rattle.theorems.proofs.Frames.{list_frame, block_frame, list_depends}

-- one of these that are all among those is among those
among : (ps qs : List Place) (p : Place) → within ps qs ≡ true → is_in ps p ≡ true → is_in qs p ≡ true
among [] qs p inside e = absurd (false≢true e)
among (q ∷ ps) qs p inside e = by (or_either (same p q) (is_in ps p) e) (among ps qs p (and_right (is_in qs q) _ inside))
  where
    by : (same p q ≡ true) ⊎ (is_in ps p ≡ true) → (is_in ps p ≡ true → is_in qs p ≡ true) → is_in qs p ≡ true
    by (inl first) later = ap (is_in qs) (same_true p q first) ∙ and_left (is_in qs q) _ inside
    by (inr rest) later = later rest

outside : (ps qs : List Place) (p : Place) → within ps qs ≡ true → is_in qs p ≡ false → is_in ps p ≡ false
outside ps qs p inside e = by (is_in ps p) refl
  where
    by : (t : Bool) → is_in ps p ≡ t → t ≡ false
    by true h = sym (among ps qs p inside h) ∙ e
    by false h = refl

-- A cell that the block does not write the list does not write; one that it does not read the list does not read.
pub not_written : (b : Block) (list : List Instruction) (p : Place) → Inside b list → is_in (block_writes b.statements) p ≡ false → is_in (list_writes b.statements list) p ≡ false
not_written b list p inside e = outside (list_writes b.statements list) (block_writes b.statements) p inside.writes e

pub not_read : (b : Block) (list : List Instruction) (p : Place) → Inside b list → is_in (block_reads b.statements) p ≡ false → is_in (list_reads b.statements list) p ≡ false
not_read b list p inside e = outside (list_reads b.statements list) (block_reads b.statements) p inside.reads e

module _ (b : Block) (readable : Readable b) where
  -- A cell that is not written is left as it was lent, by a list that is allowed and by the block.
  pub list_leaves : (list : List Instruction) (lent : Contents) → allowed b [] list ≡ true → right_size b lent ≡ true → (a i : ℕ)
      → a < length b.lengths → i < get_or b.lengths a 0 → is_in (list_writes b.statements list) (Cell a i) ≡ false
      → get_or (run_list b list lent).cells (cell_at b.lengths a i) 0 ≡ get_or lent.cells (cell_at b.lengths a i) 0
  list_leaves list lent may right a i array index e =
      sym (cell_seen b (run_list b list lent) a i array index)
      ∙ ap (λ (m : Memory). m (Cell a i)) (view_list b readable list lent may right)
      ∙ list_frame b.statements list (view b lent) a i e
      ∙ cell_seen b lent a i array index

  pub block_leaves : (lent : Contents) → right_size b lent ≡ true → (a i : ℕ)
      → a < length b.lengths → i < get_or b.lengths a 0 → is_in (block_writes b.statements) (Cell a i) ≡ false
      → get_or (run_block b lent).cells (cell_at b.lengths a i) 0 ≡ get_or lent.cells (cell_at b.lengths a i) 0
  block_leaves lent right a i array index e =
      sym (cell_seen b (run_block b lent) a i array index)
      ∙ ap (λ (m : Memory). m (Cell a i)) (view_block b lent readable right)
      ∙ block_frame b.statements (view b lent) a i e
      ∙ cell_seen b lent a i array index

  -- Two contents with the same variables that agree on the cells that the list reads end with the same variables, and alike in the cells that
  -- it writes.
  module _ (list : List Instruction) (may : allowed b [] list ≡ true) (one other : Contents) (right : right_size b one ≡ true) (right' : right_size b other ≡ true)
      (variables : one.variables ≡ other.variables)
      (cells : (p : Place) → is_in (list_reads b.statements list) p ≡ true → view b one p ≡ view b other p) where
    alike : (p : Place) → (view b one p ≡ view b other p) ⊎ (is_in (list_writes b.statements list) p ≡ true)
        → view b (run_list b list one) p ≡ view b (run_list b list other) p
    alike p h =
        ap (λ (m : Memory). m p) (view_list b readable list one may right)
        ∙ list_depends b (λ q. view b one q ≡ view b other q) variable_same list (view b one) (view b other) may cells (λ q e. e) p h
        ∙ sym (ap (λ (m : Memory). m p) (view_list b readable list other may right'))
      where
        variable_same : (v : ℕ) → view b one (Variable v) ≡ view b other (Variable v)
        variable_same v = ap (λ (values : List ℕ). pick (ltb v b.variables) (get_or values v 0) 0) variables

    pub variables_alike : (run_list b list one).variables ≡ (run_list b list other).variables
    variables_alike =
        variables_faithful b (run_list b list one) (run_list b list other) (size_list b readable list one may right) (size_list b readable list other may right')
        (λ v below. alike (Variable v) (inl (ap (λ (values : List ℕ). pick (ltb v b.variables) (get_or values v 0) 0) variables)))

    pub cells_alike : (p : Place) → is_in (list_writes b.statements list) p ≡ true → view b (run_list b list one) p ≡ view b (run_list b list other) p
    cells_alike p e = alike p (inr e)
