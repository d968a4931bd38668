-- The contents that a caller lends are a memory: for a block that reads and contents of the right size, a statement and the block run on the
-- one as on the other, and no variable and no cell is lost.
use mathlib.Core.Path.{◌≡◌, refl, sym, ap, ap₂, fun_ext, ◌∙◌}
use mathlib.Core.Bool.{Bool, true, false, ◌&&◌}
use mathlib.Core.List.{List, [], ◌∷◌}
use Prim.Native.Nat.{ℕ, ◌<◌}
use native.Mathlib.Omega.{arith}
use lib.Dec.{eqb, ltb}
use lib.ListN.{length, get_or, set, length-set}
use lib.Seq.{get_or-set_same, get_or-set_other, ext_get_or}
use borrow.Author.Tests.{ltb-true, lt-ltb, eqb-true, eqb-false, eq-eqb}
use Rattle.basics.specs.Choice.{pick}
use Rattle.basics.specs.Lists.{all, each, sum}
use Rattle.basics.proofs.Tests.{and_left, and_right, and_both, same_test}
use Rattle.basics.proofs.Parts.{all_first, all_others}
use Rattle.meaning.specs.declared.Place.{Place}
use Rattle.meaning.specs.declared.Place.TheVariants.{Variable, Cell}
use Rattle.meaning.specs.declared.Operand.{Operand}
use Rattle.meaning.specs.declared.Operand.TheVariants.{Nothing, Constant, Held}
use Rattle.meaning.specs.declared.Statement.{Statement}
use Rattle.meaning.specs.Block.{Block, same, declares_place, declares_operand, declares_statement}
use Rattle.meaning.specs.Machine.{Contents, cell_at, right_size, operate, fetch, store, run_statement, run_block}
use Rattle.theorems.specs.Memory.{Memory, put, value, ran, view}
use Rattle.theorems.proofs.Readable.{Readable}
use Rattle.theorems.proofs.Puts.{same_true}
use Rattle.theorems.proofs.Cells.{cell_below, one_cell, At, cell_at_lem}

-- a list after a store within it, at any number
stored : (l : List ℕ) (i j n : ℕ) → i < length l → get_or (set l i n) j 0 ≡ pick (eqb i j) n (get_or l j 0)
stored l i j n below = go (eqb i j) refl
  where
    go : (test : Bool) → eqb i j ≡ test → get_or (set l i n) j 0 ≡ pick test n (get_or l j 0)
    go true e = ap (λ (k : ℕ). get_or (set l i n) k 0) (sym (eqb-true i j e)) ∙ get_or-set_same l i n 0 below
    go false e = get_or-set_other l i j n 0 λ f. eqb-false i j e (sym f)

-- both parts of the right size
pub variables_sized : (b : Block) (lent : Contents) → right_size b lent ≡ true → length lent.variables ≡ b.variables
variables_sized b lent e = eqb-true _ _ (and_left _ _ e)

cells_sized : (b : Block) (lent : Contents) → right_size b lent ≡ true → length lent.cells ≡ sum b.lengths
cells_sized b lent e = eqb-true _ _ (and_right (eqb (length lent.variables) b.variables) _ e)

-- what is declared of a cell
cell_declared : (b : Block) (a i : ℕ) → declares_place b.variables b.lengths (Cell a i) ≡ true → (a < length b.lengths) × (i < get_or b.lengths a 0)
cell_declared b a i e = (ltb-true _ _ (and_left _ _ e), ltb-true _ _ (and_right (ltb a (length b.lengths)) _ e))

-- one place seen after a store: where it is the one stored to, it is declared
seen : (declares own : Bool) (after before n : ℕ) → (own ≡ true → declares ≡ true) → (declares ≡ true → after ≡ pick own n before)
    → pick declares after 0 ≡ pick own n (pick declares before 0)
seen true own after before n h e = e refl
seen false true after before n h e = absurd (omega (arith, eqb-true 0 1 (h refl)))
seen false false after before n h e = refl

-- two declared cells are one where they stand at one position
one_position : (b : Block) (a i c j : ℕ) → declares_place b.variables b.lengths (Cell a i) ≡ true → declares_place b.variables b.lengths (Cell c j) ≡ true
    → eqb (cell_at b.lengths a i) (cell_at b.lengths c j) ≡ same (Cell a i) (Cell c j)
one_position b a i c j d e =
    same_test _ _
    (λ f.
    let both = one_cell b.lengths a i c j (cell_declared b a i d).0 (cell_declared b a i d).1 (cell_declared b c j e).0 (cell_declared b c j e).1 (eqb-true _ _ f) in
    and_both _ _ (eq-eqb a c both.0) (eq-eqb i j both.1))
    (λ f. eq-eqb _ _ (ap₂ (cell_at b.lengths) (eqb-true a c (and_left _ _ f)) (eqb-true i j (and_right (eqb a c) _ f))))

module _ (b : Block) (lent : Contents) (right : right_size b lent ≡ true) where
  cell_inside : (a i : ℕ) → declares_place b.variables b.lengths (Cell a i) ≡ true → cell_at b.lengths a i < length lent.cells
  cell_inside a i d =
      let h : cell_at b.lengths a i < sum b.lengths = cell_below b.lengths a i (cell_declared b a i d).0 (cell_declared b a i d).1 in
      rw (cells_sized b lent right) h

  -- a store to a declared place is a put
  pub view_store : (p : Place) (n : ℕ) → declares_place b.variables b.lengths p ≡ true
      → view b (store b.lengths p n lent) ≡ put (view b lent) p n
  view_store p n declared = fun_ext (λ q. at p q declared)
    where
      at : (p q : Place) → declares_place b.variables b.lengths p ≡ true → view b (store b.lengths p n lent) q ≡ put (view b lent) p n q
      at (Variable v) (Variable w) d =
          seen (ltb w b.variables) (eqb v w) _ _ n
          (λ e. ap (λ (k : ℕ). ltb k b.variables) (sym (eqb-true v w e)) ∙ d)
          (λ e. stored lent.variables v w n (omega (arith, ltb-true v b.variables d, variables_sized b lent right)))
      at (Variable v) (Cell a i) d = refl
      at (Cell a i) (Variable w) d = refl
      at (Cell a i) (Cell c j) d =
          seen (declares_place b.variables b.lengths (Cell c j)) (same (Cell a i) (Cell c j)) _ _ n
          (λ e. ap (declares_place b.variables b.lengths) (sym (same_true (Cell a i) (Cell c j) e)) ∙ d)
          (λ e.
          stored lent.cells (cell_at b.lengths a i) (cell_at b.lengths c j) n (cell_inside a i d)
          ∙ ap (λ (test : Bool). pick test n (get_or lent.cells (cell_at b.lengths c j) 0)) (one_position b a i c j d e))

-- the size stays right
pub size_store : (b : Block) (lent : Contents) (p : Place) (n : ℕ) → right_size b lent ≡ true → right_size b (store b.lengths p n lent) ≡ true
size_store b lent (Variable v) n right = rw length-set right
size_store b lent (Cell a i) n right = rw length-set right

-- an operand's value, a statement and many of them
pub view_value : (b : Block) (lent : Contents) (o : Operand) → declares_operand b.variables b.lengths o ≡ true → value (view b lent) o ≡ fetch b.lengths lent o
view_value b lent Nothing declared = refl
view_value b lent (Constant c) declared = refl
view_value b lent (Held p) declared = rw declared

pub view_ran : (b : Block) (s : Statement) (lent : Contents) → declares_statement b.variables b.lengths s ≡ true → right_size b lent ≡ true
    → view b (run_statement b.lengths s lent) ≡ ran s (view b lent)
unfolding run_statement
view_ran b s lent declared right =
    view_store b lent right s.destination _ (and_left _ _ (and_left _ _ declared))
    ∙ ap (put (view b lent) s.destination)
    (sym (ap₂ (operate s.operation) (view_value b lent s.left left_declared) (view_value b lent s.right right_declared)))
  where
    left_declared : declares_operand b.variables b.lengths s.left ≡ true
    left_declared = and_right (declares_place b.variables b.lengths s.destination) _ (and_left _ _ declared)

    right_declared : declares_operand b.variables b.lengths s.right ≡ true
    right_declared =
        and_right (declares_place b.variables b.lengths s.destination && declares_operand b.variables b.lengths s.left) _ declared

pub size_ran : (b : Block) (s : Statement) (lent : Contents) → right_size b lent ≡ true → right_size b (run_statement b.lengths s lent) ≡ true
unfolding run_statement
size_ran b s lent right = size_store b lent s.destination _ right

pub size_each : (b : Block) (ss : List Statement) (lent : Contents) → right_size b lent ≡ true → right_size b (each (run_statement b.lengths) ss lent) ≡ true
size_each b [] lent right = right
size_each b (s ∷ ss) lent right = size_each b ss (run_statement b.lengths s lent) (size_ran b s lent right)

view_each : (b : Block) (ss : List Statement) (lent : Contents) → all (declares_statement b.variables b.lengths) ss ≡ true → right_size b lent ≡ true
    → view b (each (run_statement b.lengths) ss lent) ≡ each ran ss (view b lent)
view_each b [] lent declared right = refl
view_each b (s ∷ ss) lent declared right =
    view_each b ss (run_statement b.lengths s lent) (all_others (declares_statement b.variables b.lengths) s ss declared) (size_ran b s lent right)
    ∙ ap (each ran ss) (view_ran b s lent (all_first (declares_statement b.variables b.lengths) s ss declared) right)

-- Two contents of the right size with equal views are equal: in all variables, and in all cells.
pub variable_seen : (b : Block) (lent : Contents) (v : ℕ) → v < b.variables → view b lent (Variable v) ≡ get_or lent.variables v 0
variable_seen b lent v below = rw (lt-ltb v b.variables below)

pub cell_seen : (b : Block) (lent : Contents) (a i : ℕ) → a < length b.lengths → i < get_or b.lengths a 0
    → view b lent (Cell a i) ≡ get_or lent.cells (cell_at b.lengths a i) 0
cell_seen b lent a i h k = rw (lt-ltb a (length b.lengths) h, lt-ltb i (get_or b.lengths a 0) k)

pub variables_faithful : (b : Block) (one other : Contents) → right_size b one ≡ true → right_size b other ≡ true
    → ((v : ℕ) → v < b.variables → view b one (Variable v) ≡ view b other (Variable v)) → one.variables ≡ other.variables
variables_faithful b one other right right' h =
    ext_get_or 0 one.variables other.variables (variables_sized b one right ∙ sym (variables_sized b other right'))
    λ v below.
    let below' : v < b.variables = omega (arith, variables_sized b one right) in
    sym (variable_seen b one v below') ∙ h v below' ∙ variable_seen b other v below'

pub cells_faithful : (b : Block) (one other : Contents) → right_size b one ≡ true → right_size b other ≡ true
    → ((a i : ℕ) → view b one (Cell a i) ≡ view b other (Cell a i)) → one.cells ≡ other.cells
cells_faithful b one other right right' h =
    ext_get_or 0 one.cells other.cells (cells_sized b one right ∙ sym (cells_sized b other right'))
    λ k below. by_cell k (cell_at_lem b.lengths k (omega (arith, cells_sized b one right)))
  where
    by_cell : (k : ℕ) → At b.lengths k → get_or one.cells k 0 ≡ get_or other.cells k 0
    by_cell k at =
        rw (← at.position)
        (sym (cell_seen b one at.array at.index at.declared at.inside)
        ∙ h at.array at.index
        ∙ cell_seen b other at.array at.index at.declared at.inside)

-- So contents of the right size that are one memory are the same.
pub view_faithful : (b : Block) (one other : Contents) → right_size b one ≡ true → right_size b other ≡ true → view b one ≡ view b other → one ≡ other
view_faithful b one other right right' e =
    λ i. record { variables = variables_same i; cells = cells_same i }
  where
    variables_same : one.variables ≡ other.variables
    variables_same = variables_faithful b one other right right' λ v below. ap (λ (m : Memory). m (Variable v)) e

    cells_same : one.cells ≡ other.cells
    cells_same = cells_faithful b one other right right' λ a i. ap (λ (m : Memory). m (Cell a i)) e

-- For a block that reads and contents of the right size, running the block is running its statements on the memory; and the size stays right.
pub view_block : (b : Block) (lent : Contents) → Readable b → right_size b lent ≡ true → view b (run_block b lent) ≡ each ran b.statements (view b lent)
unfolding run_block
view_block b lent h right = view_each b b.statements lent h.declares right

pub size_block : (b : Block) (lent : Contents) → right_size b lent ≡ true → right_size b (run_block b lent) ≡ true
unfolding run_block
size_block b lent right = size_each b b.statements lent right
