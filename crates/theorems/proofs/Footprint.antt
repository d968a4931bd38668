-- The list's footprint is within the block's: it reads only cells that the block reads, and writes only cells that the block writes.
use mathlib.Core.Path.{◌≡◌, refl, sym, ap, subst, ◌∙◌}
use mathlib.Core.Bool.{Bool, true}
use mathlib.Core.Option.{Option, none, some}
use mathlib.Core.List.{List, [], ◌∷◌, ◌++◌, map, append_assoc, append-nil}
use Prim.Native.Nat.{ℕ, zero, suc, ◌+◌, ◌≤◌, ◌<◌}
use native.Mathlib.Omega.{arith}
use lib.Dec.{ltb}
use lib.ListN.{length}
use borrow.Author.Tests.{ltb-true}
use Rattle.basics.specs.Lists.{all, flat}
use Rattle.basics.proofs.Tests.{and_left, and_right, and_both, or_left}
use Rattle.basics.proofs.Parts.{all_append, all_ahead, all_behind, pick_holds}
use Rattle.basics.proofs.Finding.{all_implies}
use Rattle.meaning.specs.declared.Place.{Place}
use Rattle.meaning.specs.declared.Place.TheVariants.{Variable, Cell}
use Rattle.meaning.specs.declared.Operand.{Operand}
use Rattle.meaning.specs.declared.Operand.TheVariants.{Nothing, Constant, Held}
use Rattle.meaning.specs.declared.Statement.{Statement}
use Rattle.meaning.specs.Block.{Block, block_price, statement, same, Position, left, right, operand}
use Rattle.meaning.specs.List.{Instruction, S, O, X, list_price}
use Rattle.meaning.specs.Card.{row}
use Rattle.meaning.specs.Emission.{Emitted, written, row_start, next, destinations, operation_of, emission}
use Rattle.meaning.specs.Choice.{scheduled_units, packed_list, plain_from, plain_list, chosen_list}
use Rattle.theorems.specs.Units.{Units}
use Rattle.theorems.specs.Steps.{has_operand, Tuple, Load, in_row, constants, gathered, Reached, start, extracts, loads, single, pack, stores_from, stores}
use Rattle.theorems.specs.Footprint.{cell_of, cell_read, statement_reads, statement_writes, instruction_reads, instruction_writes, block_reads, block_writes, list_reads, list_writes, is_in}
use Rattle.theorems.proofs.Puts.{same_self}
use Rattle.theorems.proofs.Rows.{row_tuple}
use Rattle.theorems.proofs.Named.{tuple_all, in_block}
use Rattle.theorems.proofs.Steps.{emission_steps}
use Rattle.theorems.proofs.Frames.{in_first, in_second}

-- these places are all among those
abbrev pub within : List Place → List Place → Bool
within ps qs = all (is_in qs) ps

within_self : (ps : List Place) → within ps ps ≡ true
within_self [] = refl
within_self (p ∷ ps) =
    and_both (is_in (p ∷ ps) p) _ (or_left (same p p) _ (same_self p))
    (all_implies (is_in ps) (is_in (p ∷ ps)) (λ q e. in_second (p ∷ []) ps q e) ps (within_self ps))

within_both : (ps qs all_of : List Place) → within ps all_of ≡ true → within qs all_of ≡ true → within (ps ++ qs) all_of ≡ true
within_both ps qs all_of e f = all_append (is_in all_of) ps qs e f

within_more : (ps qs more : List Place) → within ps qs ≡ true → within ps (qs ++ more) ≡ true
within_more ps qs more e = all_implies (is_in qs) (is_in (qs ++ more)) (λ p h. in_first qs more p h) ps e

within_behind : (ps more qs : List Place) → within ps qs ≡ true → within ps (more ++ qs) ≡ true
within_behind ps more qs e = all_implies (is_in qs) (is_in (more ++ qs)) (λ p h. in_second more qs p h) ps e

-- what one statement has, the block has
one_of_all : (f : Statement → List Place) (ss : List Statement) (s : ℕ) → s < length ss → within (f (statement ss s)) (flat (map f ss)) ≡ true
one_of_all f [] s below = absurd (omega arith)
one_of_all f (x ∷ ss) zero below = within_more (f x) (f x) (flat (map f ss)) (within_self (f x))
one_of_all f (x ∷ ss) (suc s) below = within_behind (f (statement ss s)) (f x) (flat (map f ss)) (one_of_all f ss s (omega arith))

module _ (ss : List Statement) where
  -- an operand of the block
  operand_read : (position : Position) (s : ℕ) → has_operand ss position s ≡ true → within (cell_read (operand position (statement ss s))) (block_reads ss) ≡ true
  operand_read left s e =
      all_ahead (is_in (block_reads ss)) (cell_read (statement ss s).left) (cell_read (statement ss s).right) (one_of_all statement_reads ss s (in_block ss left s e))
  operand_read right s e =
      all_behind (is_in (block_reads ss)) (cell_read (statement ss s).left) (cell_read (statement ss s).right) (one_of_all statement_reads ss s (in_block ss right s e))

  operands_read : (os : List Operand) → all (λ o. within (cell_read o) (block_reads ss)) os ≡ true → within (flat (map cell_read os)) (block_reads ss) ≡ true
  operands_read [] e = refl
  operands_read (o ∷ os) e =
      within_both (cell_read o) (flat (map cell_read os)) (block_reads ss) (and_left (within (cell_read o) (block_reads ss)) _ e)
      (operands_read os (and_right (within (cell_read o) (block_reads ss)) _ e))

  row_cells : (k a i : ℕ) → flat (map cell_read (map Held (row k a i))) ≡ row k a i
  row_cells zero a i = refl
  row_cells (suc k) a i = ap (λ (rest : List Place). Cell a i ∷ rest) (row_cells k a (i + 1))

  tuple_read : (tuple : List Operand) → Tuple ss tuple → within (flat (map cell_read tuple)) (block_reads ss) ≡ true
  tuple_read tuple t = operands_read tuple (tuple_all ss (λ o. within (cell_read o) (block_reads ss)) tuple operand_read t)

  load_reads : (e : Emitted) (tuple : List Operand) (x : Instruction) → Tuple ss tuple → Load e tuple x → within (instruction_reads ss x) (block_reads ss) ≡ true
  load_reads e tuple x t (in_row beginning h) =
      subst (λ (ps : List Place). within ps (block_reads ss) ≡ true)
      (ap (λ (os : List Operand). flat (map cell_read os)) (row_tuple tuple beginning h).is ∙ row_cells (length tuple) beginning.0 beginning.1)
      (tuple_read tuple t)
  load_reads e tuple x t (constants cs h) = refl
  load_reads e tuple x t (gathered h) = tuple_read tuple t

  load_writes : (e : Emitted) (tuple : List Operand) (x : Instruction) → Load e tuple x → within (instruction_writes ss x) (block_writes ss) ≡ true
  load_writes e tuple x (in_row beginning h) = refl
  load_writes e tuple x (constants cs h) = refl
  load_writes e tuple x (gathered h) = refl

  -- a pack's destinations
  destinations_written : (unit : List ℕ) → all (λ s. ltb s (length ss)) unit ≡ true → within (flat (map cell_read (destinations ss unit))) (block_writes ss) ≡ true
  destinations_written [] e = refl
  destinations_written (s ∷ unit) e =
      within_both (cell_of (statement ss s).destination) (flat (map cell_read (destinations ss unit))) (block_writes ss)
      (one_of_all statement_writes ss s (ltb-true s (length ss) (and_left (ltb s (length ss)) _ e)))
      (destinations_written unit (and_right (ltb s (length ss)) _ e))

  stores_cells : (r lane : ℕ) (os : List Operand) → list_writes ss (stores_from r lane os) ≡ flat (map cell_read os)
  stores_cells r lane [] = refl
  stores_cells r lane (Nothing ∷ os) = stores_cells r (lane + 1) os
  stores_cells r lane (Constant c ∷ os) = stores_cells r (lane + 1) os
  stores_cells r lane (Held (Variable v) ∷ os) = stores_cells r (lane + 1) os
  stores_cells r lane (Held (Cell a i) ∷ os) = ap (λ (rest : List Place). Cell a i ∷ rest) (stores_cells r (lane + 1) os)

  stores_read_none : (r lane : ℕ) (os : List Operand) → list_reads ss (stores_from r lane os) ≡ []
  stores_read_none r lane [] = refl
  stores_read_none r lane (Nothing ∷ os) = stores_read_none r (lane + 1) os
  stores_read_none r lane (Constant c ∷ os) = stores_read_none r (lane + 1) os
  stores_read_none r lane (Held (Variable v) ∷ os) = stores_read_none r (lane + 1) os
  stores_read_none r lane (Held (Cell a i) ∷ os) = stores_read_none r (lane + 1) os

  stored_cells : (r : ℕ) (tuple : List Operand) → list_writes ss (stores r tuple (row_start tuple)) ≡ flat (map cell_read tuple)
  stored_cells r tuple = by (row_start tuple) refl
    where
      by : (found : Option (ℕ × ℕ)) → row_start tuple ≡ found → list_writes ss (stores r tuple found) ≡ flat (map cell_read tuple)
      by none e = stores_cells r 0 tuple
      by (some beginning) e =
          append-nil (row (length tuple) beginning.0 beginning.1)
          ∙ sym (ap (λ (os : List Operand). flat (map cell_read os)) (row_tuple tuple beginning e).is ∙ row_cells (length tuple) beginning.0 beginning.1)

  stored_read_none : (r : ℕ) (tuple : List Operand) (found : Option (ℕ × ℕ)) → list_reads ss (stores r tuple found) ≡ []
  stored_read_none r tuple none = stores_read_none r 0 tuple
  stored_read_none r tuple (some beginning) = refl

  -- one list behind another
  flat_both : (f : Instruction → List Place) (list more : List Instruction) → flat (map f (list ++ more)) ≡ flat (map f list) ++ flat (map f more)
  flat_both f [] more = refl
  flat_both f (x ∷ list) more = ap (λ (rest : List Place). f x ++ rest) (flat_both f list more) ∙ sym (append_assoc (f x) (flat (map f list)) (flat (map f more)))

  behind_within : (f : Instruction → List Place) (bound : List Place) (list more : List Instruction) → within (flat (map f list)) bound ≡ true → within (flat (map f more)) bound ≡ true
      → within (flat (map f (list ++ more))) bound ≡ true
  behind_within f bound list more e h =
      ap (λ (ps : List Place). within ps bound) (flat_both f list more) ∙ within_both (flat (map f list)) (flat (map f more)) bound e h

  one_within : (f : Instruction → List Place) (bound : List Place) (x : Instruction) → within (f x) bound ≡ true → within (flat (map f (x ∷ []))) bound ≡ true
  one_within f bound x e = within_both (f x) [] bound e refl

  -- along all steps
  reads_within : {n : ℕ} {units : List (List ℕ)} {e : Emitted} → Reached ss n units e → within (list_reads ss e.instructions) (block_reads ss) ≡ true
  unfolding written
  reads_within start = refl
  reads_within (extracts {e = e} v h found r) =
      behind_within (instruction_reads ss) (block_reads ss) e.instructions (X h.register h.lane v ∷ []) (reads_within r) refl
  reads_within (loads {e = e} tuple x t l r) =
      behind_within (instruction_reads ss) (block_reads ss) e.instructions (x ∷ []) (reads_within r)
      (one_within (instruction_reads ss) (block_reads ss) x (load_reads e tuple x t l))
  reads_within (single {e = e} s below ml mr r) =
      behind_within (instruction_reads ss) (block_reads ss) e.instructions (S s ∷ []) (reads_within r)
      (one_within (instruction_reads ss) (block_reads ss) (S s) (one_of_all statement_reads ss s below))
  reads_within (pack {e = e} unit ra rb p two hl hr r) =
      let o = O (next e) (operation_of ss unit) (length unit) ra rb in
      let kept = stores (next e) (destinations ss unit) (row_start (destinations ss unit)) in
      behind_within (instruction_reads ss) (block_reads ss) (e.instructions ++ o ∷ []) kept
      (behind_within (instruction_reads ss) (block_reads ss) e.instructions (o ∷ []) (reads_within r) refl)
      (ap (λ (ps : List Place). within ps (block_reads ss)) (stored_read_none (next e) (destinations ss unit) (row_start (destinations ss unit))))

  writes_within : {n : ℕ} {units : List (List ℕ)} {e : Emitted} → Reached ss n units e → within (list_writes ss e.instructions) (block_writes ss) ≡ true
  unfolding written
  writes_within start = refl
  writes_within (extracts {e = e} v h found r) =
      behind_within (instruction_writes ss) (block_writes ss) e.instructions (X h.register h.lane v ∷ []) (writes_within r) refl
  writes_within (loads {e = e} tuple x t l r) =
      behind_within (instruction_writes ss) (block_writes ss) e.instructions (x ∷ []) (writes_within r)
      (one_within (instruction_writes ss) (block_writes ss) x (load_writes e tuple x l))
  writes_within (single {e = e} s below ml mr r) =
      behind_within (instruction_writes ss) (block_writes ss) e.instructions (S s ∷ []) (writes_within r)
      (one_within (instruction_writes ss) (block_writes ss) (S s) (one_of_all statement_writes ss s below))
  writes_within (pack {e = e} unit ra rb p two hl hr r) =
      let o = O (next e) (operation_of ss unit) (length unit) ra rb in
      let kept = stores (next e) (destinations ss unit) (row_start (destinations ss unit)) in
      behind_within (instruction_writes ss) (block_writes ss) (e.instructions ++ o ∷ []) kept
      (behind_within (instruction_writes ss) (block_writes ss) e.instructions (o ∷ []) (writes_within r) refl)
      (ap (λ (ps : List Place). within ps (block_writes ss)) (stored_cells (next e) (destinations ss unit)) ∙ destinations_written unit p.in_range)

-- S for every statement in block order
plain_within : (ss : List Statement) (f : Statement → List Place) (n i : ℕ) (g : Instruction → List Place) → ((s : ℕ) → g (S s) ≡ f (statement ss s)) → i + n ≤ length ss
    → within (flat (map g (plain_from n i))) (flat (map f ss)) ≡ true
plain_within ss f zero i g is h = refl
plain_within ss f (suc n) i g is h =
    within_both (g (S i)) (flat (map g (plain_from n (i + 1)))) (flat (map f ss))
    (ap (λ (ps : List Place). within ps (flat (map f ss))) (is i) ∙ one_of_all f ss i (omega arith)) (plain_within ss f n (i + 1) g is (omega arith))

-- the list reads only cells that the block reads, and writes only cells that the block writes
pub record Inside (b : Block) (list : List Instruction) : Type 0 where
  pub reads : within (list_reads b.statements list) (block_reads b.statements) ≡ true
  pub writes : within (list_writes b.statements list) (block_writes b.statements) ≡ true

pub packed_inside : (b : Block) → Units b.statements (scheduled_units b.statements) → Inside b (packed_list b)
unfolding packed_list emission
packed_inside b u =
    let r = (emission_steps b.statements b.live (scheduled_units b.statements) u).reached in
    record { reads = reads_within b.statements r; writes = writes_within b.statements r }

pub plain_inside : (b : Block) → Inside b (plain_list b)
unfolding plain_list
plain_inside b =
    let ss = b.statements in
    record {
      reads = plain_within ss statement_reads (length ss) 0 (instruction_reads ss) (λ s. refl) (omega arith);
      writes = plain_within ss statement_writes (length ss) 0 (instruction_writes ss) (λ s. refl) (omega arith);
    }

-- The footprint of the list that is chosen is within the block's.
pub chosen_inside : (b : Block) → Units b.statements (scheduled_units b.statements) → Inside b (chosen_list b)
unfolding chosen_list
chosen_inside b u =
    pick_holds (Inside b) (ltb (list_price b.statements (packed_list b)) (block_price b.statements)) (packed_list b) (plain_list b)
    (λ below. packed_inside b u) (λ above. plain_inside b)
