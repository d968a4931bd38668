-- Prices: S for every statement costs what the block costs, in whatever order; so a list that costs less has a vector instruction.
use mathlib.Core.Path.{◌≡◌, refl, sym, ap, ◌∙◌}
use mathlib.Core.Bool.{Bool, true, false, ◌||◌, true≢false, false≢true}
use mathlib.Core.List.{List, [], ◌∷◌, ◌++◌, map}
use Prim.Native.Nat.{ℕ, zero, suc, ◌+◌, ◌≤◌, ◌<◌}
use native.Mathlib.Numerals.{add-one}
use native.Mathlib.Omega.{arith}
use lib.ListN.{length}
use Rattle.basics.specs.Lists.{any, sum, flat}
use Rattle.basics.proofs.Finding.{any_append, flat_append}
use Rattle.meaning.specs.declared.Operand.{Operand}
use Rattle.meaning.specs.declared.Statement.{Statement}
use Rattle.meaning.specs.Block.{Block, blank, statement, statement_price, block_price}
use Rattle.meaning.specs.List.{Instruction, S, O, X, instruction_price, list_price, is_vector}
use Rattle.meaning.specs.Emission.{Emitted, written, row_start, next, destinations, operation_of, emission}
use Rattle.meaning.specs.Choice.{scheduled_units, packed_list, plain_from, plain_list}
use Rattle.theorems.specs.Units.{Every, occurs, Units}
use Rattle.theorems.specs.Steps.{Load, in_row, constants, gathered, Reached, start, extracts, loads, single, pack, stores}
use Rattle.theorems.proofs.Sums.{over, over_list, any_order}
use Rattle.theorems.proofs.Units.{flat_below}
use Rattle.theorems.proofs.Steps.{emission_steps}

-- S for every statement in block order
plain_from_lem : (ss : List Statement) (n i : ℕ) → sum (map (instruction_price ss) (plain_from n i)) ≡ over (λ s. statement_price (statement ss s)) n i
plain_from_lem ss zero i = refl
plain_from_lem ss (suc n) i = rw (add-one i) (omega (arith, plain_from_lem ss n (suc i)))

block_over : (ss : List Statement) → over (λ s. statement_price (statement ss s)) (length ss) 0 ≡ block_price ss
unfolding block_price
block_over ss = over_list statement_price blank ss

-- S for each statement once
singles_price : (ss : List Statement) (order : List ℕ) → sum (map (instruction_price ss) (map S order)) ≡ sum (map (λ s. statement_price (statement ss s)) order)
singles_price ss [] = refl
singles_price ss (s ∷ order) = omega (arith, singles_price ss order)

order_price : (ss : List Statement) (order : List ℕ) → Every (λ s. s < length ss) order → ((s : ℕ) → s < length ss → occurs s order ≡ 1)
    → list_price ss (map S order) ≡ block_price ss
unfolding list_price
order_price ss order below once =
    singles_price ss order ∙ any_order (λ s. statement_price (statement ss s)) (length ss) order below once ∙ block_over ss

-- a list with no vector instruction was made of singles
front_plain : (list : List Instruction) (i : Instruction) → any is_vector (list ++ i ∷ []) ≡ false → any is_vector list ≡ false
front_plain list i e = by (any is_vector list) (sym (any_append is_vector list (i ∷ [])) ∙ e)
  where
    by : (t : Bool) → t || any is_vector (i ∷ []) ≡ false → t ≡ false
    by true e = e
    by false e = refl

last_plain : (list : List Instruction) (i : Instruction) → any is_vector (list ++ i ∷ []) ≡ false → is_vector i ≡ true → ⊥
last_plain list i e vector = by (any is_vector list) (is_vector i) vector (sym (any_append is_vector list (i ∷ [])) ∙ e)
  where
    by : (t u : Bool) → u ≡ true → t || (u || false) ≡ false → ⊥
    by true u v e = true≢false e
    by false true v e = true≢false e
    by false false v e = false≢true v

load_vector : {e : Emitted} {tuple : List Operand} {i : Instruction} → Load e tuple i → is_vector i ≡ true
load_vector (in_row beginning h) = refl
load_vector (constants cs h) = refl
load_vector (gathered h) = refl

before_plain : (list more : List Instruction) → any is_vector (list ++ more) ≡ false → any is_vector list ≡ false
before_plain list more e = by (any is_vector list) (sym (any_append is_vector list more) ∙ e)
  where
    by : (t : Bool) → t || any is_vector more ≡ false → t ≡ false
    by true e = e
    by false e = refl

map_snoc : (order : List ℕ) (s : ℕ) → map S (order ++ s ∷ []) ≡ map S order ++ S s ∷ []
map_snoc [] s = refl
map_snoc (t ∷ order) s = ap (λ (rest : List Instruction). S t ∷ rest) (map_snoc order s)

all_singles : {ss : List Statement} {n : ℕ} {units : List (List ℕ)} {e : Emitted} → Reached ss n units e
    → any is_vector e.instructions ≡ false → e.instructions ≡ map S (flat units)
unfolding written
all_singles start plain = refl
all_singles (extracts {e = e} v h found r) plain = absurd (last_plain e.instructions (X h.register h.lane v) plain refl)
all_singles (loads {e = e} tuple i t l r) plain = absurd (last_plain e.instructions i plain (load_vector l))
all_singles (single {units = units} {e = e} s below l m r) plain =
    ap (λ (list : List Instruction). list ++ S s ∷ []) (all_singles r (front_plain e.instructions (S s) plain))
    ∙ sym (ap (map S) (flat_append units (s ∷ [])) ∙ map_snoc (flat units) s)
all_singles {ss} (pack {e = e} unit ra rb p few hl hr r) plain =
    let o = O (next e) (operation_of ss unit) (length unit) ra rb in
    absurd
    (last_plain e.instructions o
    (before_plain (e.instructions ++ o ∷ []) (stores (next e) (destinations ss unit) (row_start (destinations ss unit))) plain) refl)

-- the packed list costs what the block costs where it has no vector instruction
packed_plain : (ss : List Statement) (live : ℕ) (units : List (List ℕ)) → Units ss units → any is_vector (emission ss live units) ≡ false
    → list_price ss (emission ss live units) ≡ block_price ss
unfolding emission
packed_plain ss live units u plain =
    ap (list_price ss) (all_singles (emission_steps ss live units u).reached plain)
    ∙ order_price ss (flat units) (flat_below ss units u.fit) u.once

plain_no_vector : (n i : ℕ) → any is_vector (plain_from n i) ≡ false
plain_no_vector zero i = refl
plain_no_vector (suc n) i = plain_no_vector n (i + 1)

-- S for every statement costs what the block costs.
pub plain_price : (b : Block) → list_price b.statements (plain_list b) ≡ block_price b.statements
unfolding list_price plain_list
plain_price b = plain_from_lem b.statements (length b.statements) 0 ∙ block_over b.statements

-- The list that is chosen never costs more than its block,
pub record Priced (b : Block) (list : List Instruction) : Type 0 where
  pub at_most : list_price b.statements list ≤ block_price b.statements
  pub below_vector : list_price b.statements list < block_price b.statements → any is_vector list ≡ true
  pub vector_below : any is_vector list ≡ true → list_price b.statements list < block_price b.statements

pub packed_priced : (b : Block) → Units b.statements (scheduled_units b.statements) → list_price b.statements (packed_list b) < block_price b.statements
    → Priced b (packed_list b)
unfolding packed_list
packed_priced b u below =
    record {
      at_most = omega arith;
      below_vector = λ less. by (any is_vector (packed_list b)) refl;
      vector_below = λ vector. below;
    }
  where
    by : (t : Bool) → any is_vector (packed_list b) ≡ t → t ≡ true
    by true e = refl
    by false e = absurd (omega (arith, packed_plain b.statements b.live (scheduled_units b.statements) u e))

pub plain_priced : (b : Block) → Priced b (plain_list b)
unfolding plain_list
plain_priced b =
    let none : any is_vector (plain_list b) ≡ false = plain_no_vector (length b.statements) 0 in
    record {
      at_most = omega (arith, plain_price b);
      below_vector = λ less. absurd (omega (arith, plain_price b));
      vector_below = λ vector. absurd (false≢true (sym none ∙ vector));
    }
