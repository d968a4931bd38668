-- A list over lent contents of the right size does what it does over the memory that they are.
use mathlib.Core.Path.{◌≡◌, refl, sym, ap, ap₂, ◌∙◌}
use mathlib.Core.Bool.{true}
use mathlib.Core.Option.{Option, none, some}
use mathlib.Core.List.{List, [], ◌∷◌, ◌++◌, map}
use Prim.Native.Nat.{ℕ, zero, suc, ◌+◌}
use native.Mathlib.Omega.{arith}
use lib.Dec.{ltb}
use lib.ListN.{length, get_or, length-append}
use lib.Seq.{get_or-append_seam, append_snoc}
use borrow.Author.Tests.{ltb-true, lt-ltb, leb-true, le-leb}
use Rattle.basics.specs.Lists.{all, each}
use Rattle.basics.proofs.Tests.{and_left, and_right, and_both}
use Rattle.meaning.specs.declared.Place.{Place}
use Rattle.meaning.specs.declared.Place.TheVariants.{Variable, Cell}
use Rattle.meaning.specs.declared.Operand.{Operand}
use Rattle.meaning.specs.declared.Operand.TheVariants.{Held}
use Rattle.meaning.specs.declared.Statement.{Statement}
use Rattle.meaning.specs.Block.{Block, blank, statement, declares_place, declares_operand}
use Rattle.meaning.specs.Machine.{Contents, right_size, fetch_place, fetch, store}
use Rattle.meaning.specs.List.{Instruction, S, L, C, G, O, W, D, X, is_next, is_written, has_lane, declares_row, is_allowed, written_after, allowed}
use Rattle.meaning.specs.Card.{Card, lane_of, second_lanes, row, store_lanes, operate_lanes, loaded, run_instruction, run_list}
use Rattle.meaning.specs.Choice.{plain_from, plain_list}
use Rattle.theorems.specs.Memory.{Memory, put, value, ran, put_each, view}
use Rattle.theorems.specs.Machine.{Machine, lane_in, second_in, filled, step, machine_after}
use Rattle.theorems.proofs.Readable.{Readable}
use Rattle.theorems.proofs.View.{view_store, size_store, view_value, view_ran, size_ran}
use Rattle.theorems.proofs.Named.{declares_at}

-- the card over lent contents, and the one over the memory that they are
pub record Mirrors (b : Block) (c : Card) (d : Machine) : Type 0 where
  pub memory : view b c.contents ≡ d.memory
  pub registers : c.registers ≡ d.registers
  pub size : right_size b c.contents ≡ true

-- a row's cells are declared
cell_in_row : (b : Block) (k a i : ℕ) → declares_row b (suc k) a i ≡ true → declares_place b.variables b.lengths (Cell a i) ≡ true
cell_in_row b k a i e =
    and_both (ltb a (length b.lengths)) _ (and_left (ltb a (length b.lengths)) _ e)
    (lt-ltb i (get_or b.lengths a 0) (omega (arith, leb-true (i + suc k) (get_or b.lengths a 0) (and_right (ltb a (length b.lengths)) _ e))))

rest_in_row : (b : Block) (k a i : ℕ) → declares_row b (suc k) a i ≡ true → declares_row b k a (i + 1) ≡ true
rest_in_row b k a i e =
    and_both (ltb a (length b.lengths)) _ (and_left (ltb a (length b.lengths)) _ e)
    (le-leb (i + 1 + k) (get_or b.lengths a 0) (omega (arith, leb-true (i + suc k) (get_or b.lengths a 0) (and_right (ltb a (length b.lengths)) _ e))))

row_all : (b : Block) (k a i : ℕ) → declares_row b k a i ≡ true → all (declares_place b.variables b.lengths) (row k a i) ≡ true
row_all b zero a i e = refl
row_all b (suc k) a i e = and_both (declares_place b.variables b.lengths (Cell a i)) _ (cell_in_row b k a i e) (row_all b k a (i + 1) (rest_in_row b k a i e))

-- what is fetched is what the memory holds
fetched_places : (b : Block) (lent : Contents) (ps : List Place) → all (declares_place b.variables b.lengths) ps ≡ true
    → map (fetch_place b.lengths lent) ps ≡ map (view b lent) ps
fetched_places b lent [] e = refl
fetched_places b lent (p ∷ ps) e =
    let this = declares_place b.variables b.lengths p in
    ap₂ ◌∷◌ (sym (view_value b lent (Held p) (and_left this _ e))) (fetched_places b lent ps (and_right this _ e))

fetched_operands : (b : Block) (lent : Contents) (os : List Operand) → all (declares_operand b.variables b.lengths) os ≡ true
    → map (fetch b.lengths lent) os ≡ map (value (view b lent)) os
fetched_operands b lent [] e = refl
fetched_operands b lent (o ∷ os) e =
    let this = declares_operand b.variables b.lengths o in
    ap₂ ◌∷◌ (sym (view_value b lent o (and_left this _ e))) (fetched_operands b lent os (and_right this _ e))

-- lanes stored to declared places are puts
record Stored (b : Block) (ps : List Place) (values : List ℕ) (lent : Contents) : Type 0 where
  view_is : view b (store_lanes b.lengths ps values lent) ≡ put_each ps values (view b lent)
  size_is : right_size b (store_lanes b.lengths ps values lent) ≡ true

stored_lanes : (b : Block) (ps : List Place) (values : List ℕ) (lent : Contents) → all (declares_place b.variables b.lengths) ps ≡ true → right_size b lent ≡ true
    → Stored b ps values lent
stored_lanes b [] values lent e size = record { view_is = refl; size_is = size }
stored_lanes b (p ∷ ps) [] lent e size = record { view_is = refl; size_is = size }
stored_lanes b (p ∷ ps) (n ∷ values) lent e size =
    let this = declares_place b.variables b.lengths p in
    let rest = stored_lanes b ps values (store b.lengths p n lent) (and_right this _ e) (size_store b lent p n size) in
    record {
      view_is = rest.view_is ∙ ap (put_each ps values) (view_store b lent size p n (and_left this _ e));
      size_is = rest.size_is;
    }

second_same : (c : Card) (rb : Option ℕ) → second_lanes c rb ≡ second_in c.registers rb
second_same c none = refl
second_same c (some r) = refl

module _ (b : Block) (readable : Readable b) where
  -- a new register
  mirrors_loaded : (c : Card) (d : Machine) (values others : List ℕ) → values ≡ others → Mirrors b c d → Mirrors b (loaded c values) (filled d others)
  mirrors_loaded c d values others e h =
      record {
        memory = h.memory;
        registers = ap₂ (λ (registers : List (List ℕ)) (lanes : List ℕ). registers ++ lanes ∷ []) h.registers e;
        size = h.size;
      }

  -- one place stored
  mirrors_store : (c : Card) (d : Machine) (p : Place) (n k : ℕ) → n ≡ k → declares_place b.variables b.lengths p ≡ true → Mirrors b c d
      → Mirrors b (record { contents = store b.lengths p n c.contents; registers = c.registers }) (record { memory = put d.memory p k; registers = d.registers })
  mirrors_store c d p n k e declared h =
      record {
        memory = view_store b c.contents h.size p n declared ∙ ap₂ (λ (m : Memory) (x : ℕ). put m p x) h.memory e;
        registers = h.registers;
        size = size_store b c.contents p n h.size;
      }

  mirrors_step : (lanes : List ℕ) (x : Instruction) (c : Card) (d : Machine) → is_allowed b lanes x ≡ true → Mirrors b c d
      → Mirrors b (run_instruction b x c) (step b.statements x d)
  unfolding run_instruction
  mirrors_step lanes (S s) c d e h =
      let this = statement b.statements s in
      record {
        memory = view_ran b this c.contents (declares_at b readable s (ltb-true s (length b.statements) e)) h.size ∙ ap (ran this) h.memory;
        registers = h.registers;
        size = size_ran b this c.contents h.size;
      }
  mirrors_step lanes (L r k a i) c d e h =
      mirrors_loaded c d (map (fetch_place b.lengths c.contents) (row k a i)) (map d.memory (row k a i))
      (fetched_places b c.contents (row k a i) (row_all b k a i (and_right (is_next lanes r) _ e)) ∙ ap (λ (m : Memory). map m (row k a i)) h.memory) h
  mirrors_step lanes (C r cs) c d e h = mirrors_loaded c d cs cs refl h
  mirrors_step lanes (G r os) c d e h =
      mirrors_loaded c d (map (fetch b.lengths c.contents) os) (map (value d.memory) os)
      (fetched_operands b c.contents os (and_right (is_next lanes r) _ e) ∙ ap (λ (m : Memory). map (value m) os) h.memory) h
  mirrors_step lanes (O r operation k ra rb) c d e h =
      mirrors_loaded c d (operate_lanes operation (get_or c.registers ra []) (second_lanes c rb)) (operate_lanes operation (get_or d.registers ra []) (second_in d.registers rb))
      (ap (operate_lanes operation (get_or c.registers ra [])) (second_same c rb)
      ∙ ap (λ (registers : List (List ℕ)). operate_lanes operation (get_or registers ra []) (second_in registers rb)) h.registers) h
  mirrors_step lanes (W r k a i) c d e h =
      let there = stored_lanes b (row k a i) (get_or c.registers r []) c.contents (row_all b k a i (and_right (is_written lanes r k) _ e)) h.size in
      record {
        memory = there.view_is ∙ ap₂ (λ (registers : List (List ℕ)) (m : Memory). put_each (row k a i) (get_or registers r []) m) h.registers h.memory;
        registers = h.registers;
        size = there.size_is;
      }
  mirrors_step lanes (D r lane a i) c d e h =
      mirrors_store c d (Cell a i) (lane_of c r lane) (lane_in d.registers r lane) (ap (λ (registers : List (List ℕ)). lane_in registers r lane) h.registers)
      (and_right (has_lane lanes r lane) _ e) h
  mirrors_step lanes (X r lane v) c d e h =
      mirrors_store c d (Variable v) (lane_of c r lane) (lane_in d.registers r lane) (ap (λ (registers : List (List ℕ)). lane_in registers r lane) h.registers)
      (and_right (has_lane lanes r lane) _ e) h

  mirrors_run : (list : List Instruction) (lanes : List ℕ) (c : Card) (d : Machine) → allowed b lanes list ≡ true → Mirrors b c d
      → Mirrors b (each (run_instruction b) list c) (each (step b.statements) list d)
  unfolding allowed
  mirrors_run [] lanes c d e h = h
  mirrors_run (x ∷ list) lanes c d e h =
      mirrors_run list (written_after lanes x) (run_instruction b x c) (step b.statements x d) (and_right (is_allowed b lanes x) _ e)
      (mirrors_step lanes x c d (and_left (is_allowed b lanes x) _ e) h)

  -- Running a list that is allowed on contents of the right size is running it on the memory that they are; the size stays right.
  list_mirrored : (list : List Instruction) (lent : Contents) → allowed b [] list ≡ true → right_size b lent ≡ true
      → Mirrors b (each (run_instruction b) list (record { contents = lent; registers = [] })) (machine_after b.statements list (view b lent))
  list_mirrored list lent e size =
      mirrors_run list [] (record { contents = lent; registers = [] }) (record { memory = view b lent; registers = [] }) e
      (record { memory = refl; registers = refl; size = size })

  pub view_list : (list : List Instruction) (lent : Contents) → allowed b [] list ≡ true → right_size b lent ≡ true
      → view b (run_list b list lent) ≡ (machine_after b.statements list (view b lent)).memory
  unfolding run_list
  view_list list lent e size = (list_mirrored list lent e size).memory

  pub size_list : (list : List Instruction) (lent : Contents) → allowed b [] list ≡ true → right_size b lent ≡ true → right_size b (run_list b list lent) ≡ true
  unfolding run_list
  size_list list lent e size = (list_mirrored list lent e size).size

-- S for every statement in block order runs as the block does.
plain_run : (ss before rest : List Statement) (c : Machine) → ss ≡ before ++ rest
    → each (step ss) (plain_from (length rest) (length before)) c ≡ record { memory = each ran rest c.memory; registers = c.registers }
plain_run ss before [] c e = refl
plain_run ss before (s ∷ rest) c e =
    let here : statement ss (length before) ≡ s = ap (λ (all_of : List Statement). statement all_of (length before)) e ∙ get_or-append_seam before s rest blank in
    let after : Machine = record { memory = ran s c.memory; registers = c.registers } in
    ap (λ (this : Statement). each (step ss) (plain_from (length rest) (length before + 1)) (record { memory = ran this c.memory; registers = c.registers })) here
    ∙ ap (λ (n : ℕ). each (step ss) (plain_from (length rest) n) (record { memory = ran s c.memory; registers = c.registers }))
    (sym (length-append before (s ∷ [])))
    ∙ plain_run ss (before ++ s ∷ []) rest (record { memory = ran s c.memory; registers = c.registers }) (e ∙ sym (append_snoc before s rest))

pub plain_runs : (b : Block) (m : Memory) → (machine_after b.statements (plain_list b) m).memory ≡ each ran b.statements m
unfolding plain_list
plain_runs b m = ap (λ (c : Machine). c.memory) (plain_run b.statements [] b.statements (record { memory = m; registers = [] }) refl)
