-- Footprints mean what they say: a run changes no cell outside what it writes, and what it leaves in those cells and in the variables depends
-- on nothing but the cells that it reads and the variables.
use mathlib.Core.Path.{◌≡◌, refl, sym, ap, ap₂, subst, ◌∙◌}
use mathlib.Core.Logic.{◌⊎◌, inl, inr}
use mathlib.Core.Bool.{Bool, true, false, ◌&&◌, ◌||◌, false≢true, or-false}
use mathlib.Core.List.{List, [], ◌∷◌, ◌++◌, map, map-append}
use Prim.Native.Nat.{ℕ}
use native.Mathlib.Omega.{arith}
use lib.Dec.{ltb}
use lib.ListN.{length, get_or, length-map, get_or-map}
use borrow.Author.Tests.{eqb-true}
use Rattle.basics.specs.Choice.{pick}
use Rattle.basics.specs.Lists.{flat, each}
use Rattle.basics.proofs.Tests.{and_left, and_right, or_either, or_left, or_right, neither_left, neither_right}
use Rattle.basics.proofs.Finding.{any_append}
use Rattle.meaning.specs.declared.Place.{Place}
use Rattle.meaning.specs.declared.Place.TheVariants.{Variable, Cell}
use Rattle.meaning.specs.declared.Operand.{Operand}
use Rattle.meaning.specs.declared.Operand.TheVariants.{Nothing, Constant, Held}
use Rattle.meaning.specs.declared.Statement.{Statement}
use Rattle.meaning.specs.Block.{Block, statement, same}
use Rattle.meaning.specs.Machine.{operate}
use Rattle.meaning.specs.List.{Instruction, S, L, C, G, O, W, D, X, is_next, is_written, is_allowed, written_after, allowed}
use Rattle.meaning.specs.Card.{row, operate_lanes}
use Rattle.meaning.proofs.Lengths.{row_length, operate_length}
use Rattle.theorems.specs.Memory.{Memory, put, value, result, ran, put_each}
use Rattle.theorems.specs.Machine.{Machine, lane_in, second_in, filled, step, machine_after}
use Rattle.theorems.specs.Footprint.{cell_of, cell_read, statement_reads, statement_writes, instruction_reads, instruction_writes, block_reads, block_writes, list_reads, list_writes, is_in}
use Rattle.theorems.proofs.Puts.{same_self, same_back, put_other}

-- among two lists of places
in_neither : (ps qs : List Place) (p : Place) → is_in (ps ++ qs) p ≡ false → (is_in ps p ≡ false) × (is_in qs p ≡ false)
in_neither ps qs p e =
    let both : is_in ps p || is_in qs p ≡ false = sym (any_append (same p) ps qs) ∙ e in
    (neither_left (is_in ps p) _ both, neither_right (is_in ps p) _ both)

pub in_first : (ps qs : List Place) (p : Place) → is_in ps p ≡ true → is_in (ps ++ qs) p ≡ true
in_first ps qs p e = any_append (same p) ps qs ∙ or_left (is_in ps p) _ e

pub in_second : (ps qs : List Place) (p : Place) → is_in qs p ≡ true → is_in (ps ++ qs) p ≡ true
in_second ps qs p e = any_append (same p) ps qs ∙ or_right (is_in ps p) _ e

in_either : (ps qs : List Place) (p : Place) → is_in (ps ++ qs) p ≡ true → (is_in ps p ≡ true) ⊎ (is_in qs p ≡ true)
in_either ps qs p e = or_either (is_in ps p) (is_in qs p) (sym (any_append (same p) ps qs) ∙ e)

-- what is not written stays
unwritten_each : (ps : List Place) (values : List ℕ) (m : Memory) (p : Place) → is_in ps p ≡ false → put_each ps values m p ≡ m p
unwritten_each [] values m p e = refl
unwritten_each (q ∷ ps) [] m p e = refl
unwritten_each (q ∷ ps) (n ∷ values) m p e =
    unwritten_each ps values (put m q n) p (neither_right (same p q) _ e) ∙ put_other m q n p (same_back q p ∙ neither_left (same p q) _ e)

unwritten_one : (m : Memory) (q : Place) (n a i : ℕ) → is_in (cell_of q) (Cell a i) ≡ false → put m q n (Cell a i) ≡ m (Cell a i)
unwritten_one m (Variable v) n a i e = refl
unwritten_one m (Cell b j) n a i e = unwritten_each (Cell b j ∷ []) (n ∷ []) m (Cell a i) e

unwritten_step : (ss : List Statement) (x : Instruction) (c : Machine) (a i : ℕ) → is_in (instruction_writes ss x) (Cell a i) ≡ false
    → (step ss x c).memory (Cell a i) ≡ c.memory (Cell a i)
unwritten_step ss (S s) c a i e = unwritten_one c.memory (statement ss s).destination (result c.memory (statement ss s)) a i e
unwritten_step ss (L r k b j) c a i e = refl
unwritten_step ss (C r cs) c a i e = refl
unwritten_step ss (G r os) c a i e = refl
unwritten_step ss (O r operation k ra rb) c a i e = refl
unwritten_step ss (W r k b j) c a i e = unwritten_each (row k b j) (get_or c.registers r []) c.memory (Cell a i) e
unwritten_step ss (D r lane b j) c a i e = unwritten_one c.memory (Cell b j) (lane_in c.registers r lane) a i e
unwritten_step ss (X r lane v) c a i e = refl

unwritten_run : (ss : List Statement) (list : List Instruction) (c : Machine) (a i : ℕ) → is_in (list_writes ss list) (Cell a i) ≡ false
    → (each (step ss) list c).memory (Cell a i) ≡ c.memory (Cell a i)
unwritten_run ss [] c a i e = refl
unwritten_run ss (x ∷ list) c a i e =
    let apart = in_neither (instruction_writes ss x) (list_writes ss list) (Cell a i) e in
    unwritten_run ss list (step ss x c) a i apart.1 ∙ unwritten_step ss x c a i apart.0

-- A run of a list changes no cell outside what the list writes; nor does a run of a block.
pub list_frame : (ss : List Statement) (list : List Instruction) (m : Memory) (a i : ℕ) → is_in (list_writes ss list) (Cell a i) ≡ false
    → (machine_after ss list m).memory (Cell a i) ≡ m (Cell a i)
list_frame ss list m a i e = unwritten_run ss list (record { memory = m; registers = [] }) a i e

pub block_frame : (ss : List Statement) (m : Memory) (a i : ℕ) → is_in (block_writes ss) (Cell a i) ≡ false → each ran ss m (Cell a i) ≡ m (Cell a i)
block_frame [] m a i e = refl
block_frame (s ∷ ss) m a i e =
    let apart = in_neither (statement_writes s) (block_writes ss) (Cell a i) e in
    block_frame ss (ran s m) a i apart.1 ∙ unwritten_one m s.destination (result m s) a i apart.0

-- two memories agree on the places that are known
abbrev pub AgreeOn : (Place → Type 0) → Memory → Memory → Type 0
AgreeOn Known m other = (p : Place) → Known p → m p ≡ other p

-- known, or one of these
abbrev pub OrIn : (Place → Type 0) → List Place → Place → Type 0
OrIn Known ps p = Known p ⊎ (is_in ps p ≡ true)

agree_put : (Known : Place → Type 0) (m other : Memory) (p : Place) (n k : ℕ) → n ≡ k → AgreeOn Known m other → AgreeOn (OrIn Known (p ∷ [])) (put m p n) (put other p k)
agree_put Known m other p n k e agree q known = by (same p q) refl known
  where
    by : (t : Bool) → same p q ≡ t → OrIn Known (p ∷ []) q → pick t n (m q) ≡ pick t k (other q)
    by true is h = e
    by false is (inl h) = agree q h
    by false is (inr h) = absurd (false≢true (sym is ∙ same_back p q ∙ sym (or-false (same q p)) ∙ h))

agree_variable : (Known : Place → Type 0) (m other : Memory) (v n k : ℕ) → n ≡ k → AgreeOn Known m other → AgreeOn Known (put m (Variable v) n) (put other (Variable v) k)
agree_variable Known m other v n k e agree q known = agree_put Known m other (Variable v) n k e agree q (inl known)

agree_each : (Known : Place → Type 0) (ps : List Place) (values : List ℕ) (m other : Memory) → length values ≡ length ps → AgreeOn Known m other
    → AgreeOn (OrIn Known ps) (put_each ps values m) (put_each ps values other)
agree_each Known [] values m other sized agree q (inl h) = agree q h
agree_each Known [] values m other sized agree q (inr h) = absurd (false≢true h)
agree_each Known (p ∷ ps) [] m other sized agree q h = absurd (omega arith)
agree_each Known (p ∷ ps) (n ∷ values) m other sized agree q h =
    agree_each (OrIn Known (p ∷ [])) ps values (put m p n) (put other p n) (omega arith) (agree_put Known m other p n n refl agree) q (by h)
  where
    by : OrIn Known (p ∷ ps) q → OrIn (OrIn Known (p ∷ [])) ps q
    by (inl known) = inl (inl known)
    by (inr among) = rest (in_either (p ∷ []) ps q among)
      where
        rest : (is_in (p ∷ []) q ≡ true) ⊎ (is_in ps q ≡ true) → OrIn (OrIn Known (p ∷ [])) ps q
        rest (inl first) = inl (inr first)
        rest (inr later) = inr later

-- what is known of what is read
module _ (Known : Place → Type 0) (variables : (v : ℕ) → Known (Variable v)) (m other : Memory) (agree : AgreeOn Known m other) where
  same_value : (o : Operand) → ((p : Place) → is_in (cell_read o) p ≡ true → Known p) → value m o ≡ value other o
  same_value Nothing known = refl
  same_value (Constant c) known = refl
  same_value (Held (Variable v)) known = agree (Variable v) (variables v)
  same_value (Held (Cell a i)) known = agree (Cell a i) (known (Cell a i) (or_left (same (Cell a i) (Cell a i)) false (same_self (Cell a i))))

  same_result : (s : Statement) → ((p : Place) → is_in (statement_reads s) p ≡ true → Known p) → result m s ≡ result other s
  same_result s known =
      ap₂ (operate s.operation) (same_value s.left (λ p e. known p (in_first (cell_read s.left) (cell_read s.right) p e)))
      (same_value s.right (λ p e. known p (in_second (cell_read s.left) (cell_read s.right) p e)))

  same_places : (ps : List Place) → ((p : Place) → is_in ps p ≡ true → Known p) → map m ps ≡ map other ps
  same_places [] known = refl
  same_places (p ∷ ps) known =
      ap₂ ◌∷◌ (agree p (known p (or_left (same p p) _ (same_self p)))) (same_places ps (λ q e. known q (or_right (same q p) _ e)))

  same_values : (os : List Operand) → ((p : Place) → is_in (flat (map cell_read os)) p ≡ true → Known p) → map (value m) os ≡ map (value other) os
  same_values [] known = refl
  same_values (o ∷ os) known =
      ap₂ ◌∷◌ (same_value o (λ p e. known p (in_first (cell_read o) (flat (map cell_read os)) p e)))
      (same_values os (λ p e. known p (in_second (cell_read o) (flat (map cell_read os)) p e)))

  agree_ran : (s : Statement) → ((p : Place) → is_in (statement_reads s) p ≡ true → Known p) → AgreeOn (OrIn Known (statement_writes s)) (ran s m) (ran s other)
  agree_ran s known = by s.destination
    where
      by : (d : Place) → AgreeOn (OrIn Known (cell_of d)) (put m d (result m s)) (put other d (result other s))
      by (Variable v) q (inl h) = agree_variable Known m other v (result m s) (result other s) (same_result s known) agree q h
      by (Variable v) q (inr h) = absurd (false≢true h)
      by (Cell a i) q h = agree_put Known m other (Cell a i) (result m s) (result other s) (same_result s known) agree q h

-- one after the other
either_more : (Known : Place → Type 0) (ps qs : List Place) (p : Place) → OrIn Known (ps ++ qs) p → OrIn (OrIn Known ps) qs p
either_more Known ps qs p (inl h) = inl (inl h)
either_more Known ps qs p (inr h) = by (in_either ps qs p h)
  where
    by : (is_in ps p ≡ true) ⊎ (is_in qs p ≡ true) → OrIn (OrIn Known ps) qs p
    by (inl first) = inl (inr first)
    by (inr later) = inr later

-- Two starts that agree on the variables and on what a block reads end alike in the variables and in what it writes.
pub block_depends : (Known : Place → Type 0) → ((v : ℕ) → Known (Variable v)) → (ss : List Statement) (m other : Memory)
    → ((p : Place) → is_in (block_reads ss) p ≡ true → Known p) → AgreeOn Known m other → AgreeOn (OrIn Known (block_writes ss)) (each ran ss m) (each ran ss other)
block_depends Known variables [] m other known agree p (inl h) = agree p h
block_depends Known variables [] m other known agree p (inr h) = absurd (false≢true h)
block_depends Known variables (s ∷ ss) m other known agree p h =
    block_depends (OrIn Known (statement_writes s)) (λ v. inl (variables v)) ss (ran s m) (ran s other)
    (λ q e. inl (known q (in_second (statement_reads s) (block_reads ss) q e)))
    (agree_ran Known variables m other agree s (λ q e. known q (in_first (statement_reads s) (block_reads ss) q e)))
    p (either_more Known (statement_writes s) (block_writes ss) p h)

-- the lanes of each register are as many as the rules count
pub lane_count : (registers : List (List ℕ)) (lanes : List ℕ) (r k : ℕ) → map length registers ≡ lanes → is_written lanes r k ≡ true → length (get_or registers r []) ≡ k
lane_count registers lanes r k e there =
    sym (get_or-map {A = List ℕ} length registers r []) ∙ ap (λ (all_lanes : List ℕ). get_or all_lanes r 0) e ∙ eqb-true (get_or lanes r 0) k (and_right (ltb r (length lanes)) _ there)

shaped_filled : (c : Machine) (lanes values : List ℕ) (k : ℕ) → map length c.registers ≡ lanes → length values ≡ k → map length (c.registers ++ values ∷ []) ≡ lanes ++ k ∷ []
shaped_filled c lanes values k e sized = map-append length c.registers (values ∷ []) ∙ ap₂ (λ (front : List ℕ) (n : ℕ). front ++ n ∷ []) e sized

shaped_step : (b : Block) (lanes : List ℕ) (x : Instruction) (c : Machine) → is_allowed b lanes x ≡ true → map length c.registers ≡ lanes
    → map length (step b.statements x c).registers ≡ written_after lanes x
shaped_step b lanes (S s) c e shaped = shaped
shaped_step b lanes (L r k a i) c e shaped = shaped_filled c lanes (map c.memory (row k a i)) k shaped (length-map (row k a i) c.memory ∙ row_length k a i)
shaped_step b lanes (C r cs) c e shaped = shaped_filled c lanes cs (length cs) shaped refl
shaped_step b lanes (G r os) c e shaped = shaped_filled c lanes (map (value c.memory) os) (length os) shaped (length-map os (value c.memory))
shaped_step b lanes (O r operation k ra rb) c e shaped =
    shaped_filled c lanes (operate_lanes operation (get_or c.registers ra []) (second_in c.registers rb)) k shaped
    (operate_length operation (get_or c.registers ra []) (second_in c.registers rb)
    ∙ lane_count c.registers lanes ra k shaped (and_right (is_next lanes r) _ (and_left (is_next lanes r && is_written lanes ra k) _ e)))
shaped_step b lanes (W r k a i) c e shaped = shaped
shaped_step b lanes (D r lane a i) c e shaped = shaped
shaped_step b lanes (X r lane v) c e shaped = shaped

-- two machines alike: the same registers, and memories that agree on what is known
record Twins (Known : Place → Type 0) (c d : Machine) : Type 0 where
  registers : c.registers ≡ d.registers
  memory : AgreeOn Known c.memory d.memory

module _ (b : Block) (Known : Place → Type 0) (variables : (v : ℕ) → Known (Variable v)) where
  twins_filled : (c d : Machine) (values others : List ℕ) → values ≡ others → Twins Known c d → Twins (OrIn Known []) (filled c values) (filled d others)
  twins_filled c d values others e t =
      record {
        registers = ap₂ (λ (registers : List (List ℕ)) (lanes : List ℕ). registers ++ lanes ∷ []) t.registers e;
        memory = λ p h. by p h;
      }
    where
      by : (p : Place) → OrIn Known [] p → c.memory p ≡ d.memory p
      by p (inl h) = t.memory p h
      by p (inr h) = absurd (false≢true h)

  twins_step : (lanes : List ℕ) (x : Instruction) (c d : Machine) → is_allowed b lanes x ≡ true → map length c.registers ≡ lanes
      → ((p : Place) → is_in (instruction_reads b.statements x) p ≡ true → Known p) → Twins Known c d
      → Twins (OrIn Known (instruction_writes b.statements x)) (step b.statements x c) (step b.statements x d)
  twins_step lanes (S s) c d e shaped known t =
      record { registers = t.registers; memory = agree_ran Known variables c.memory d.memory t.memory (statement b.statements s) known }
  twins_step lanes (L r k a i) c d e shaped known t =
      twins_filled c d (map c.memory (row k a i)) (map d.memory (row k a i)) (same_places Known variables c.memory d.memory t.memory (row k a i) known) t
  twins_step lanes (C r cs) c d e shaped known t = twins_filled c d cs cs refl t
  twins_step lanes (G r os) c d e shaped known t =
      twins_filled c d (map (value c.memory) os) (map (value d.memory) os) (same_values Known variables c.memory d.memory t.memory os known) t
  twins_step lanes (O r operation k ra rb) c d e shaped known t =
      twins_filled c d (operate_lanes operation (get_or c.registers ra []) (second_in c.registers rb)) (operate_lanes operation (get_or d.registers ra []) (second_in d.registers rb))
      (ap (λ (registers : List (List ℕ)). operate_lanes operation (get_or registers ra []) (second_in registers rb)) t.registers) t
  twins_step lanes (W r k a i) c d e shaped known t =
      let values = get_or c.registers r [] in
      let sized = lane_count c.registers lanes r k shaped (and_left (is_written lanes r k) _ e) ∙ sym (row_length k a i) in
      record {
        registers = t.registers;
        memory =
            subst (λ (registers : List (List ℕ)). AgreeOn (OrIn Known (row k a i)) (put_each (row k a i) (get_or c.registers r []) c.memory) (put_each (row k a i) (get_or registers r []) d.memory))
            t.registers (agree_each Known (row k a i) (get_or c.registers r []) c.memory d.memory sized t.memory);
      }
  twins_step lanes (D r lane a i) c d e shaped known t =
      record {
        registers = t.registers;
        memory =
            agree_put Known c.memory d.memory (Cell a i) (lane_in c.registers r lane) (lane_in d.registers r lane)
            (ap (λ (registers : List (List ℕ)). lane_in registers r lane) t.registers) t.memory;
      }
  twins_step lanes (X r lane v) c d e shaped known t =
      record {
        registers = t.registers;
        memory = λ p h. by p h;
      }
    where
      by : (p : Place) → OrIn Known [] p
          → put c.memory (Variable v) (lane_in c.registers r lane) p ≡ put d.memory (Variable v) (lane_in d.registers r lane) p
      by p (inl h) =
          agree_variable Known c.memory d.memory v (lane_in c.registers r lane) (lane_in d.registers r lane)
          (ap (λ (registers : List (List ℕ)). lane_in registers r lane) t.registers) t.memory p h
      by p (inr h) = absurd (false≢true h)

twins_run : (b : Block) (Known : Place → Type 0) → ((v : ℕ) → Known (Variable v)) → (list : List Instruction) (lanes : List ℕ) (c d : Machine)
    → allowed b lanes list ≡ true → map length c.registers ≡ lanes
    → ((p : Place) → is_in (list_reads b.statements list) p ≡ true → Known p) → Twins Known c d
    → AgreeOn (OrIn Known (list_writes b.statements list)) (each (step b.statements) list c).memory (each (step b.statements) list d).memory
unfolding allowed
twins_run b Known variables [] lanes c d e shaped known t p (inl h) = t.memory p h
twins_run b Known variables [] lanes c d e shaped known t p (inr h) = absurd (false≢true h)
twins_run b Known variables (x ∷ list) lanes c d e shaped known t p h =
    let ss = b.statements in
    let this = and_left (is_allowed b lanes x) _ e in
    twins_run b (OrIn Known (instruction_writes ss x)) (λ v. inl (variables v)) list (written_after lanes x) (step ss x c) (step ss x d)
    (and_right (is_allowed b lanes x) _ e) (shaped_step b lanes x c this shaped)
    (λ q e. inl (known q (in_second (instruction_reads ss x) (list_reads ss list) q e)))
    (twins_step b Known variables lanes x c d this shaped (λ q e. known q (in_first (instruction_reads ss x) (list_reads ss list) q e)) t)
    p (either_more Known (instruction_writes ss x) (list_writes ss list) p h)

-- And so for a list that is allowed.
pub list_depends : (b : Block) (Known : Place → Type 0) → ((v : ℕ) → Known (Variable v)) → (list : List Instruction) (m other : Memory)
    → allowed b [] list ≡ true → ((p : Place) → is_in (list_reads b.statements list) p ≡ true → Known p) → AgreeOn Known m other
    → AgreeOn (OrIn Known (list_writes b.statements list)) (machine_after b.statements list m).memory (machine_after b.statements list other).memory
list_depends b Known variables list m other e known agree =
    twins_run b Known variables list [] (record { memory = m; registers = [] }) (record { memory = other; registers = [] }) e refl known
    (record { registers = refl; memory = agree })
