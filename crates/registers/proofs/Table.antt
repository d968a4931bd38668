-- The table says of each register what it holds and whether it is current: when a tuple is looked for or held, and when a statement is done.
use mathlib.Core.Path.{◌≡◌, refl, sym, ap, subst, ◌∙◌}
use mathlib.Core.Logic.{◌⊎◌, inl, inr}
use mathlib.Core.Bool.{Bool, true, false, ◌&&◌, not}
use mathlib.Core.Option.{Option, none, some}
use Rattle.std.specs.Prelude.{Option as Answer, Some, None}
use mathlib.Core.List.{List, [], ◌∷◌, ◌++◌, map}
use Prim.Native.Nat.{ℕ, suc, ◌+◌, ◌*◌, ◌%◌, ◌≤◌, ◌<◌}
use native.Mathlib.Nat.{add-zero}
use native.Mathlib.Omega.{arith}
use lib.Dec.{eqb}
use lib.ListN.{length, get_or, replicate, length-append, length-map, length-replicate, get_or-append, get_or-map}
use lib.Seq.{get_or-append_seam}
use lib.Bits.{bit_and}
use borrow.Author.Tests.{eqb-true}
use Rattle.basics.specs.Lists.{any, all}
use Rattle.basics.specs.Sets.{only, join, has}
use Rattle.basics.proofs.Tests.{or_either, neither_left, below_or_not}
use Rattle.basics.proofs.Sets.{has_join}
use Rattle.basics.proofs.Stores.{stored_at, stored_length, stored_else, stored_own}
use Rattle.meaning.specs.declared.Operand.{Operand}
use Rattle.meaning.specs.declared.Statement.{Statement}
use Rattle.meaning.specs.Block.{statement, names}
use Rattle.meaning.specs.List.{lanes_fit}
use Rattle.meaning.specs.Schedule.{with_unit}
use Rattle.meaning.specs.Emission.{Register, ended, same_tuple, holder}
use Rattle.theorems.specs.Steps.{no_register, holding, places_of, ended_by}
use Rattle.codes.specs.Codes.{place_code}
use Rattle.codes.specs.Fitting.{place_fits, operand_fits}
use Rattle.facts.specs.Tied.{Names}
use Rattle.registers.specs.Table.{serves_at, holder_from, writers_of, endings, hold_tuple}
use Rattle.registers.proofs.Laned.{Laned, laned, lane_code, tuple_of, same_codes, same_codes_tuple}
use Rattle.registers.proofs.Ends.{made_current, current_then, ends_named}

-- one register: the codes of its tuple, how many there are, who of those not yet done ends it, and that it is current
pub record Holding (ss : List Statement) (done : ℕ) (table : List ℕ) (r : ℕ) (register : Register) : Type 0 where
  pub lanes : lanes_fit (length register.tuple) ≡ true
  pub fit : all operand_fits register.tuple ≡ true
  pub lane_0 : get_or table r 0 ≡ lane_code register.tuple 0
  pub lane_1 : get_or table (r + 96) 0 ≡ lane_code register.tuple 1
  pub lane_2 : get_or table (r + 192) 0 ≡ lane_code register.tuple 2
  pub lane_3 : get_or table (r + 288) 0 ≡ lane_code register.tuple 3
  pub count : get_or table (r + 384) 0 ≡ length register.tuple
  pub ends : (s : ℕ) → s < length ss → has done s ≡ false
      → has (get_or table (r + 480) 0) s ≡ any (λ o. names o (statement ss s).destination) register.tuple
  pub current : register.current ≡ eqb (bit_and (get_or table (r + 480) 0) done) 0

pub record Registers (ss : List Statement) (done : ℕ) (registers : List Register) (table : List ℕ) : Type 0 where
  pub sized : length table ≡ 576
  pub holds : (r : ℕ) → r < length registers → Holding ss done table r (get_or registers r no_register)

pub no_registers : (ss : List Statement) (done : ℕ) → Registers ss done [] (replicate 576 0)
no_registers ss done = record { sized = length-replicate {A = ℕ} 576 0; holds = λ r below. absurd (omega arith) }

-- "a current register that holds exactly this tuple"
one_byte : (n : ℕ) → lanes_fit n ≡ true → n % 256 ≡ n
one_byte n fits = by (or_either (eqb n 2) (eqb n 4) fits)
  where
    by : (eqb n 2 ≡ true) ⊎ (eqb n 4 ≡ true) → n % 256 ≡ n
    by (inl h) = omega (arith, eqb-true n 2 h)
    by (inr h) = omega (arith, eqb-true n 4 h)

asked_before : (x c k rest : Bool) → x && (c && (k && (x && rest))) ≡ c && (k && (x && rest))
asked_before true c k rest = refl
asked_before false true true rest = refl
asked_before false true false rest = refl
asked_before false false k rest = refl

serves_same : (ss : List Statement) (done : ℕ) (table : List ℕ) (r : ℕ) (register : Register) (os : List Operand) → Holding ss done table r register
    → Laned os → all operand_fits os ≡ true → serves_at table r (tuple_of os) done ≡ register.current && same_tuple register.tuple os
serves_same ss done table r register os h shape fit =
    let counted : get_or table (r + 384) 0 % 256 ≡ length register.tuple = ap (λ (n : ℕ). n % 256) h.count ∙ one_byte (length register.tuple) h.lanes in
    let codes : serves_at table r (tuple_of os) done ≡ eqb (lane_code register.tuple 0) (lane_code os 0) && (register.current && same_codes register.tuple os) =
    rw (counted, h.lane_0, h.lane_1, h.lane_2, h.lane_3, h.current) in
    codes
    ∙ asked_before (eqb (lane_code register.tuple 0) (lane_code os 0)) register.current (eqb (length register.tuple) (length os)) _
    ∙ ap (λ (same : Bool). register.current && same) (same_codes_tuple register.tuple os (laned register.tuple h.lanes) shape h.fit fit)

-- an option of the definitions as the code has it
abbrev pub answer : Option ℕ → Answer ℕ
answer none = None
answer (some r) = Some r

module _ (ss : List Statement) (done : ℕ) (table : List ℕ) (os : List Operand) (shape : Laned os) (fit : all operand_fits os ≡ true) where
  found_from : (r : ℕ) (registers : List Register) → ((i : ℕ) → i < length registers → Holding ss done table (r + i) (get_or registers i no_register))
      → holder_from (length registers) r table done (tuple_of os) ≡ answer (holder r registers os)
  unfolding holder_from
  found_from r [] held = refl
  found_from r (x ∷ registers) held =
      rw (serves_same ss done table r x os (subst (λ (k : ℕ). Holding ss done table k x) (add-zero r) (held 0 (omega arith))) shape fit, holder_from)
      (by (x.current && same_tuple x.tuple os)
      (found_from (r + 1) registers
      (λ i below. subst (λ (k : ℕ). Holding ss done table k (get_or registers i no_register)) (omega arith) (held (suc i) (omega arith)))))
    where
      by : (t : Bool) → holder_from (length registers) (r + 1) table done (tuple_of os) ≡ answer (holder (r + 1) registers os)
          → elim t [ true ↦ Some r | false ↦ holder_from (length registers) (r + 1) table done (tuple_of os) ]
          ≡ answer (elim t [ true ↦ some r | false ↦ holder (r + 1) registers os ])
      by true later = refl
      by false later = later

  pub holder_found : (registers : List Register) → Registers ss done registers table
      → holder_from (length registers) 0 table done (tuple_of os) ≡ answer (holder 0 registers os)
  holder_found registers h =
      found_from 0 registers
      (λ i below. subst (λ (k : ℕ). Holding ss done table k (get_or registers i no_register)) (omega arith) (h.holds i below))

-- a register that is put into the table: its own slots, and those of the others
module _ (r a b c d k e : ℕ) where
  abbrev slots : List (ℕ × ℕ)
  slots = (r, a) ∷ (r + 96, b) ∷ (r + 192, c) ∷ (r + 288, d) ∷ (r + 384, k) ∷ (r + 480, e) ∷ []

  module _ (table : List ℕ) where
    aside : (q other column : ℕ) → q ≡ other + 96 * column → other < 96 → r < 96 → (other ≡ r → ⊥) → get_or (stored_at slots table) q 0 ≡ get_or table q 0
    aside q other column is low few differ =
        stored_else q slots table 0 (omega arith, (omega arith, (omega arith, (omega arith, (omega arith, (omega arith, tt))))))

    module _ (sized : length table ≡ 576) (few : r < 96) where
      own_0 : get_or (stored_at slots table) r 0 ≡ a
      own_0 =
          stored_own [] r a ((r + 96, b) ∷ (r + 192, c) ∷ (r + 288, d) ∷ (r + 384, k) ∷ (r + 480, e) ∷ []) table 0 (omega arith)
          (omega arith, (omega arith, (omega arith, (omega arith, (omega arith, tt)))))

      own_1 : get_or (stored_at slots table) (r + 96) 0 ≡ b
      own_1 =
          stored_own ((r, a) ∷ []) (r + 96) b ((r + 192, c) ∷ (r + 288, d) ∷ (r + 384, k) ∷ (r + 480, e) ∷ []) table 0 (omega arith)
          (omega arith, (omega arith, (omega arith, (omega arith, tt))))

      own_2 : get_or (stored_at slots table) (r + 192) 0 ≡ c
      own_2 =
          stored_own ((r, a) ∷ (r + 96, b) ∷ []) (r + 192) c ((r + 288, d) ∷ (r + 384, k) ∷ (r + 480, e) ∷ []) table 0 (omega arith)
          (omega arith, (omega arith, (omega arith, tt)))

      own_3 : get_or (stored_at slots table) (r + 288) 0 ≡ d
      own_3 =
          stored_own ((r, a) ∷ (r + 96, b) ∷ (r + 192, c) ∷ []) (r + 288) d ((r + 384, k) ∷ (r + 480, e) ∷ []) table 0 (omega arith)
          (omega arith, (omega arith, tt))

      own_4 : get_or (stored_at slots table) (r + 384) 0 ≡ k
      own_4 = stored_own ((r, a) ∷ (r + 96, b) ∷ (r + 192, c) ∷ (r + 288, d) ∷ []) (r + 384) k ((r + 480, e) ∷ []) table 0 (omega arith) (omega arith, tt)

      own_5 : get_or (stored_at slots table) (r + 480) 0 ≡ e
      own_5 = stored_own ((r, a) ∷ (r + 96, b) ∷ (r + 192, c) ∷ (r + 288, d) ∷ (r + 384, k) ∷ []) (r + 480) e [] table 0 (omega arith) tt

holding_stays : (ss : List Statement) (done : ℕ) (table after : List ℕ) (r : ℕ) (register : Register) → Holding ss done table r register
    → ((q column : ℕ) → q ≡ r + 96 * column → get_or after q 0 ≡ get_or table q 0) → Holding ss done after r register
holding_stays ss done table after r register h stay =
    let last : get_or after (r + 480) 0 ≡ get_or table (r + 480) 0 = stay (r + 480) 5 refl in
    record {
      lanes = h.lanes;
      fit = h.fit;
      lane_0 = stay r 0 (omega arith) ∙ h.lane_0;
      lane_1 = stay (r + 96) 1 refl ∙ h.lane_1;
      lane_2 = stay (r + 192) 2 refl ∙ h.lane_2;
      lane_3 = stay (r + 288) 3 refl ∙ h.lane_3;
      count = stay (r + 384) 4 refl ∙ h.count;
      ends = λ s below pending. ap (λ (ending : ℕ). has ending s) last ∙ h.ends s below pending;
      current = h.current ∙ ap (λ (ending : ℕ). eqb (bit_and ending done) 0) (sym last);
    }

-- a new register that holds the tuple
module _ (ss : List Statement) (numbers writers : List ℕ) (named : Names ss (λ s. place_code s.destination) numbers writers)
    (places : (s : ℕ) → s < length ss → place_fits (statement ss s).destination ≡ true) where
  pub registers_more : (done : ℕ) (os : List Operand) (registers : List Register) (table : List ℕ) → lanes_fit (length os) ≡ true → all operand_fits os ≡ true
      → length registers < 96 → Registers ss done registers table
      → Registers ss done (registers ++ holding os ∷ []) (hold_tuple numbers writers (tuple_of os) done (length registers) table)
  registers_more done os registers table lanes fit few h =
      record {
        sized = stored_length (slots n (lane_code os 0) (lane_code os 1) (lane_code os 2) (lane_code os 3) (length os) ending) table ∙ h.sized;
        holds = λ r below. by r below (below_or_not r n);
      }
    where
      n : ℕ
      n = length registers

      ending : ℕ
      ending = endings numbers writers (tuple_of os) done

      after : List ℕ
      after = hold_tuple numbers writers (tuple_of os) done n table

      own : Holding ss done after n (holding os)
      own =
          let last : get_or after (n + 480) 0 ≡ ending = own_5 n (lane_code os 0) (lane_code os 1) (lane_code os 2) (lane_code os 3) (length os) ending table h.sized few in
          record {
            lanes = lanes;
            fit = fit;
            lane_0 = own_0 n (lane_code os 0) (lane_code os 1) (lane_code os 2) (lane_code os 3) (length os) ending table h.sized few;
            lane_1 = own_1 n (lane_code os 0) (lane_code os 1) (lane_code os 2) (lane_code os 3) (length os) ending table h.sized few;
            lane_2 = own_2 n (lane_code os 0) (lane_code os 1) (lane_code os 2) (lane_code os 3) (length os) ending table h.sized few;
            lane_3 = own_3 n (lane_code os 0) (lane_code os 1) (lane_code os 2) (lane_code os 3) (length os) ending table h.sized few;
            count = own_4 n (lane_code os 0) (lane_code os 1) (lane_code os 2) (lane_code os 3) (length os) ending table h.sized few;
            ends = λ s below pending.
                ap (λ (set-of : ℕ). has set-of s) last ∙ ends_named ss numbers writers named os done s (laned os lanes) fit below (places s below) pending;
            current = sym (ap (λ (set-of : ℕ). eqb (bit_and set-of done) 0) last ∙ made_current (writers_of numbers writers (tuple_of os)) done);
          }

      by : (r : ℕ) → r < length (registers ++ holding os ∷ []) → (r < n) ⊎ (n ≤ r) → Holding ss done after r (get_or (registers ++ holding os ∷ []) r no_register)
      by r below (inl low) =
          rw (get_or-append registers (holding os ∷ []) no_register r low)
          (holding_stays ss done table after r (get_or registers r no_register) (h.holds r low) λ q column is.
          aside n (lane_code os 0) (lane_code os 1) (lane_code os 2) (lane_code os 3) (length os) ending table q r column is (omega arith) few
          (λ (same : r ≡ n). omega arith))
      by r below (inr high) =
          let this : r ≡ n = omega (arith, length-append registers (holding os ∷ [])) in
          rw (this, get_or-append_seam registers (holding os) [] no_register) own

-- "it is current until a statement, packed or single, writes one of those places"
holding_ended : (ss : List Statement) (done s : ℕ) (table : List ℕ) (r : ℕ) (register : Register) → s < length ss → has done s ≡ false
    → Holding ss done table r register → Holding ss (join done (only s)) table r (ended (statement ss s).destination register)
holding_ended ss done s table r register below pending h =
    record {
      lanes = h.lanes;
      fit = h.fit;
      lane_0 = h.lane_0;
      lane_1 = h.lane_1;
      lane_2 = h.lane_2;
      lane_3 = h.lane_3;
      count = h.count;
      ends = λ t inside open-still. h.ends t inside (neither_left (has done t) (has (only s) t) (sym (has_join done (only s) t) ∙ open-still));
      current =
          sym
          (current_then (get_or table (r + 480) 0) done s
          ∙ ap (λ (x : Bool). x && not (has (get_or table (r + 480) 0) s)) (sym h.current)
          ∙ ap (λ (x : Bool). register.current && not x) (h.ends s below pending));
    }

pub registers_ended : (ss : List Statement) (done s : ℕ) (registers : List Register) (table : List ℕ) → s < length ss → has done s ≡ false
    → Registers ss done registers table → Registers ss (join done (only s)) (map (ended (statement ss s).destination) registers) table
registers_ended ss done s registers table below pending h =
    record {
      sized = h.sized;
      holds = λ r low.
          rw (get_or-map (ended (statement ss s).destination) registers r no_register)
          (holding_ended ss done s table r (get_or registers r no_register) below pending
          (h.holds r (omega (arith, length-map registers (ended (statement ss s).destination)))));
    }

-- the statements of a unit, one after the other, none of them done before
abbrev pub Pending : List Statement → ℕ → List ℕ → Type 0
Pending ss done [] = Unit
Pending ss done (s ∷ unit) = (s < length ss) × ((has done s ≡ false) × Pending ss (join done (only s)) unit)

pub registers_ended_by : (ss : List Statement) (unit : List ℕ) (done : ℕ) (registers : List Register) (table : List ℕ) → Pending ss done unit
    → Registers ss done registers table → Registers ss (with_unit unit done) (ended_by (places_of ss unit) registers) table
registers_ended_by ss [] done registers table pending h = h
registers_ended_by ss (s ∷ unit) done registers table pending h =
    registers_ended_by ss unit (join done (only s)) (map (ended (statement ss s).destination) registers) table pending.1.1
    (registers_ended ss done s registers table pending.0 pending.1.0 h)
