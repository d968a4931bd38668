-- The list that is made comes by small steps: each unit of the schedule is some X and loads, and then S, or O with its stores.
use mathlib.Core.Path.{◌≡◌, refl, sym, ap, ap₂, subst, ◌∙◌}
use mathlib.Core.Logic.{◌⊎◌, inl, inr}
use mathlib.Core.Bool.{Bool, true, false, ◌&&◌, ◌||◌, not, true≢false, false≢true}
use mathlib.Core.Option.{Option, none, some}
use mathlib.Core.List.{List, [], ◌∷◌, ◌++◌, map, append-nil}
use Prim.Native.Nat.{ℕ, suc, ◌+◌, ◌≤◌, ◌<◌}
use native.Mathlib.Omega.{arith}
use lib.Dec.{eqb, ltb}
use lib.ListN.{length, get_or, length-append, get_or-append}
use lib.Seq.{get_or-append_seam, append_snoc}
use borrow.Author.Tests.{eqb-true, eq-eqb, lt-ltb, not-true}
use Rattle.basics.specs.Counting.{count}
use Rattle.basics.specs.Lists.{any, all, keep, first, each}
use Rattle.basics.proofs.Tests.{and_left, and_right, and_both}
use Rattle.basics.proofs.Finding.{keep_yes, keep_no}
use Rattle.basics.proofs.Counting.{one_further, count_up}
use Rattle.meaning.specs.declared.Place.TheVariants.{Variable, Cell}
use Rattle.meaning.specs.declared.Operand.{Operand}
use Rattle.meaning.specs.declared.Operand.TheVariants.{Nothing, Constant, Held}
use Rattle.meaning.specs.declared.Statement.{Statement}
use Rattle.meaning.specs.Block.{statement, same, left, right}
use Rattle.meaning.proofs.Paths.{Apart}
use Rattle.meaning.specs.List.{L, C, G, lanes_fit}
use Rattle.meaning.specs.Emission.{Register, Home, Emitted, emit, is_home, extract_from, extract, extract_operand, emit_single, same_operand, same_tuple, holder, row_start, constants_of, hold, next, load_instruction, before_load, load, fetch_tuple, fetched_in, tuple_at, destinations, fetch_right, right_in, operation_of, emit_operation, operated, store_tuple, landed, emit_pack, emit_unit, nothing_emitted}
use Rattle.theorems.proofs.Puts.{same_true}
use Rattle.theorems.proofs.Occurs.{every_all, every_map}
use Rattle.theorems.proofs.Units.{fits_filled}
use Rattle.theorems.proofs.Independence.{write_apart}
use Rattle.theorems.proofs.Landing.{landed_packed}
use Rattle.theorems.specs.Units.{Every, Pairwise, Alike, Fits, Units}
use Rattle.theorems.specs.Steps.{distinct, from_memory, has_operand, Tuple, in_row, constants, gathered, Pack, no_register, holding, Holds, Reached, start, extracts, loads, single, pack}

-- what is not in a lane stays out of the lanes
kept_away : (v w : ℕ) (homes : List Home) → any (is_home w) homes ≡ false → any (is_home w) (keep (λ h. not (is_home v h)) homes) ≡ false
kept_away v w [] e = refl
kept_away v w (h ∷ homes) e = by (is_home v h) (is_home w h) refl refl e (kept_away v w homes)
  where
    by : (t u : Bool) → is_home v h ≡ t → is_home w h ≡ u → u || any (is_home w) homes ≡ false
        → (any (is_home w) homes ≡ false → any (is_home w) (keep (λ h. not (is_home v h)) homes) ≡ false)
        → any (is_home w) (keep (λ h. not (is_home v h)) (h ∷ homes)) ≡ false
    by true false t u away rest = rw (keep_no (λ x. not (is_home v x)) h homes (ap not t)) (rest away)
    by false false t u away rest = rw (keep_yes (λ x. not (is_home v x)) h homes (ap not t), u) (rest away)
    by true true t u away rest = absurd (true≢false away)
    by false true t u away rest = absurd (true≢false away)

gone : (v : ℕ) (homes : List Home) → any (is_home v) (keep (λ h. not (is_home v h)) homes) ≡ false
gone v [] = refl
gone v (h ∷ homes) = by (is_home v h) refl (gone v homes)
  where
    by : (t : Bool) → is_home v h ≡ t → any (is_home v) (keep (λ h. not (is_home v h)) homes) ≡ false
        → any (is_home v) (keep (λ h. not (is_home v h)) (h ∷ homes)) ≡ false
    by true t rest = rw (keep_no (λ x. not (is_home v x)) h homes (ap not t)) rest
    by false t rest = rw (keep_yes (λ x. not (is_home v x)) h homes (ap not t), t) rest

-- what is not found is not there
abbrev NotFound : ℕ → List Home → Option Home → Type 0
NotFound v homes none = any (is_home v) homes ≡ false
NotFound v homes (some h) = Unit

not_found : (v : ℕ) (homes : List Home) → NotFound v homes (first (is_home v) homes)
not_found v [] = refl
not_found v (h ∷ homes) = by (is_home v h) refl (first (is_home v) homes) (not_found v homes)
  where
    by : (t : Bool) → is_home v h ≡ t → (found : Option Home) → NotFound v homes found
        → NotFound v (h ∷ homes) (elim t [ true ↦ some h | false ↦ found ])
    by true t found rest = tt
    by false t none rest = rw t rest
    by false t (some other) rest = tt

-- X: the variable is in memory from then on, and so is what was; the registers stay
extract_away : (v : ℕ) (e : Emitted) → any (is_home v) (extract v e).homes ≡ false
unfolding extract
extract_away v e = by (first (is_home v) e.homes) (not_found v e.homes)
  where
    by : (found : Option Home) → NotFound v e.homes found → any (is_home v) (extract_from v found e).homes ≡ false
    by none away = away
    by (some h) away = gone v e.homes

extract_keeps : (v w : ℕ) (e : Emitted) → any (is_home w) e.homes ≡ false → any (is_home w) (extract v e).homes ≡ false
unfolding extract
extract_keeps v w e away = by (first (is_home v) e.homes)
  where
    by : (found : Option Home) → any (is_home w) (extract_from v found e).homes ≡ false
    by none = away
    by (some h) = kept_away v w e.homes away

extract_registers : (v : ℕ) (e : Emitted) → (extract v e).registers ≡ e.registers
unfolding extract
extract_registers v e = by (first (is_home v) e.homes)
  where
    by : (found : Option Home) → (extract_from v found e).registers ≡ e.registers
    by none = refl
    by (some h) = refl

operand_away : (o : Operand) (e : Emitted) → from_memory (extract_operand o e).homes o ≡ true
operand_away Nothing e = refl
operand_away (Constant c) e = refl
operand_away (Held (Variable v)) e = ap not (extract_away v e)
operand_away (Held (Cell a i)) e = refl

in_memory : (homes : List Home) (v : ℕ) → not (any (is_home v) homes) ≡ true → any (is_home v) homes ≡ false
in_memory homes v e = not-true (any (is_home v) homes) e

operand_keeps : (o other : Operand) (e : Emitted) → from_memory e.homes other ≡ true → from_memory (extract_operand o e).homes other ≡ true
operand_keeps Nothing other e away = away
operand_keeps (Constant c) other e away = away
operand_keeps (Held (Variable v)) Nothing e away = refl
operand_keeps (Held (Variable v)) (Constant c) e away = refl
operand_keeps (Held (Variable v)) (Held (Variable w)) e away = ap not (extract_keeps v w e (in_memory e.homes w away))
operand_keeps (Held (Variable v)) (Held (Cell a i)) e away = refl
operand_keeps (Held (Cell a i)) other e away = away

pub operand_registers : (o : Operand) (e : Emitted) → (extract_operand o e).registers ≡ e.registers
operand_registers Nothing e = refl
operand_registers (Constant c) e = refl
operand_registers (Held (Variable v)) e = extract_registers v e
operand_registers (Held (Cell a i)) e = refl

-- and so for G's operands, "lane 0 up"
each_keeps : (os : List Operand) (other : Operand) (e : Emitted) → from_memory e.homes other ≡ true → from_memory (each extract_operand os e).homes other ≡ true
each_keeps [] other e away = away
each_keeps (o ∷ os) other e away = each_keeps os other (extract_operand o e) (operand_keeps o other e away)

each_away : (os : List Operand) (e : Emitted) → all (from_memory (each extract_operand os e).homes) os ≡ true
each_away [] e = refl
each_away (o ∷ os) e =
    and_both (from_memory (each extract_operand os (extract_operand o e)).homes o) _ (each_keeps os o (extract_operand o e) (operand_away o e)) (each_away os (extract_operand o e))

pub each_registers : (os : List Operand) (e : Emitted) → (each extract_operand os e).registers ≡ e.registers
each_registers [] e = refl
each_registers (o ∷ os) e = each_registers os (extract_operand o e) ∙ operand_registers o e

-- "exactly this tuple"
same_operand_lem : (o other : Operand) → same_operand o other ≡ true → o ≡ other
same_operand_lem Nothing Nothing e = refl
same_operand_lem Nothing (Constant d) e = absurd (false≢true e)
same_operand_lem Nothing (Held q) e = absurd (false≢true e)
same_operand_lem (Constant c) Nothing e = absurd (false≢true e)
same_operand_lem (Constant c) (Constant d) e = ap Constant (eqb-true c d e)
same_operand_lem (Constant c) (Held q) e = absurd (false≢true e)
same_operand_lem (Held p) Nothing e = absurd (false≢true e)
same_operand_lem (Held p) (Constant d) e = absurd (false≢true e)
same_operand_lem (Held p) (Held q) e = ap Held (same_true p q e)

same_tuple_lem : (os others : List Operand) → same_tuple os others ≡ true → os ≡ others
same_tuple_lem [] [] e = refl
same_tuple_lem [] (other ∷ others) e = absurd (false≢true e)
same_tuple_lem (o ∷ os) [] e = absurd (false≢true e)
same_tuple_lem (o ∷ os) (other ∷ others) e =
    ap₂ ◌∷◌ (same_operand_lem o other (and_left (same_operand o other) _ e)) (same_tuple_lem os others (and_right (same_operand o other) _ e))

-- a register that is found is there, current, and holds the tuple
record Found (tuple : List Operand) (r : ℕ) (registers : List Register) (found : ℕ) : Type 0 where
  place : ℕ
  at : found ≡ r + place
  below : place < length registers
  is : get_or registers place no_register ≡ holding tuple

abbrev Finds : List Operand → ℕ → List Register → Option ℕ → Type 0
Finds tuple r registers none = Unit
Finds tuple r registers (some found) = Found tuple r registers found

found_here : (tuple : List Operand) (register : Register) → register.current && same_tuple register.tuple tuple ≡ true → register ≡ holding tuple
found_here tuple register e =
    ap₂ (λ (t : List Operand) (c : Bool). record { tuple = t; current = c })
    (same_tuple_lem register.tuple tuple (and_right register.current _ e)) (and_left register.current _ e)

finds : (tuple : List Operand) (r : ℕ) (registers : List Register) → Finds tuple r registers (holder r registers tuple)
finds tuple r [] = tt
finds tuple r (register ∷ registers) =
    by (register.current && same_tuple register.tuple tuple) refl (holder (r + 1) registers tuple) (finds tuple (r + 1) registers)
  where
    by : (t : Bool) → register.current && same_tuple register.tuple tuple ≡ t
        → (found : Option ℕ) → Finds tuple (r + 1) registers found
        → Finds tuple r (register ∷ registers) (elim t [ true ↦ some r | false ↦ found ])
    by true e found rest = record { place = 0; at = omega arith; below = omega arith; is = found_here tuple register e }
    by false e none rest = tt
    by false e (some found) rest =
        record { place = suc rest.place; at = omega (arith, rest.at); below = omega (arith, rest.below); is = rest.is }

-- the steps of extraction
module _ {ss : List Statement} {n : ℕ} {units : List (List ℕ)} where
  extract_step : {e : Emitted} (v : ℕ) → Reached ss n units e → Reached ss n units (extract v e)
  unfolding extract
  extract_step {e} v r = by (first (is_home v) e.homes) refl
    where
      by : (found : Option Home) → first (is_home v) e.homes ≡ found → Reached ss n units (extract_from v found e)
      by none f = r
      by (some h) f = extracts v h f r

  operand_step : {e : Emitted} (o : Operand) → Reached ss n units e → Reached ss n units (extract_operand o e)
  operand_step Nothing r = r
  operand_step (Constant c) r = r
  operand_step (Held (Variable v)) r = extract_step v r
  operand_step (Held (Cell a i)) r = r

  each_step : {e : Emitted} (os : List Operand) → Reached ss n units e → Reached ss n units (each extract_operand os e)
  each_step [] r = r
  each_step {e = e} (o ∷ os) r = each_step {e = extract_operand o e} os (operand_step {e = e} o r)

  -- a load
  load_step : {e : Emitted} (tuple : List Operand) → Tuple ss tuple → Reached ss n units e → Reached ss (suc n) units (load tuple e)
  unfolding load
  load_step {e} tuple t r = by (row_start tuple) refl (constants_of tuple) refl
    where
      by : (row : Option (ℕ × ℕ)) → row_start tuple ≡ row → (cs : Option (List ℕ)) → constants_of tuple ≡ cs
          → Reached ss (suc n) units (hold tuple (emit (load_instruction (next e) tuple row cs) (before_load tuple row cs e)))
      by (some beginning) h cs k = loads tuple (L (next e) (length tuple) beginning.0 beginning.1) t (in_row beginning h) r
      by none h (some cs) k = loads tuple (C (next e) cs) t (constants cs k) r
      by none h none k =
          subst (λ (number : ℕ). Reached ss (suc n) units (hold tuple (emit (G number tuple) (each extract_operand tuple e))))
          (ap length (each_registers tuple e))
          (loads tuple (G (next (each extract_operand tuple e)) tuple) t (gathered (each_away tuple e)) (each_step tuple r))

pub load_registers : (tuple : List Operand) (e : Emitted) → (load tuple e).registers ≡ e.registers ++ holding tuple ∷ []
unfolding load
load_registers tuple e = by (row_start tuple) (constants_of tuple)
  where
    by : (row : Option (ℕ × ℕ)) (cs : Option (List ℕ))
        → (before_load tuple row cs e).registers ++ holding tuple ∷ [] ≡ e.registers ++ holding tuple ∷ []
    by (some beginning) cs = refl
    by none (some cs) = refl
    by none none = ap (λ (registers : List Register). registers ++ holding tuple ∷ []) (each_registers tuple e)

-- registers stay where more are written behind them
holds_behind : (e after : Emitted) (register : Register) (r : ℕ) (tuple : List Operand)
    → after.registers ≡ e.registers ++ register ∷ [] → Holds e r tuple → Holds after r tuple
holds_behind e after register r tuple more h =
    record {
      below = omega (arith, h.below, ap length more, length-append e.registers (register ∷ []));
      is =
          ap (λ (registers : List Register). get_or registers r no_register) more
          ∙ get_or-append e.registers (register ∷ []) no_register r h.below
          ∙ h.is;
    }

holds_last : (e after : Emitted) (tuple : List Operand) → after.registers ≡ e.registers ++ holding tuple ∷ [] → Holds after (next e) tuple
holds_last e after tuple more =
    record {
      below = omega (arith, ap length more, length-append e.registers (holding tuple ∷ []));
      is = ap (λ (registers : List Register). get_or registers (next e) no_register) more ∙ get_or-append_seam e.registers (holding tuple) [] no_register;
    }

-- "A pack fetches": a register that holds the tuple, by at most one load
record Fetched (ss : List Statement) (n : ℕ) (units : List (List ℕ)) (tuple : List Operand) (e : Emitted) (r : ℕ) : Type 0 where
  count : ℕ
  few : count ≤ suc n
  reached : Reached ss count units e
  holds : Holds e r tuple

fetch_step : {ss : List Statement} {n : ℕ} {units : List (List ℕ)} {e : Emitted} (tuple : List Operand) → Tuple ss tuple
    → Reached ss n units e → Fetched ss n units tuple (fetch_tuple tuple e) (fetched_in tuple e)
unfolding fetch_tuple fetched_in
fetch_step {ss} {n} {units} {e} tuple t r = by (holder 0 e.registers tuple) (finds tuple 0 e.registers)
  where
    by : (found : Option ℕ) → Finds tuple 0 e.registers found
        → Fetched ss n units tuple (elim found [ some number ↦ e | none ↦ load tuple e ]) (elim found [ some number ↦ number | none ↦ next e ])
    by none h =
        record { count = suc n; few = omega arith; reached = load_step tuple t r; holds = holds_last e (load tuple e) tuple (load_registers tuple e) }
    by (some found) h =
        let at : found ≡ h.place = omega (arith, h.at) in
        record {
          count = n;
          few = omega arith;
          reached = r;
          holds = subst (λ (number : ℕ). Holds e number tuple) (sym at) (record { below = h.below; is = h.is });
        }

fetch_keeps : (e : Emitted) (tuple other : List Operand) (r : ℕ) → Holds e r other → Holds (fetch_tuple tuple e) r other
unfolding fetch_tuple
fetch_keeps e tuple other r h = by (holder 0 e.registers tuple)
  where
    by : (found : Option ℕ) → Holds (elim found [ some number ↦ e | none ↦ load tuple e ]) r other
    by none = holds_behind e (load tuple e) (holding tuple) r other (load_registers tuple e) h
    by (some found) = h

-- a pack's operands
module _ (ss : List Statement) (unit : List ℕ) (p : Pack ss unit) where
  left_tuple : Tuple ss (tuple_at left ss unit)
  left_tuple = record { position = left; unit = unit; there = p.in_range; lanes = p.lanes; is = refl }

  none_copies : (k : ℕ) → eqb k 0 ≡ false → (members : List ℕ) → all (λ s. ltb s (length ss)) members ≡ true
      → all (λ s. eqb (statement ss s).operation k) members ≡ true → all (has_operand ss right) members ≡ true
  none_copies k other [] range one = refl
  none_copies k other (s ∷ members) range one =
      let this : (statement ss s).operation ≡ k = eqb-true _ k (and_left (eqb (statement ss s).operation k) _ one) in
      and_both (has_operand ss right s) _
      (and_both (ltb s (length ss)) _ (and_left (ltb s (length ss)) _ range) (ap (λ (o : ℕ). not (eqb o 0)) this ∙ ap not other))
      (none_copies k other members (and_right (ltb s (length ss)) _ range) (and_right (eqb (statement ss s).operation k) _ one))

  right_tuple : eqb (operation_of ss unit) 0 ≡ false → Tuple ss (tuple_at right ss unit)
  right_tuple other =
      record {
        position = right;
        unit = unit;
        there = none_copies (operation_of ss unit) other unit p.in_range p.one_operation;
        lanes = p.lanes;
        is = refl;
      }

  pack_step : {units : List (List ℕ)} {e : Emitted} → Reached ss 0 units e → Reached ss 0 (units ++ unit ∷ []) (emit_pack ss unit e)
  unfolding emit_pack operated
  pack_step {units} {e} r = by (eqb (operation_of ss unit) 0) refl (fetch_step (tuple_at left ss unit) left_tuple r)
    where
      l : List Operand
      l = tuple_at left ss unit

      by : (copy : Bool) → eqb (operation_of ss unit) 0 ≡ copy → Fetched ss 0 units l (fetch_tuple l e) (fetched_in l e)
          → Reached ss 0 (units ++ unit ∷ [])
          (landed (destinations ss unit)
          (store_tuple (next (fetch_right copy (tuple_at right ss unit) (fetch_tuple l e))) (destinations ss unit)
          (emit_operation (operation_of ss unit) (length unit) (fetched_in l e) (right_in copy (tuple_at right ss unit) (fetch_tuple l e))
          (fetch_right copy (tuple_at right ss unit) (fetch_tuple l e)))))
      by true copy f =
          rw (landed_packed ss unit (fetched_in l e) none (fetch_tuple l e))
          (pack {n = f.count} unit (fetched_in l e) none p (omega (arith, f.few)) f.holds (eqb-true (operation_of ss unit) 0 copy) f.reached)
      by false other f =
          let second = fetch_step (tuple_at right ss unit) (right_tuple other) f.reached in
          let rb = some (fetched_in (tuple_at right ss unit) (fetch_tuple l e)) in
          rw (landed_packed ss unit (fetched_in l e) rb (fetch_tuple (tuple_at right ss unit) (fetch_tuple l e)))
          (pack {n = second.count} unit (fetched_in l e) rb p (omega (arith, f.few, second.few))
          (fetch_keeps (fetch_tuple l e) (tuple_at right ss unit) l (fetched_in l e) f.holds)
          (other, second.holds)
          second.reached)

-- a single
single_step : {ss : List Statement} {units : List (List ℕ)} {e : Emitted} (s : ℕ) → s < length ss → Reached ss 0 units e
    → Reached ss 0 (units ++ (s ∷ []) ∷ []) (emit_single ss s e)
unfolding emit_single
single_step {ss} {units} {e} s below r =
    let first = extract_operand (statement ss s).left e in
    single s below
    (operand_keeps (statement ss s).right (statement ss s).left first (operand_away (statement ss s).left e))
    (operand_away (statement ss s).right first)
    (operand_step (statement ss s).right (operand_step (statement ss s).left r))

-- from what is known of scheduled units
apart_distinct : (ss : List Statement) (members : List ℕ) → Pairwise (Apart ss) members → distinct (map (λ s. (statement ss s).destination) members) ≡ true
apart_distinct ss [] apart = refl
apart_distinct ss (s ∷ members) apart =
    and_both _ _
    (every_map (Apart ss s) (λ t. (statement ss t).destination) (λ q. not (same (statement ss s).destination q)) (write_apart ss s) members apart.0)
    (apart_distinct ss members apart.1)

pub fits_pack : (ss : List Statement) (s t : ℕ) (rest : List ℕ) → Fits ss (s ∷ t ∷ rest) → Pack ss (s ∷ t ∷ rest)
fits_pack ss s t rest f =
    record {
      lanes = by f.lanes;
      in_range = every_all (λ (x : ℕ). x < length ss) (λ x. ltb x (length ss)) (λ x below. lt-ltb x (length ss) below) (s ∷ t ∷ rest) f.in_range;
      one_operation =
          and_both _ _ (eq-eqb (statement ss s).operation (statement ss s).operation refl)
          (every_all (Alike ss s) (λ x. eqb (statement ss x).operation (statement ss s).operation)
          (λ x h. eq-eqb (statement ss x).operation (statement ss s).operation (sym (eqb-true (statement ss s).operation (statement ss x).operation (and_left (eqb (statement ss s).operation (statement ss x).operation) _ h))))
          (t ∷ rest) f.alike.0);
      different = apart_distinct ss (s ∷ t ∷ rest) f.apart;
    }
  where
    by : (length (s ∷ t ∷ rest) ≡ 1) ⊎ ((length (s ∷ t ∷ rest) ≡ 2) ⊎ (length (s ∷ t ∷ rest) ≡ 4)) → lanes_fit (length (s ∷ t ∷ rest)) ≡ true
    by (inl one) = absurd (omega arith)
    by (inr (inl two)) = ap lanes_fit two
    by (inr (inr four)) = ap lanes_fit four

-- a unit, and one unit after the other
unit_step_lem : {ss : List Statement} {units : List (List ℕ)} {e : Emitted} (unit : List ℕ) → Fits ss unit → Reached ss 0 units e
    → Reached ss 0 (units ++ unit ∷ []) (emit_unit ss unit e)
unit_step_lem {ss} [] f r = absurd (omega (arith, fits_filled ss [] f))
unit_step_lem (s ∷ []) f r = single_step s f.in_range.0 r
unit_step_lem {ss} (s ∷ t ∷ rest) f r = pack_step ss (s ∷ t ∷ rest) (fits_pack ss s t rest f) r

units_step : {ss : List Statement} {before : List (List ℕ)} {e : Emitted} (units : List (List ℕ)) → Every (Fits ss) units → Reached ss 0 before e
    → Reached ss 0 (before ++ units) (each (emit_unit ss) units e)
units_step {ss} {before} {e} [] f r = rw (append-nil before) r
units_step {ss} {before} {e} (unit ∷ units) f r =
    subst (λ (so_far : List (List ℕ)). Reached ss 0 so_far (each (emit_unit ss) units (emit_unit ss unit e))) (append_snoc before unit units)
    (units_step {before = before ++ unit ∷ []} {e = emit_unit ss unit e} units f.1 (unit_step_lem unit f.0 r))

-- The end: all units by small steps, and no live-out variable in a lane.
abbrev pub finished : List Statement → ℕ → List (List ℕ) → Emitted
finished ss live units = count live 0 extract (each (emit_unit ss) units nothing_emitted)

pub record Closed (ss : List Statement) (live : ℕ) (units : List (List ℕ)) (e : Emitted) : Type 0 where
  pub reached : Reached ss 0 units e
  pub out : (v : ℕ) → v < live → any (is_home v) e.homes ≡ false

one_out : (ss : List Statement) (units : List (List ℕ)) (j : ℕ) (e : Emitted) → Closed ss j units e → Closed ss (j + 1) units (extract j e)
one_out ss units j e c =
    record {
      reached = extract_step j c.reached;
      out = one_further (λ v. any (is_home v) (extract j e).homes ≡ false) j (λ v low. extract_keeps j v e (c.out v low)) (extract_away j e);
    }

pub emission_steps : (ss : List Statement) (live : ℕ) (units : List (List ℕ)) → Units ss units → Closed ss live units (finished ss live units)
emission_steps ss live units u =
    count_up (λ (j : ℕ) (e : Emitted). Closed ss j units e) extract live (each (emit_unit ss) units nothing_emitted)
    (record { reached = units_step units u.fit start; out = λ v below. absurd (omega arith) })
    (λ j e below c. one_out ss units j e c)
