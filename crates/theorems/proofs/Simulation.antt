-- Emission simulates: after the list that is made for some units, memory with each lane variable at its lane's value is what the units leave,
-- each at one stroke.
use mathlib.Core.Path.{◌≡◌, refl, sym, ap, ap₂, subst, subst₂, ◌∙◌}
use mathlib.Core.Bool.{Bool, true, not}
use mathlib.Core.Option.{Option, none, some}
use mathlib.Core.List.{List, [], ◌∷◌, ◌++◌, map}
use Prim.Native.Nat.{ℕ, zero, suc, ◌+◌, ◌<◌}
use native.Mathlib.Omega.{arith}
use lib.Dec.{eqb, ltb}
use lib.ListN.{length, get_or, length-append, length-map}
use lib.Seq.{get_or-append_seam}
use borrow.Author.Tests.{ltb-true, lt-ltb, eqb-true}
use Rattle.basics.specs.Lists.{all, each, first}
use Rattle.basics.proofs.Tests.{and_left, and_right, and_both}
use Rattle.basics.proofs.Parts.{all_append}
use Rattle.basics.proofs.Finding.{each_append, all_keep, all_implies}
use Rattle.meaning.specs.declared.Place.{Place}
use Rattle.meaning.specs.declared.Place.TheVariants.{Variable, Cell}
use Rattle.meaning.specs.declared.Operand.{Operand}
use Rattle.meaning.specs.declared.Operand.TheVariants.{Nothing, Constant, Held}
use Rattle.meaning.specs.declared.Statement.{Statement}
use Rattle.meaning.specs.Block.{statement, left, right}
use Rattle.meaning.specs.Machine.{operate}
use Rattle.meaning.specs.List.{Instruction, S, O, X}
use Rattle.meaning.specs.Card.{row, operate_lanes}
use Rattle.meaning.specs.Emission.{Register, Home, Emitted, emit, is_home, not_in_lane, written, extract_from, row_start, hold, next, tuple_at, destinations, operation_of, homes_from, emission}
use Rattle.theorems.specs.Memory.{Memory, put, value, result, put_each, at_one_stroke}
use Rattle.theorems.specs.Units.{Units}
use Rattle.theorems.specs.Machine.{Machine, lane_in, second_in, filled, step, machine_after, seen}
use Rattle.theorems.specs.Steps.{from_memory, Load, in_row, constants, gathered, distinct, Pack, holding, Holds, HoldsRight, Reached, start, extracts, loads, single, pack, places_of, stores_from, stores, ended_by, away_from, packed}
use Rattle.theorems.proofs.Rows.{row_tuple, constants_tuple}
use Rattle.theorems.proofs.Steps.{finished, emission_steps}
use Rattle.theorems.proofs.Allowed.{away_all}
use Rattle.theorems.proofs.Seen.{seen_cell, seen_away, seen_operand, seen_operands, seen_put, seen_extract, seen_more, cells_in, AreLanes, seen_landed}
use Rattle.theorems.proofs.Current.{Current, current_length, current_more, current_at, current_ended, current_ended_by, put_each_own}

-- what a state of emission and a machine have in common, where the units so far leave this memory
pub record Agrees (target : Memory) (c : Machine) (e : Emitted) : Type 0 where
  pub sees : seen c.memory c.registers e.homes ≡ target
  pub current : Current target e.registers c.registers
  pub homes : all (λ h. ltb h.register (next e)) e.homes ≡ true

-- X
agrees_extract : (ss : List Statement) (target : Memory) (c : Machine) (e : Emitted) (v : ℕ) (h : Home) → first (is_home v) e.homes ≡ some h
    → Agrees target c e → Agrees target (step ss (X h.register h.lane v) c) (extract_from v (some h) e)
agrees_extract ss target c e v h found a =
    record {
      sees = seen_extract c.memory c.registers e.homes v h found ∙ a.sees;
      current = a.current;
      homes = all_keep (λ x. not (is_home v x)) (λ x. ltb x.register (next e)) e.homes a.homes;
    }

-- a register more
homes_further : (e : Emitted) (registers : List Register) → length registers ≡ next e + 1 → (homes : List Home) → all (λ h. ltb h.register (next e)) homes ≡ true
    → all (λ h. ltb h.register (length registers)) homes ≡ true
homes_further e registers more homes a =
    all_implies (λ h. ltb h.register (next e)) (λ h. ltb h.register (length registers))
    (λ h below. lt-ltb h.register (length registers) (omega (arith, more, ltb-true h.register (next e) below))) homes a

seen_filled : (target : Memory) (c : Machine) (e : Emitted) (values : List ℕ) → Agrees target c e
    → seen c.memory (c.registers ++ values ∷ []) e.homes ≡ target
seen_filled target c e values a =
    seen_more c.memory c.registers values e.homes
    (subst (λ (k : ℕ). all (λ h. ltb h.register k) e.homes ≡ true) (sym (current_length target e.registers c.registers a.current)) a.homes)
    ∙ a.sees

agrees_filled : (target : Memory) (c : Machine) (e : Emitted) (tuple : List Operand) (i : Instruction) (values : List ℕ) → values ≡ map (value target) tuple
    → Agrees target c e → Agrees target (filled c values) (hold tuple (emit i e))
agrees_filled target c e tuple i values is a =
    record {
      sees = seen_filled target c e values a;
      current = current_more target e.registers c.registers (holding tuple) values a.current (λ still. is);
      homes = homes_further e (e.registers ++ holding tuple ∷ []) (length-append e.registers (holding tuple ∷ [])) e.homes a.homes;
    }

-- a load
constant_values : (m : Memory) (cs : List ℕ) → cs ≡ map (value m) (map Constant cs)
constant_values m [] = refl
constant_values m (c ∷ cs) = ap (λ (rest : List ℕ). c ∷ rest) (constant_values m cs)

row_values : (m : Memory) (registers : List (List ℕ)) (homes : List Home) (k a i : ℕ)
    → map m (row k a i) ≡ map (value (seen m registers homes)) (map Held (row k a i))
row_values m registers homes zero a i = refl
row_values m registers homes (suc k) a i = ap₂ ◌∷◌ (sym (seen_cell m registers homes a i)) (row_values m registers homes k a (i + 1))

agrees_load : (ss : List Statement) (target : Memory) (c : Machine) (e : Emitted) (tuple : List Operand) (i : Instruction) → Load e tuple i
    → Agrees target c e → Agrees target (step ss i c) (hold tuple (emit i e))
agrees_load ss target c e tuple i (in_row beginning h) a =
    agrees_filled target c e tuple i (map c.memory (row (length tuple) beginning.0 beginning.1))
    (row_values c.memory c.registers e.homes (length tuple) beginning.0 beginning.1
    ∙ ap₂ (λ (m : Memory) (os : List Operand). map (value m) os) a.sees (sym (row_tuple tuple beginning h).is))
    a
agrees_load ss target c e tuple i (constants cs h) a =
    agrees_filled target c e tuple i cs (constant_values target cs ∙ ap (map (value target)) (sym (constants_tuple tuple cs h))) a
agrees_load ss target c e tuple i (gathered h) a =
    agrees_filled target c e tuple i (map (value c.memory) tuple)
    (sym (seen_operands c.memory c.registers e.homes tuple h) ∙ ap (λ (m : Memory). map (value m) tuple) a.sees)
    a

-- S
agrees_single : (ss : List Statement) (target : Memory) (c : Machine) (e : Emitted) (s : ℕ)
    → from_memory e.homes (statement ss s).left ≡ true → from_memory e.homes (statement ss s).right ≡ true
    → Agrees target c e → Agrees (at_one_stroke ss (s ∷ []) target) (step ss (S s) c) (written (statement ss s).destination (emit (S s) e))
unfolding written
agrees_single ss target c e s l r a =
    let this = statement ss s in
    let same_result : result c.memory this ≡ result target this =
    ap₂ (operate this.operation)
    (sym (seen_operand c.memory c.registers e.homes this.left l) ∙ ap (λ (m : Memory). value m this.left) a.sees)
    (sym (seen_operand c.memory c.registers e.homes this.right r) ∙ ap (λ (m : Memory). value m this.right) a.sees) in
    record {
      sees =
          sym (seen_put c.memory c.registers e.homes this.destination (result c.memory this))
          ∙ ap₂ (λ (m : Memory) (n : ℕ). put m this.destination n) a.sees same_result;
      current = current_ended target this.destination (result target this) e.registers c.registers a.current;
      homes =
          subst (λ (k : ℕ). all (λ h. ltb h.register k) (not_in_lane this.destination e.homes) ≡ true) (sym (length-map e.registers _))
          (away_all (λ h. ltb h.register (next e)) (this.destination ∷ []) e.homes a.homes);
    }

-- O, lane by lane
copy_value : (operation a b : ℕ) → operation ≡ 0 → operate operation a 0 ≡ operate operation a b
unfolding operate
copy_value operation a b e = rw e

operated_copy : (ss : List Statement) (m : Memory) (k : ℕ) (unit : List ℕ) → k ≡ 0 → all (λ s. eqb (statement ss s).operation k) unit ≡ true
    → operate_lanes k (map (value m) (tuple_at left ss unit)) [] ≡ map (λ s. result m (statement ss s)) unit
operated_copy ss m k [] zero-k one = refl
operated_copy ss m k (s ∷ unit) zero-k one =
    let this : (statement ss s).operation ≡ k = eqb-true (statement ss s).operation k (and_left (eqb (statement ss s).operation k) _ one) in
    ap₂ ◌∷◌
    (copy_value k (value m (statement ss s).left) (value m (statement ss s).right) zero-k
    ∙ ap (λ (o : ℕ). operate o (value m (statement ss s).left) (value m (statement ss s).right)) (sym this))
    (operated_copy ss m k unit zero-k (and_right (eqb (statement ss s).operation k) _ one))

operated_both : (ss : List Statement) (m : Memory) (k : ℕ) (unit : List ℕ) → all (λ s. eqb (statement ss s).operation k) unit ≡ true
    → operate_lanes k (map (value m) (tuple_at left ss unit)) (map (value m) (tuple_at right ss unit)) ≡ map (λ s. result m (statement ss s)) unit
operated_both ss m k [] one = refl
operated_both ss m k (s ∷ unit) one =
    let this : (statement ss s).operation ≡ k = eqb-true (statement ss s).operation k (and_left (eqb (statement ss s).operation k) _ one) in
    ap₂ ◌∷◌ (ap (λ (o : ℕ). operate o (value m (statement ss s).left) (value m (statement ss s).right)) (sym this))
    (operated_both ss m k unit (and_right (eqb (statement ss s).operation k) _ one))

operated_is : (ss : List Statement) (target : Memory) (c : Machine) (e : Emitted) (unit : List ℕ) (ra : ℕ) (rb : Option ℕ) → Pack ss unit
    → Holds e ra (tuple_at left ss unit) → HoldsRight ss unit e rb → Agrees target c e
    → operate_lanes (operation_of ss unit) (get_or c.registers ra []) (second_in c.registers rb) ≡ map (λ s. result target (statement ss s)) unit
operated_is ss target c e unit ra none p hl hr a =
    ap (λ (lanes : List ℕ). operate_lanes (operation_of ss unit) lanes []) (current_at target e.registers c.registers ra (tuple_at left ss unit) a.current hl.below hl.is)
    ∙ operated_copy ss target (operation_of ss unit) unit hr p.one_operation
operated_is ss target c e unit ra (some r) p hl hr a =
    ap₂ (operate_lanes (operation_of ss unit))
    (current_at target e.registers c.registers ra (tuple_at left ss unit) a.current hl.below hl.is)
    (current_at target e.registers c.registers r (tuple_at right ss unit) a.current hr.1.below hr.1.is)
    ∙ operated_both ss target (operation_of ss unit) unit p.one_operation

-- the stores
lanes_own : (registers : List (List ℕ)) (r lane : ℕ) (values : List ℕ) → ((j : ℕ) → get_or values j 0 ≡ lane_in registers r (lane + j)) → AreLanes registers r lane values
lanes_own registers r lane [] h = tt
lanes_own registers r lane (n ∷ values) h =
    (h 0 ∙ ap (lane_in registers r) (omega arith), lanes_own registers r (lane + 1) values (λ j. h (suc j) ∙ ap (lane_in registers r) (omega arith)))

cells_row : (k a i : ℕ) (values : List ℕ) (m : Memory) → cells_in (row k a i) values m ≡ put_each (row k a i) values m
cells_row zero a i values m = refl
cells_row (suc k) a i [] m = refl
cells_row (suc k) a i (n ∷ values) m = cells_row k a (i + 1) values (put m (Cell a i) n)

held_same : (ps qs : List Place) → map Held ps ≡ map Held qs → ps ≡ qs
held_same ps qs e = held_back ps ∙ ap (map place) e ∙ sym (held_back qs)
  where
    place : Operand → Place
    place Nothing = Variable 0
    place (Constant c) = Variable 0
    place (Held p) = p

    held_back : (ps : List Place) → ps ≡ map place (map Held ps)
    held_back [] = refl
    held_back (p ∷ ps) = ap (λ (rest : List Place). p ∷ rest) (held_back ps)

stores_run : (ss : List Statement) (registers : List (List ℕ)) (r lane : ℕ) (ps : List Place) (values : List ℕ) (m : Memory) → length values ≡ length ps
    → AreLanes registers r lane values
    → each (step ss) (stores_from r lane (map Held ps)) (record { memory = m; registers = registers }) ≡ record { memory = cells_in ps values m; registers = registers }
stores_run ss registers r lane [] values m sized lanes = refl
stores_run ss registers r lane (Variable v ∷ ps) [] m sized lanes = absurd (omega arith)
stores_run ss registers r lane (Cell a i ∷ ps) [] m sized lanes = absurd (omega arith)
stores_run ss registers r lane (Variable v ∷ ps) (n ∷ values) m sized lanes = stores_run ss registers r (lane + 1) ps values m (omega arith) lanes.1
stores_run ss registers r lane (Cell a i ∷ ps) (n ∷ values) m sized lanes =
    ap (λ (x : ℕ). each (step ss) (stores_from r (lane + 1) (map Held ps)) (record { memory = put m (Cell a i) x; registers = registers })) (sym lanes.0)
    ∙ stores_run ss registers r (lane + 1) ps values (put m (Cell a i) n) (omega arith) lanes.1

stored_run : (ss : List Statement) (registers : List (List ℕ)) (r : ℕ) (ps : List Place) (values : List ℕ) (m : Memory) → length values ≡ length ps
    → get_or registers r [] ≡ values
    → each (step ss) (stores r (map Held ps) (row_start (map Held ps))) (record { memory = m; registers = registers }) ≡ record { memory = cells_in ps values m; registers = registers }
stored_run ss registers r ps values m sized own = by (row_start (map Held ps)) refl
  where
    by : (found : Option (ℕ × ℕ)) → row_start (map Held ps) ≡ found
        → each (step ss) (stores r (map Held ps) found) (record { memory = m; registers = registers }) ≡ record { memory = cells_in ps values m; registers = registers }
    by none e = stores_run ss registers r 0 ps values m sized (lanes_own registers r 0 values (λ j. ap₂ (λ (lanes : List ℕ) (k : ℕ). get_or lanes k 0) (sym own) (omega arith)))
    by (some beginning) e =
        let k = length (map Held ps) in
        let is : ps ≡ row k beginning.0 beginning.1 = held_same ps (row k beginning.0 beginning.1) (row_tuple (map Held ps) beginning e).is in
        ap (λ (x : Memory). record { memory = x; registers = registers })
        (ap (λ (lanes : List ℕ). put_each (row k beginning.0 beginning.1) lanes m) own
        ∙ sym (cells_row k beginning.0 beginning.1 values m)
        ∙ ap (λ (qs : List Place). cells_in qs values m) (sym is))

pub destinations_held : (ss : List Statement) (unit : List ℕ) → destinations ss unit ≡ map Held (places_of ss unit)
destinations_held ss [] = refl
destinations_held ss (s ∷ unit) = ap (λ (rest : List Operand). Held (statement ss s).destination ∷ rest) (destinations_held ss unit)

homes_own : (r lane k : ℕ) (os : List Operand) → r < k → all (λ h. ltb h.register k) (homes_from r lane os) ≡ true
homes_own r lane k [] below = refl
homes_own r lane k (Nothing ∷ os) below = homes_own r (lane + 1) k os below
homes_own r lane k (Constant c ∷ os) below = homes_own r (lane + 1) k os below
homes_own r lane k (Held (Variable v) ∷ os) below = and_both (ltb r k) _ (lt-ltb r k below) (homes_own r (lane + 1) k os below)
homes_own r lane k (Held (Cell a i) ∷ os) below = homes_own r (lane + 1) k os below

-- what a pack leaves, over its places: O's lanes, its stores, and its variables in their lanes
abbrev landed_on : Emitted → List Instruction → List Place → List Operand → Emitted
landed_on e list ps tuple =
    record {
      instructions = list;
      registers = ended_by ps e.registers ++ holding tuple ∷ [];
      homes = away_from ps e.homes ++ homes_from (next e) 0 tuple;
    }

pub ended_length : (ps : List Place) (registers : List Register) → length (ended_by ps registers) ≡ length registers
ended_length [] registers = refl
ended_length (p ∷ ps) registers = ended_length ps _ ∙ length-map registers _

agrees_landed : (ss : List Statement) (target : Memory) (c : Machine) (e : Emitted) (list : List Instruction) (ps : List Place) (values : List ℕ)
    → length values ≡ length ps → distinct ps ≡ true → Agrees target c e
    → Agrees (put_each ps values target) (each (step ss) (stores (next e) (map Held ps) (row_start (map Held ps))) (filled c values)) (landed_on e list ps (map Held ps))
agrees_landed ss target c e list ps values sized apart a =
    subst (λ (after : Machine). Agrees (put_each ps values target) after (landed_on e list ps (map Held ps)))
    (sym (stored_run ss (c.registers ++ values ∷ []) (next e) ps values c.memory sized own))
    (record {
      sees =
          sym (seen_landed (c.registers ++ values ∷ []) (next e) 0 ps values c.memory e.homes sized apart
          (lanes_own (c.registers ++ values ∷ []) (next e) 0 values (λ j. ap₂ (λ (lanes : List ℕ) (k : ℕ). get_or lanes k 0) (sym own) (omega arith))))
          ∙ ap (put_each ps values) (seen_filled target c e values a);
      current =
          current_more (put_each ps values target) (ended_by ps e.registers) c.registers (holding (map Held ps)) values
          (current_ended_by ps values target e.registers c.registers sized a.current) (λ still. put_each_own ps values target sized apart);
      homes =
          all_append (λ h. ltb h.register (length (ended_by ps e.registers ++ holding (map Held ps) ∷ []))) (away_from ps e.homes) (homes_from (next e) 0 (map Held ps))
          (homes_further e (ended_by ps e.registers ++ holding (map Held ps) ∷ []) more (away_from ps e.homes)
          (away_all (λ h. ltb h.register (next e)) ps e.homes a.homes))
          (homes_own (next e) 0 (length (ended_by ps e.registers ++ holding (map Held ps) ∷ [])) (map Held ps) (omega (arith, more)));
    })
  where
    same_count : length c.registers ≡ next e
    same_count = current_length target e.registers c.registers a.current

    own : get_or (c.registers ++ values ∷ []) (next e) [] ≡ values
    own = ap (λ (k : ℕ). get_or (c.registers ++ values ∷ []) k []) (sym same_count) ∙ get_or-append_seam c.registers values [] []

    more : length (ended_by ps e.registers ++ holding (map Held ps) ∷ []) ≡ next e + 1
    more = length-append (ended_by ps e.registers) (holding (map Held ps) ∷ []) ∙ ap (λ (k : ℕ). k + 1) (ended_length ps e.registers)

agrees_pack : (ss : List Statement) (target : Memory) (c : Machine) (e : Emitted) (unit : List ℕ) (ra : ℕ) (rb : Option ℕ) → Pack ss unit
    → Holds e ra (tuple_at left ss unit) → HoldsRight ss unit e rb → Agrees target c e
    → Agrees (at_one_stroke ss unit target)
    (each (step ss) (stores (next e) (destinations ss unit) (row_start (destinations ss unit))) (step ss (O (next e) (operation_of ss unit) (length unit) ra rb) c))
    (packed ss unit ra rb e)
agrees_pack ss target c e unit ra rb p hl hr a =
    rw (destinations_held ss unit, operated_is ss target c e unit ra rb p hl hr a)
    (agrees_landed ss target c e _ (places_of ss unit) (map (λ s. result target (statement ss s)) unit)
    (length-map unit _ ∙ sym (length-map unit _)) p.different a)

-- along all steps
module _ (ss : List Statement) (m : Memory) where
  stroke_more : (units : List (List ℕ)) (unit : List ℕ) → each (at_one_stroke ss) (units ++ unit ∷ []) m ≡ at_one_stroke ss unit (each (at_one_stroke ss) units m)
  stroke_more units unit = each_append (at_one_stroke ss) units (unit ∷ []) m

  run_more : (list more : List Instruction) → machine_after ss (list ++ more) m ≡ each (step ss) more (machine_after ss list m)
  run_more list more = each_append (step ss) list more (record { memory = m; registers = [] })

  single_run : (e : Emitted) (s : ℕ)
      → machine_after ss (written (statement ss s).destination (emit (S s) e)).instructions m ≡ step ss (S s) (machine_after ss e.instructions m)
  unfolding written
  single_run e s = run_more e.instructions (S s ∷ [])

  pub agrees : {n : ℕ} {units : List (List ℕ)} {e : Emitted} → Reached ss n units e → Agrees (each (at_one_stroke ss) units m) (machine_after ss e.instructions m) e
  agrees start = record { sees = refl; current = tt; homes = refl }
  agrees (extracts {units = units} {e = e} v h found r) =
      subst (λ (c : Machine). Agrees (each (at_one_stroke ss) units m) c (extract_from v (some h) e)) (sym (run_more e.instructions (X h.register h.lane v ∷ [])))
      (agrees_extract ss (each (at_one_stroke ss) units m) (machine_after ss e.instructions m) e v h found (agrees r))
  agrees (loads {units = units} {e = e} tuple i t l r) =
      subst (λ (c : Machine). Agrees (each (at_one_stroke ss) units m) c (hold tuple (emit i e))) (sym (run_more e.instructions (i ∷ [])))
      (agrees_load ss (each (at_one_stroke ss) units m) (machine_after ss e.instructions m) e tuple i l (agrees r))
  agrees (single {units = units} {e = e} s below ml mr r) =
      subst₂ (λ (target : Memory) (c : Machine). Agrees target c (written (statement ss s).destination (emit (S s) e)))
      (sym (stroke_more units (s ∷ []))) (sym (single_run e s))
      (agrees_single ss (each (at_one_stroke ss) units m) (machine_after ss e.instructions m) e s ml mr (agrees r))
  agrees (pack {units = units} {e = e} unit ra rb p two hl hr r) =
      let o = O (next e) (operation_of ss unit) (length unit) ra rb in
      let kept = stores (next e) (destinations ss unit) (row_start (destinations ss unit)) in
      subst₂ (λ (target : Memory) (c : Machine). Agrees target c (packed ss unit ra rb e))
      (sym (stroke_more units unit))
      (sym (run_more (e.instructions ++ o ∷ []) kept ∙ ap (each (step ss) kept) (run_more e.instructions (o ∷ []))))
      (agrees_pack ss (each (at_one_stroke ss) units m) (machine_after ss e.instructions m) e unit ra rb p hl hr (agrees r))

-- a place that is looked at when all is done: a cell, or a live-out variable
abbrev pub looks_at : ℕ → Place → Bool
looks_at live (Variable v) = ltb v live
looks_at live (Cell a i) = true

-- Running the list that is made for units that fit leaves every cell and every live-out variable as the units leave them, each at one stroke.
pub emission_runs : (ss : List Statement) (live : ℕ) (units : List (List ℕ)) → Units ss units → (m : Memory) (p : Place) → looks_at live p ≡ true
    → (machine_after ss (emission ss live units) m).memory p ≡ each (at_one_stroke ss) units m p
unfolding emission
emission_runs ss live units u m p looked = by p looked
  where
    seen_at : (p : Place) → seen (machine_after ss (finished ss live units).instructions m).memory (machine_after ss (finished ss live units).instructions m).registers (finished ss live units).homes p
        ≡ each (at_one_stroke ss) units m p
    seen_at p = ap (λ (x : Memory). x p) (agrees ss m (emission_steps ss live units u).reached).sees

    by : (p : Place) → looks_at live p ≡ true → (machine_after ss (finished ss live units).instructions m).memory p ≡ each (at_one_stroke ss) units m p
    by (Variable v) looked =
        sym (seen_away (machine_after ss (finished ss live units).instructions m).memory (machine_after ss (finished ss live units).instructions m).registers
        (finished ss live units).homes v ((emission_steps ss live units u).out v (ltb-true v live looked)))
        ∙ seen_at (Variable v)
    by (Cell a i) looked =
        sym (seen_cell (machine_after ss (finished ss live units).instructions m).memory (machine_after ss (finished ss live units).instructions m).registers
        (finished ss live units).homes a i)
        ∙ seen_at (Cell a i)
