-- The limits: at most 160 instructions and 96 registers, by what each step of emission adds. A pack of two takes at most 3 registers and
-- 5 instructions, each X counted to the pack that made the value, a pack of four 3 and 7, a single 0 and 1.
use mathlib.Core.Path.{◌≡◌, refl, sym, ap, ap₂, subst, ◌∙◌}
use mathlib.Core.Bool.{true, ◌&&◌, not}
use mathlib.Core.Option.{Option, none, some}
use mathlib.Core.List.{List, [], ◌∷◌, ◌++◌, map, map-append}
use Prim.Native.Nat.{ℕ, suc, ◌+◌, ◌*◌, ◌^◌, ◌≤◌, ◌<◌}
use native.Mathlib.Omega.{arith}
use lib.Dec.{eqb, ltb}
use lib.ListN.{length, get_or, length-append, length-map}
use lib.Seq.{get_or-append_seam}
use borrow.Author.Tests.{ltb-true, lt-ltb, eqb-true, eq-eqb}
use Rattle.basics.specs.Lists.{all, first, flat}
use Rattle.basics.proofs.Tests.{and_left, and_right, and_both}
use Rattle.basics.proofs.Parts.{all_append}
use Rattle.basics.proofs.Finding.{each_append, first_passes, first_all, keep_shorter, all_keep, all_implies, flat_append}
use Rattle.meaning.specs.declared.Place.{Place}
use Rattle.meaning.specs.declared.Operand.{Operand}
use Rattle.meaning.specs.declared.Operand.TheVariants.{Constant}
use Rattle.meaning.specs.Block.{Block, statement, left, right, declares_operand}
use Rattle.meaning.specs.Format.{is_operand}
use Rattle.meaning.specs.List.{Instruction, S, O, X, lanes_fit, is_next, is_written, one_written, is_allowed, written_after, allowed}
use Rattle.meaning.specs.Emission.{Register, Home, Emitted, emit, is_home, ended, not_in_lane, written, extract_from, row_start, hold, next, tuple_at, destinations, operation_of, homes_from}
use Rattle.meaning.proofs.Bounds.{lanes_two}
use Rattle.theorems.specs.Steps.{Tuple, Load, in_row, constants, gathered, Pack, holding, Holds, HoldsRight, Reached, start, extracts, loads, single, pack, places_of, stores, ended_by, away_from, packed}
use Rattle.theorems.proofs.Operands.{constant_fits}
use Rattle.theorems.proofs.Records.{constants_fit}
use Rattle.theorems.proofs.Readable.{Readable}
use Rattle.theorems.proofs.Instructions.{operation_fits, instruction_fits}
use Rattle.theorems.proofs.Rows.{row_tuple, constants_tuple}
use Rattle.theorems.proofs.Named.{operation_known, tuple_there, tuple_declared, tuple_fits, destinations_declared}
use Rattle.theorems.proofs.Allowed.{widths, written_by, widths_ended, widths_ended_by, width_at, widths_length, away_length, away_all, lanes_used, stored_none, stored_fit, allowed_more, allowed_one, row_declared_lem, home_fits, home_stays, register_there, homes_fit, stored_allowed}

-- what holds after these units, and so many loads for the next one
pub record Sound (b : Block) (n : ℕ) (units : List (List ℕ)) (e : Emitted) : Type 0 where
  pub lanes : written_by e.instructions [] ≡ widths e.registers
  pub homes : all (home_fits b (widths e.registers)) e.homes ≡ true
  pub list : next e ≤ 96 → allowed b [] e.instructions ≡ true
  pub fit : all instruction_fits e.instructions ≡ true
  pub short : 2 * (length e.instructions + length e.homes) ≤ 5 * length (flat units) + 2 * n
  pub few : 2 * next e ≤ 3 * length (flat units) + 2 * n

-- more instructions behind those that are allowed
allowed_behind : (b : Block) (list more : List Instruction) (lanes : List ℕ) → written_by list [] ≡ lanes → allowed b [] list ≡ true → allowed b lanes more ≡ true
    → allowed b [] (list ++ more) ≡ true
allowed_behind b list more lanes e so_far next-ones = allowed_more b list more [] so_far (rw e next-ones)

-- one unit more
units_length : (units : List (List ℕ)) (unit : List ℕ) → length (flat (units ++ unit ∷ [])) ≡ length (flat units) + length unit
units_length units unit = ap length (flat_append units unit) ∙ length-append (flat units) unit

-- X
extract_sound : (b : Block) (n : ℕ) (units : List (List ℕ)) (e : Emitted) (v : ℕ) (h : Home) → first (is_home v) e.homes ≡ some h
    → Sound b n units e → Sound b n units (extract_from v (some h) e)
extract_sound b n units e v h found s =
    let i = X h.register h.lane v in
    let this : h.variable ≡ v = eqb-true h.variable v (first_passes (is_home v) e.homes h found) in
    let there : is_allowed b (widths e.registers) i ≡ true =
    subst (λ (w : ℕ). is_allowed b (widths e.registers) (X h.register h.lane w) ≡ true) this
    (first_all (is_home v) (home_fits b (widths e.registers)) e.homes h found s.homes) in
    record {
      lanes = each_append _ e.instructions (i ∷ []) [] ∙ s.lanes;
      homes = all_keep (λ x. not (is_home v x)) (home_fits b (widths e.registers)) e.homes s.homes;
      list = λ few. allowed_behind b e.instructions (i ∷ []) (widths e.registers) s.lanes (s.list few) (allowed_one b i (widths e.registers) there);
      fit = all_append instruction_fits e.instructions (i ∷ []) s.fit refl;
      short = omega (arith, s.short, length-append e.instructions (i ∷ []), keep_shorter (is_home v) e.homes h found);
      few = s.few;
    }

-- a load
constants_fit_lem : (cs : List ℕ) → all constant_fits (map Constant cs) ≡ true → all (λ c. ltb c (2 ^ 32)) cs ≡ true
constants_fit_lem [] e = refl
constants_fit_lem (c ∷ cs) e = and_both (ltb c (2 ^ 32)) _ (and_left (ltb c (2 ^ 32)) _ e) (constants_fit_lem cs (and_right (ltb c (2 ^ 32)) _ e))

constants_length : (tuple : List Operand) (cs : List ℕ) → tuple ≡ map Constant cs → length cs ≡ length tuple
constants_length tuple cs e = sym (ap length e ∙ length-map cs Constant)

tuple_lanes : (b : Block) (tuple : List Operand) → Tuple b.statements tuple → lanes_fit (length tuple) ≡ true
tuple_lanes b tuple t = ap lanes_fit (ap length t.is ∙ length-map t.unit _) ∙ t.lanes

load_writes : (e : Emitted) (tuple : List Operand) (i : Instruction) (lanes : List ℕ) → Load e tuple i → written_after lanes i ≡ lanes ++ length tuple ∷ []
load_writes e tuple i lanes (in_row beginning h) = refl
load_writes e tuple i lanes (constants cs h) = ap (λ (k : ℕ). lanes ++ k ∷ []) (constants_length tuple cs (constants_tuple tuple cs h))
load_writes e tuple i lanes (gathered h) = refl

is_next_lem : (e : Emitted) → next e < 96 → is_next (widths e.registers) (next e) ≡ true
is_next_lem e below = and_both (eqb (next e) (length (widths e.registers))) _ (eq-eqb (next e) (length (widths e.registers)) (sym (widths_length e))) (lt-ltb (next e) 96 below)

module _ (b : Block) (readable : Readable b) (constants_are : all constants_fit b.statements ≡ true) where
  load_allowed : (e : Emitted) (tuple : List Operand) (i : Instruction) → Tuple b.statements tuple → next e < 96 → Load e tuple i
      → is_allowed b (widths e.registers) i ≡ true
  load_allowed e tuple i t below (in_row beginning h) =
      let in_a_row = row_tuple tuple beginning h in
      and_both (is_next (widths e.registers) (next e)) _ (is_next_lem e below)
      (row_declared_lem b (length tuple) beginning.0 beginning.1 in_a_row.some_lane
      (ap (all (declares_operand b.variables b.lengths)) (sym in_a_row.is) ∙ tuple_declared b readable tuple t))
  load_allowed e tuple i t below (constants cs h) = is_next_lem e below
  load_allowed e tuple i t below (gathered h) = and_both (is_next (widths e.registers) (next e)) _ (is_next_lem e below) (tuple_declared b readable tuple t)

  load_fits : (e : Emitted) (tuple : List Operand) (i : Instruction) → Tuple b.statements tuple → Load e tuple i → instruction_fits i ≡ true
  load_fits e tuple i t (in_row beginning h) = tuple_lanes b tuple t
  load_fits e tuple i t (constants cs h) =
      let are = constants_tuple tuple cs h in
      and_both (lanes_fit (length cs)) _ (ap lanes_fit (constants_length tuple cs are) ∙ tuple_lanes b tuple t)
      (constants_fit_lem cs (ap (all constant_fits) (sym are) ∙ tuple_fits b.statements constants_are tuple t))
  load_fits e tuple i t (gathered h) =
      and_both (lanes_fit (length tuple) && all is_operand tuple) _
      (and_both (lanes_fit (length tuple)) _ (tuple_lanes b tuple t) (tuple_there b readable tuple t))
      (tuple_fits b.statements constants_are tuple t)

  load_sound : (n : ℕ) (units : List (List ℕ)) (e : Emitted) (tuple : List Operand) (i : Instruction) → Tuple b.statements tuple → Load e tuple i
      → Sound b n units e → Sound b (suc n) units (hold tuple (emit i e))
  load_sound n units e tuple i t l s =
      let wider : widths (e.registers ++ holding tuple ∷ []) ≡ widths e.registers ++ length tuple ∷ [] =
      map-append (λ (r : Register). length r.tuple) e.registers (holding tuple ∷ []) in
      let longer = length-append e.registers (holding tuple ∷ []) in
      record {
        lanes =
            each_append _ e.instructions (i ∷ []) []
            ∙ ap (λ (so_far : List ℕ). written_after so_far i) s.lanes
            ∙ load_writes e tuple i (widths e.registers) l
            ∙ sym wider;
        homes =
            subst (λ (all_lanes : List ℕ). all (home_fits b all_lanes) e.homes ≡ true) (sym wider)
            (all_implies (home_fits b (widths e.registers)) (home_fits b (widths e.registers ++ length tuple ∷ []))
            (home_stays b (widths e.registers) (length tuple)) e.homes s.homes);
        list = λ few.
            allowed_behind b e.instructions (i ∷ []) (widths e.registers) s.lanes (s.list (omega (arith, longer)))
            (allowed_one b i (widths e.registers) (load_allowed e tuple i t (omega (arith, longer)) l));
        fit = all_append instruction_fits e.instructions (i ∷ []) s.fit (and_both (instruction_fits i) true (load_fits e tuple i t l) refl);
        short = omega (arith, s.short, length-append e.instructions (i ∷ []));
        few = omega (arith, s.few, longer);
      }

  -- S
  not_in_lane_length : (p : Place) (homes : List Home) → length (not_in_lane p homes) ≤ length homes
  not_in_lane_length p homes = away_length (p ∷ []) homes

  single_sound : (units : List (List ℕ)) (e : Emitted) (s : ℕ) → s < length b.statements → Sound b 0 units e
      → Sound b 0 (units ++ (s ∷ []) ∷ []) (written (statement b.statements s).destination (emit (S s) e))
  unfolding written
  single_sound units e s below h =
      let p = (statement b.statements s).destination in
      let kept = widths_ended p e.registers in
      record {
        lanes = each_append _ e.instructions (S s ∷ []) [] ∙ h.lanes ∙ sym kept;
        homes =
            subst (λ (all_lanes : List ℕ). all (home_fits b all_lanes) (not_in_lane p e.homes) ≡ true) (sym kept)
            (away_all (home_fits b (widths e.registers)) (p ∷ []) e.homes h.homes);
        list = λ few.
            allowed_behind b e.instructions (S s ∷ []) (widths e.registers) h.lanes (h.list (omega (arith, length-map e.registers (ended p))))
            (allowed_one b (S s) (widths e.registers) (lt-ltb s (length b.statements) below));
        fit = all_append instruction_fits e.instructions (S s ∷ []) h.fit refl;
        short = omega (arith, h.short, length-append e.instructions (S s ∷ []), not_in_lane_length p e.homes, units_length units (s ∷ []));
        few = omega (arith, h.few, length-map e.registers (ended p), units_length units (s ∷ []));
      }

  -- O and what follows it
  second_written : (e : Emitted) (unit : List ℕ) (rb : Option ℕ) → HoldsRight b.statements unit e rb → one_written (widths e.registers) (length unit) rb ≡ true
  second_written e unit none h = refl
  second_written e unit (some r) h =
      register_there b (widths e.registers) r (length unit) (omega (arith, widths_length e, h.1.below))
      (width_at e r (tuple_at right b.statements unit) h.1 ∙ length-map unit _)

  operation_fits_lem : (unit : List ℕ) (e : Emitted) (rb : Option ℕ) → Pack b.statements unit → HoldsRight b.statements unit e rb → operation_fits (operation_of b.statements unit) rb ≡ true
  operation_fits_lem unit e none p h = eq-eqb (operation_of b.statements unit) 0 h
  operation_fits_lem unit e (some r) p h =
      and_both (not (eqb (operation_of b.statements unit) 0)) _ (ap not h.0) (operation_known b readable (get_or unit 0 0) (by unit p.in_range (lanes_two (length unit) p.lanes).0))
    where
      by : (members : List ℕ) → all (λ s. ltb s (length b.statements)) members ≡ true → 2 ≤ length members → get_or members 0 0 < length b.statements
      by [] range two = absurd (omega arith)
      by (s ∷ members) range two = ltb-true s (length b.statements) (and_left (ltb s (length b.statements)) _ range)

  module _ (n : ℕ) (units : List (List ℕ)) (e : Emitted) (unit : List ℕ) (ra : ℕ) (rb : Option ℕ) (p : Pack b.statements unit) (two : n ≤ 2)
      (hl : Holds e ra (tuple_at left b.statements unit)) (hr : HoldsRight b.statements unit e rb) (s : Sound b n units e) where
    d_length : length (destinations b.statements unit) ≡ length unit
    d_length = length-map unit _

    after_is : widths (ended_by (places_of b.statements unit) e.registers ++ holding (destinations b.statements unit) ∷ []) ≡ widths e.registers ++ length unit ∷ []
    after_is =
        map-append (λ (r : Register). length r.tuple) (ended_by (places_of b.statements unit) e.registers) (holding (destinations b.statements unit) ∷ [])
        ∙ ap₂ (λ (front : List ℕ) (k : ℕ). front ++ k ∷ []) (widths_ended_by (places_of b.statements unit) e.registers) d_length

    after_length_lem : length (ended_by (places_of b.statements unit) e.registers ++ holding (destinations b.statements unit) ∷ []) ≡ next e + 1
    after_length_lem =
        sym (length-map (ended_by (places_of b.statements unit) e.registers ++ holding (destinations b.statements unit) ∷ []) (λ r. length r.tuple))
        ∙ ap length after_is ∙ length-append (widths e.registers) (length unit ∷ [])
        ∙ ap (λ (k : ℕ). k + 1) (widths_length e)

    own_below : next e < length (widths e.registers ++ length unit ∷ [])
    own_below = omega (arith, length-append (widths e.registers) (length unit ∷ []), widths_length e)

    own_is : get_or (widths e.registers ++ length unit ∷ []) (next e) 0 ≡ length unit
    own_is =
        ap (λ (k : ℕ). get_or (widths e.registers ++ length unit ∷ []) k 0) (sym (widths_length e))
        ∙ get_or-append_seam (widths e.registers) (length unit) [] 0

    declared : all (declares_operand b.variables b.lengths) (destinations b.statements unit) ≡ true
    declared = destinations_declared b readable unit p.in_range

    operation_allowed : next e < 96
        → is_allowed b (widths e.registers) (O (next e) (operation_of b.statements unit) (length unit) ra rb) ≡ true
    operation_allowed below =
        and_both (is_next (widths e.registers) (next e) && is_written (widths e.registers) ra (length unit)) _
        (and_both (is_next (widths e.registers) (next e)) _ (is_next_lem e below)
        (register_there b (widths e.registers) ra (length unit) (omega (arith, widths_length e, hl.below))
        (width_at e ra (tuple_at left b.statements unit) hl ∙ length-map unit _)))
        (second_written e unit rb hr)

    pack_sound : Sound b 0 (units ++ unit ∷ []) (packed b.statements unit ra rb e)
    pack_sound =
        let o = O (next e) (operation_of b.statements unit) (length unit) ra rb in
        let kept = stores (next e) (destinations b.statements unit) (row_start (destinations b.statements unit)) in
        let written_then : written_by (e.instructions ++ o ∷ []) [] ≡ widths e.registers ++ length unit ∷ [] =
        each_append _ e.instructions (o ∷ []) [] ∙ ap (λ (so_far : List ℕ). so_far ++ length unit ∷ []) s.lanes in
        record {
          lanes =
              each_append _ (e.instructions ++ o ∷ []) kept []
              ∙ stored_none (next e) (destinations b.statements unit) (row_start (destinations b.statements unit)) (written_by (e.instructions ++ o ∷ []) [])
              ∙ written_then
              ∙ sym after_is;
          homes =
              subst
              (λ (all_lanes : List ℕ). all (home_fits b all_lanes) (away_from (places_of b.statements unit) e.homes ++ homes_from (next e) 0 (destinations b.statements unit)) ≡ true)
              (sym after_is)
              (all_append (home_fits b (widths e.registers ++ length unit ∷ [])) (away_from (places_of b.statements unit) e.homes) (homes_from (next e) 0 (destinations b.statements unit))
              (away_all (home_fits b (widths e.registers ++ length unit ∷ [])) (places_of b.statements unit) e.homes
              (all_implies (home_fits b (widths e.registers)) (home_fits b (widths e.registers ++ length unit ∷ [])) (home_stays b (widths e.registers) (length unit)) e.homes s.homes))
              (homes_fit b (widths e.registers ++ length unit ∷ []) (next e) (length unit) own_below own_is 0 (destinations b.statements unit) (omega (arith, d_length)) declared));
          list = λ few.
              allowed_behind b (e.instructions ++ o ∷ []) kept (widths e.registers ++ length unit ∷ []) written_then
              (allowed_behind b e.instructions (o ∷ []) (widths e.registers) s.lanes (s.list (omega (arith, after_length_lem)))
              (allowed_one b o (widths e.registers) (operation_allowed (omega (arith, after_length_lem)))))
              (stored_allowed b (widths e.registers ++ length unit ∷ []) (next e) (length unit) own_below own_is (destinations b.statements unit) d_length declared);
          fit =
              all_append instruction_fits (e.instructions ++ o ∷ []) kept
              (all_append instruction_fits e.instructions (o ∷ []) s.fit
              (and_both (instruction_fits o) true (and_both (lanes_fit (length unit)) _ p.lanes (operation_fits_lem unit e rb p hr)) refl))
              (stored_fit (next e) (destinations b.statements unit) (row_start (destinations b.statements unit)) (ap lanes_fit d_length ∙ p.lanes));
          short =
              omega (
                arith,
                s.short,
                length-append (e.instructions ++ o ∷ []) kept,
                length-append e.instructions (o ∷ []),
                length-append (away_from (places_of b.statements unit) e.homes) (homes_from (next e) 0 (destinations b.statements unit)),
                away_length (places_of b.statements unit) e.homes,
                lanes_used (next e) (destinations b.statements unit),
                d_length,
                units_length units unit,
                (lanes_two (length unit) p.lanes).0,
              );
          few = omega (arith, s.few, after_length_lem, units_length units unit, (lanes_two (length unit) p.lanes).0);
        }

  -- Every state that emission reaches is sound.
  pub sound : {n : ℕ} {units : List (List ℕ)} {e : Emitted} → Reached b.statements n units e → Sound b n units e
  unfolding allowed
  sound start = record { lanes = refl; homes = refl; list = λ few. refl; fit = refl; short = omega arith; few = omega arith }
  sound (extracts {n = n} {units = units} {e = e} v h found r) = extract_sound b n units e v h found (sound r)
  sound (loads {n = n} {units = units} {e = e} tuple i t l r) = load_sound n units e tuple i t l (sound r)
  sound (single {units = units} {e = e} s below ml mr r) = single_sound units e s below (sound r)
  sound (pack {n = n} {units = units} {e = e} unit ra rb p two hl hr r) = pack_sound n units e unit ra rb p two hl hr (sound r)
