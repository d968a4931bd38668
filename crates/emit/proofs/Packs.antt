-- A pack over the tables: "fetches left, then right", "Then O. Then the destination."
use Rattle.std.proofs.Common.{◌≡◌, ℕ, ◌+◌, ◌*◌, ◌<◌, ◌≤◌, Bool, true, false, eqb, List, [], ◌∷◌, ◌++◌, map, length, sym, refl, ap, ◌∙◌, subst, add-zero, arith, length-append}
use mathlib.Core.Option.{Option, none, some}
use Rattle.std.specs.Prelude.{Option as Found, Some, None}
use lib.ListN.{length-map}
use Rattle.basics.specs.Choice.{pick}
use Rattle.basics.specs.Lists.{all}
use Rattle.basics.specs.Sets.{join}
use Rattle.meaning.specs.declared.Operand.{Operand}
use Rattle.meaning.specs.declared.Operand.TheVariants.{Held}
use Rattle.meaning.specs.declared.Statement.{Statement}
use Rattle.meaning.specs.Block.{statement, left, right}
use Rattle.meaning.specs.List.{O}
use Rattle.meaning.specs.Schedule.{with_unit}
use Rattle.meaning.specs.Emission.{Emitted, row_start, next, tuple_at, destinations, fetch_tuple, fetched_in, fetch_right, right_in, operation_of, emit_operation, operated, store_tuple as store_all, homes_from, landed, emit_pack}
use Rattle.theorems.specs.Units.{Every}
use Rattle.theorems.specs.Steps.{holding, places_of, stores, ended_by, away_from}
use Rattle.theorems.proofs.Landing.{each_written, tuple_stored}
use Rattle.theorems.proofs.Simulation.{destinations_held, ended_length}
use Rattle.codes.specs.Codes.{place_code}
use Rattle.codes.proofs.Fits.{destination_fits}
use Rattle.facts.specs.Tied.{Names}
use Rattle.units.specs.Lanes.{lanes_of, member_lanes}
use Rattle.encode.proofs.Encoding.{shorter, record_listed}
use Rattle.registers.specs.declared.Tuple.{Tuple}
use Rattle.registers.specs.Table.{hold_tuple}
use Rattle.registers.proofs.Laned.{Laned, two, four, laned, tuple_of}
use Rattle.registers.proofs.Table.{Registers, Pending, registers_more, registers_ended_by}
use Rattle.lanes.specs.Homes.{set_home, land_tuple}
use Rattle.lanes.proofs.Homes.{Homes, land_places, homes_landed}
use Rattle.fetch.specs.Fetching.{State, Got, got, load_state, holder_in, fetch_state, fetch_right_state, tuple_in}
use Rattle.fetch.proofs.Standing.{Small, Standing, Stands, before_fetch}
use Rattle.fetch.proofs.Fetching.{fetch_standing}
use Rattle.emit.specs.Emitting.{operation_in, operated_from, operated_state, landed_from, emit_pack_state}
use Rattle.emit.proofs.Columns.{Known, lefts_fetchable, rights_fetchable, destinations_fit, destinations_laned, places_fit, left_column, right_column, destination_column, sort_column}
use Rattle.emit.proofs.Storing.{stored_listed, shorter_front}

-- what a pack leaves behind its O
abbrev packed_from : List Statement → List ℕ → Emitted → Emitted
packed_from ss unit o =
    record {
      instructions = o.instructions ++ stores (next o) (destinations ss unit) (row_start (destinations ss unit));
      registers = ended_by (places_of ss unit) o.registers ++ holding (destinations ss unit) ∷ [];
      homes = away_from (places_of ss unit) o.homes ++ homes_from (next o) 0 (destinations ss unit);
    }

pack_is : (ss : List Statement) (unit : List ℕ) (e : Emitted) → emit_pack ss unit e ≡ packed_from ss unit (operated ss unit e)
unfolding emit_pack landed
pack_is ss unit e =
    let o = operated ss unit e in
    let stored = store_all (next o) (destinations ss unit) o in
    ap
    (λ (x : Emitted). record {
      instructions = x.instructions;
      registers = x.registers ++ holding (destinations ss unit) ∷ [];
      homes = x.homes ++ homes_from (next stored) 0 (destinations ss unit);
    })
    (each_written ss unit stored)
    ∙ ap
    (λ (x : Emitted). record {
      instructions = x.instructions;
      registers = ended_by (places_of ss unit) x.registers ++ holding (destinations ss unit) ∷ [];
      homes = away_from (places_of ss unit) x.homes ++ homes_from (next x) 0 (destinations ss unit);
    })
    (tuple_stored (next o) (destinations ss unit) o)

land_is : (ss : List Statement) (unit : List ℕ) (r : ℕ) (table : List ℕ) → Laned unit
    → land_places r 0 (places_of ss unit) table ≡ land_tuple (tuple_of (destinations ss unit)) r table
land_is ss unit r table (two a b) =
    let p = place_code (statement ss a).destination in
    let q = place_code (statement ss b).destination in
    ap (λ (n : ℕ). set_home (set_home table q (4 * r + 1 + 1)) p n) (add-zero (4 * r + 1))
land_is ss unit r table (four a b c d) =
    let p = place_code (statement ss a).destination in
    let q = place_code (statement ss b).destination in
    let s = place_code (statement ss c).destination in
    let t = place_code (statement ss d).destination in
    ap (λ (n : ℕ). set_home (set_home (set_home (set_home table t (4 * r + 1 + 3)) s (4 * r + 1 + 2)) q (4 * r + 1 + 1)) p n) (add-zero (4 * r + 1))

lanes_few : {A : Type 0} {unit : List A} → Laned unit → length unit ≤ 4
lanes_few (two a b) = omega arith
lanes_few (four a b c d) = omega arith

-- a copy has no right
right_copy : (numbers writers : List ℕ) (tuple : Tuple) (operation : ℕ) (s : State) → eqb operation 0 ≡ true
    → fetch_right_state numbers writers tuple operation s ≡ got s 0
unfolding fetch_right_state
right_copy numbers writers tuple operation s e = rw e

right_other : (numbers writers : List ℕ) (tuple : Tuple) (operation : ℕ) (s : State) → eqb operation 0 ≡ false
    → fetch_right_state numbers writers tuple operation s ≡ fetch_state numbers writers tuple s
unfolding fetch_right_state
right_other numbers writers tuple operation s e = rw e

-- a fetch writes no place
fetch_done : (numbers writers : List ℕ) (tuple : Tuple) (s : State) → (fetch_state numbers writers tuple s).after.done ≡ s.done
unfolding fetch_state
fetch_done numbers writers tuple s = by (holder_in tuple s)
  where
    by : (found : Found ℕ) → let fetched : Got = elim found [ Some r ↦ got s r | None ↦ got (load_state numbers writers tuple s) s.used ] in fetched.after.done ≡ s.done
    by (Some r) = refl
    by None = refl

right_done : (numbers writers : List ℕ) (tuple : Tuple) (operation : ℕ) (s : State) → (fetch_right_state numbers writers tuple operation s).after.done ≡ s.done
unfolding fetch_right_state
right_done numbers writers tuple operation s = by (eqb operation 0) (fetch_done numbers writers tuple s)
  where
    by : (t : Bool) → (fetch_state numbers writers tuple s).after.done ≡ s.done → (pick t (got s 0) (fetch_state numbers writers tuple s)).after.done ≡ s.done
    by true h = refl
    by false h = h

pub operated_done : (facts numbers writers unit : List ℕ) (s : State) → (operated_state facts numbers writers (lanes_of unit) s).done ≡ s.done
unfolding operated_state
operated_done facts numbers writers unit s =
    right_done numbers writers (tuple_in facts 128 (lanes_of unit)) (operation_in facts (lanes_of unit)) (fetch_state numbers writers (tuple_in facts 64 (lanes_of unit)) s).after
    ∙ fetch_done numbers writers (tuple_in facts 64 (lanes_of unit)) s

-- O: a copy has no second register
abbrev RightAs : ℕ → ℕ → Option ℕ → Type 0
RightAs operation register none = eqb operation 0 ≡ true
RightAs operation register (some r) = (eqb operation 0 ≡ false) × (register ≡ r)

operation_standing : (base : List ℕ) (ss : List Statement) (operation k ra : ℕ) (rb : Option ℕ) (e : Emitted) (g : Got) → RightAs operation g.register rb
    → Standing base ss e g.after → Small ss (emit_operation operation k ra rb e) → Standing base ss (emit_operation operation k ra rb e) (operated_from operation k ra g)
operation_standing base ss operation k ra none e g is st small =
    record {
      lanes =
          record {
            list =
                rw (st.used, is)
                (record_listed base ss e.instructions g.after.lanes.list (O (next e) operation k ra none) st.lanes.list small.short);
            homes = st.lanes.homes;
          };
      registers = st.registers;
      used = st.used;
    }
operation_standing base ss operation k ra (some r) e g is st small =
    record {
      lanes =
          record {
            list =
                rw (st.used, is.0, is.1)
                (record_listed base ss e.instructions g.after.lanes.list (O (next e) operation k ra (some r)) st.lanes.list small.short);
            homes = st.lanes.homes;
          };
      registers = st.registers;
      used = st.used;
    }

module _ (base : List ℕ) (ss : List Statement) (facts numbers writers : List ℕ) (known : Known ss facts)
    (named : Names ss (λ s. place_code s.destination) numbers writers) where
  abbrev operated_with : Tuple → Tuple → ℕ → ℕ → State → State
  operated_with l r operation k s =
      operated_from operation k (fetch_state numbers writers l s).register (fetch_right_state numbers writers r operation (fetch_state numbers writers l s).after)

  operated_is : (unit : List ℕ) (s : State) → Laned unit → Every (λ t. t < length ss) unit
      → operated_state facts numbers writers (lanes_of unit) s
      ≡ operated_with (tuple_of (tuple_at left ss unit)) (tuple_of (tuple_at right ss unit)) (operation_of ss unit) (length unit) s
  unfolding operated_state
  operated_is unit s shape range =
      ap (λ (t : Tuple). operated_with t (tuple_in facts 128 (lanes_of unit)) (operation_in facts (lanes_of unit)) (length unit) s) (left_column ss facts known unit shape range)
      ∙ ap (λ (t : Tuple). operated_with (tuple_of (tuple_at left ss unit)) t (operation_in facts (lanes_of unit)) (length unit) s) (right_column ss facts known unit shape range)
      ∙ ap (λ (n : ℕ). operated_with (tuple_of (tuple_at left ss unit)) (tuple_of (tuple_at right ss unit)) n (length unit) s) (sort_column ss facts known unit shape range)

  operated_standing : (unit : List ℕ) (e : Emitted) (s : State) → Laned unit → Every (λ t. t < length ss) unit
      → all (λ t. eqb (statement ss t).operation (operation_of ss unit)) unit ≡ true → Stands base ss e s
      → Stands base ss (operated ss unit e) (operated_state facts numbers writers (lanes_of unit) s)
  unfolding operated
  operated_standing unit e s shape range one h small = rw (operated_is unit s shape range) (by (eqb operation 0) refl small)
    where
      operation : ℕ
      operation = operation_of ss unit

      l : List Operand
      l = tuple_at left ss unit

      r : List Operand
      r = tuple_at right ss unit

      taken : Got
      taken = fetch_state numbers writers (tuple_of l) s

      before_operation : (rb : Option ℕ) (x : Emitted) → Small ss (emit_operation operation (length unit) (fetched_in l e) rb x) → Small ss x
      before_operation rb x k =
          record { short = shorter ss x.instructions (O (next x) operation (length unit) (fetched_in l e) rb) k.short; few = k.few }

      by : (copy : Bool) → eqb operation 0 ≡ copy
          → Small ss (emit_operation operation (length unit) (fetched_in l e) (right_in copy r (fetch_tuple l e)) (fetch_right copy r (fetch_tuple l e)))
          → Standing base ss (emit_operation operation (length unit) (fetched_in l e) (right_in copy r (fetch_tuple l e)) (fetch_right copy r (fetch_tuple l e)))
          (operated_with (tuple_of l) (tuple_of r) operation (length unit) s)
      by true c k =
          let f = fetch_standing base ss numbers writers named (destination_fits ss known.fit) l e s (lefts_fetchable ss facts known unit shape range) h (before_operation none (fetch_tuple l e) k) in
          rw (right_copy numbers writers (tuple_of r) operation taken.after c, f.register)
          (operation_standing base ss operation (length unit) (fetched_in l e) none (fetch_tuple l e) (got taken.after 0) c f.after k)
      by false c k =
          let rb = some (fetched_in r (fetch_tuple l e)) in
          let k2 = before_operation rb (fetch_tuple r (fetch_tuple l e)) k in
          let f = fetch_standing base ss numbers writers named (destination_fits ss known.fit) l e s (lefts_fetchable ss facts known unit shape range) h (before_fetch ss r (fetch_tuple l e) k2) in
          let g = fetch_standing base ss numbers writers named (destination_fits ss known.fit) r (fetch_tuple l e) taken.after (rights_fetchable ss facts known unit shape range one c) (λ small-then. f.after) k2 in
          rw (right_other numbers writers (tuple_of r) operation taken.after c, f.register)
          (operation_standing base ss operation (length unit) (fetched_in l e) rb (fetch_tuple r (fetch_tuple l e)) (fetch_state numbers writers (tuple_of r) taken.after) (c, g.register) g.after k)

  -- "Then the destination", and what is written from then on
  landed_standing : (unit : List ℕ) (members : ℕ) (o : Emitted) (t : State) → Laned unit → Every (λ s. s < length ss) unit → Pending ss t.done unit
      → join t.done members ≡ with_unit unit t.done → Standing base ss o t → Small ss (packed_from ss unit o)
      → Standing base ss (packed_from ss unit o) (landed_from numbers writers (tuple_of (destinations ss unit)) members t)
  landed_standing unit members o t shape range pending joined st small =
      let d = destinations ss unit in
      let ps = places_of ss unit in
      let size : length (ended_by ps o.registers ++ holding d ∷ []) ≡ next o + 1 = length-append (ended_by ps o.registers) (holding d ∷ []) ∙ ap (λ (n : ℕ). n + 1) (ended_length ps o.registers) in
      let few : next o < 96 = omega (arith, size, small.few) in
      let stay : Homes (away_from ps o.homes ++ homes_from (next o) 0 (map Held ps)) (land_places (next o) 0 ps t.lanes.homes) =
      homes_landed (next o) ps o.homes t.lanes.homes few (omega (arith, length-map unit (λ s. (statement ss s).destination), lanes_few shape)) (places_fit ss facts known unit range) st.lanes.homes in
      let more : Registers ss (with_unit unit t.done) (ended_by ps o.registers ++ holding d ∷ []) (hold_tuple numbers writers (tuple_of d) (with_unit unit t.done) (length (ended_by ps o.registers)) t.registers) =
      registers_more ss numbers writers named (destination_fits ss known.fit) (with_unit unit t.done) d (ended_by ps o.registers) t.registers
      (destinations_laned ss facts known unit shape) (destinations_fit ss facts known unit range) (omega (arith, ended_length ps o.registers))
      (registers_ended_by ss unit t.done o.registers t.registers pending st.registers) in
      record {
        lanes =
            record {
              list =
                  rw st.used
                  (stored_listed base ss (next o) d o t.lanes.list (laned d (destinations_laned ss facts known unit shape)) (destinations_fit ss facts known unit range) st.lanes.list small.short);
              homes = rw (st.used, ← land_is ss unit (next o) t.lanes.homes shape, destinations_held ss unit) stay;
            };
        registers = rw (joined, st.used, ← ended_length ps o.registers) more;
        used = omega (arith, size, st.used, few);
      }

  pub pack_standing : (unit : List ℕ) (e : Emitted) (s : State) → Laned unit → Every (λ t. t < length ss) unit
      → all (λ t. eqb (statement ss t).operation (operation_of ss unit)) unit ≡ true → Pending ss s.done unit
      → ((done : ℕ) → join done (member_lanes (lanes_of unit)) ≡ with_unit unit done) → Stands base ss e s
      → Stands base ss (emit_pack ss unit e) (emit_pack_state facts numbers writers (lanes_of unit) s)
  unfolding emit_pack_state
  pack_standing unit e s shape range one pending members h small =
      let o = operated ss unit e in
      let t = operated_state facts numbers writers (lanes_of unit) s in
      let small-after : Small ss (packed_from ss unit o) = subst (Small ss) (pack_is ss unit e) small in
      let size : length (ended_by (places_of ss unit) o.registers ++ holding (destinations ss unit) ∷ []) ≡ next o + 1 =
      length-append (ended_by (places_of ss unit) o.registers) (holding (destinations ss unit) ∷ []) ∙ ap (λ (n : ℕ). n + 1) (ended_length (places_of ss unit) o.registers) in
      let small-before : Small ss o =
      record {
        short = shorter_front ss o.instructions (stores (next o) (destinations ss unit) (row_start (destinations ss unit))) small-after.short;
        few = omega (arith, size, small-after.few);
      } in
      let pending-then : Pending ss t.done unit = subst (λ (done : ℕ). Pending ss done unit) (sym (operated_done facts numbers writers unit s)) pending in
      rw (pack_is ss unit e)
      (subst (λ (d : Tuple). Standing base ss (packed_from ss unit o) (landed_from numbers writers d (member_lanes (lanes_of unit)) t))
      (sym (destination_column ss facts known unit shape range))
      (landed_standing unit (member_lanes (lanes_of unit)) o t shape range pending-then (members t.done) (operated_standing unit e s shape range one h small-before) small-after))
