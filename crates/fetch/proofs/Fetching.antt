-- "A pack fetches": what the tables say after a load and after a fetch, and which register has the tuple.
use Rattle.std.proofs.Common.{◌≡◌, ℕ, ◌<◌, Bool, true, false, List, length, sym, refl, ap, ◌∙◌, subst, arith}
use mathlib.Core.Option.{Option, none, some}
use Rattle.std.specs.Prelude.{◌≤◌, min, Some, None}
use lib.ListN.{length-map}
use Rattle.basics.specs.Lists.{each}
use Rattle.meaning.specs.declared.Operand.{Operand}
use Rattle.meaning.specs.declared.Operand.TheVariants.{Constant}
use Rattle.meaning.specs.declared.Statement.{Statement}
use Rattle.meaning.specs.Block.{statement}
use Rattle.meaning.specs.List.{L, C, G, lanes_fit}
use Rattle.meaning.specs.Emission.{Register, Emitted, emit, extract_operand, holder, are_in_row, row_start, constants_of, next, load_instruction, before_load, load, fetch_tuple, fetched_in}
use Rattle.theorems.proofs.Steps.{load_registers}
use Rattle.codes.specs.Codes.{place_code}
use Rattle.codes.specs.Fitting.{place_fits}
use Rattle.facts.specs.Tied.{Names}
use Rattle.encode.proofs.Encoding.{shorter, record_listed}
use Rattle.registers.specs.Table.{holder_from, hold_tuple}
use Rattle.registers.proofs.Laned.{laned, tuple_of}
use Rattle.registers.proofs.Table.{Registers, answer, holder_found, registers_more}
use Rattle.lanes.specs.Homes.{InLanes, extract_tuple}
use Rattle.lanes.proofs.Extraction.{Stepped}
use Rattle.fetch.specs.Fetching.{State, Got, got, tuple_in_row, tuple_constant, load_tuple, load_state, holder_in, fetch_state}
use Rattle.fetch.proofs.Tuples.{Fetchable, row_codes, RowAs, row_as, constant_codes, ConstantsAs, constants_as, row_record, constants_record, operands_record, tuple_stepped}
use Rattle.fetch.proofs.Standing.{Small, Standing, Stands, load_next, before_load_lem}

-- "else L for ascending neighbours of one array, else C for constants, else G"
load_stepped : (base : List ℕ) (ss : List Statement) (os : List Operand) (r : ℕ) (e : Emitted) (l : InLanes) → Fetchable os → Stepped base ss e l
    → Stepped base ss (emit (load_instruction r os (row_start os) (constants_of os)) (before_load os (row_start os) (constants_of os) e)) (load_tuple (tuple_of os) r l)
unfolding load_tuple
load_stepped base ss os r e l f h =
    by (are_in_row os) (row_start os) (row_codes os (laned os f.lanes) f.fit) (row_as os (laned os f.lanes) f.fit)
    (tuple_constant (tuple_of os)) (constants_of os) refl
    (subst (λ (t : Bool). ConstantsAs os t (constants_of os)) (sym (constant_codes os (laned os f.lanes) f.fit)) (constants_as os))
  where
    by : (t : Bool) (row : Option (ℕ × ℕ)) → tuple_in_row (tuple_of os) ≡ t → RowAs os t row → (u : Bool) (cs : Option (List ℕ))
        → tuple_constant (tuple_of os) ≡ u → ConstantsAs os u cs
        → Stepped base ss (emit (load_instruction r os row cs) (before_load os row cs e)) (load_tuple (tuple_of os) r l)
    by true none t is u cs c are = absurd is
    by false (some beginning) t is u cs c are = absurd is
    by true (some beginning) t is u cs c are =
        λ short.
        let i = L r (length os) beginning.0 beginning.1 in
        let s = h (shorter ss e.instructions i short) in
        rw (t, is.0, row_record 1 r (length os) beginning.0 beginning.1 1 l.list is.1)
        (record { list = record_listed base ss e.instructions l.list i s.list short; homes = s.homes })
    by false none t is true none c are = absurd are
    by false none t is false (some cs) c are = absurd are
    by false none t is true (some cs) c are =
        λ short.
        let s = h (shorter ss e.instructions (C r cs) short) in
        let fits : lanes_fit (length cs) ≡ true = ap lanes_fit (sym (ap length are ∙ length-map cs Constant)) ∙ f.lanes in
        rw (t, c, are, constants_record r cs l.list (laned cs fits))
        (record { list = record_listed base ss e.instructions l.list (C r cs) s.list short; homes = s.homes })
    by false none t is false none c are =
        λ short.
        let before = each extract_operand os e in
        let taken = extract_tuple (tuple_of os) l in
        let s = tuple_stepped base ss os e l (laned os f.lanes) f.fit h (shorter ss before.instructions (G r os) short) in
        rw (t, c, operands_record ss r os taken.list (laned os f.lanes) f.fit f.there)
        (record { list = record_listed base ss before.instructions taken.list (G r os) s.list short; homes = s.homes })

module _ (base : List ℕ) (ss : List Statement) (numbers writers : List ℕ) (named : Names ss (λ s. place_code s.destination) numbers writers)
    (places : (s : ℕ) → s < length ss → place_fits (statement ss s).destination ≡ true) where
  load_standing : (os : List Operand) (e : Emitted) (s : State) → Fetchable os → Stands base ss e s
      → Stands base ss (load os e) (load_state numbers writers (tuple_of os) s)
  unfolding load
  load_standing os e s f h small =
      let now-standing = h (before_load_lem ss os e small) in
      let stepped = load_stepped base ss os (next e) e s.lanes f (λ short. now-standing.lanes) small.short in
      record {
        lanes = rw now-standing.used (record { list = stepped.list; homes = stepped.homes });
        registers =
            rw now-standing.used
            (subst (λ (registers : List Register). Registers ss s.done registers (hold_tuple numbers writers (tuple_of os) s.done (next e) s.registers)) (sym (load_registers os e))
            (registers_more ss numbers writers named places s.done os e.registers s.registers f.lanes f.fit
            (omega (arith, load_next os e, small.few)) now-standing.registers));
        used = omega (arith, load_next os e, small.few, now-standing.used);
      }

  -- what is emitted after a fetch, and the register that has the tuple
  pub record FetchedAs (e : Emitted) (fetched : Got) (r : ℕ) : Type 0 where
    pub after : Standing base ss e fetched.after
    pub register : fetched.register ≡ r

  found_there : (os : List Operand) (s : State) (r : ℕ) → holder_in (tuple_of os) s ≡ Some r → fetch_state numbers writers (tuple_of os) s ≡ got s r
  unfolding fetch_state
  found_there os s r e = rw (fetch_state, e)

  found_nowhere : (os : List Operand) (s : State) → holder_in (tuple_of os) s ≡ None
      → fetch_state numbers writers (tuple_of os) s ≡ got (load_state numbers writers (tuple_of os) s) s.used
  unfolding fetch_state
  found_nowhere os s e = rw (fetch_state, e)

  pub fetch_standing : (os : List Operand) (e : Emitted) (s : State) → Fetchable os → Stands base ss e s → Small ss (fetch_tuple os e)
      → FetchedAs (fetch_tuple os e) (fetch_state numbers writers (tuple_of os) s) (fetched_in os e)
  unfolding fetch_tuple fetched_in
  fetch_standing os e s f h small = by (holder 0 e.registers os) refl small
    where
      looked_for : next e ≤ 96 → Standing base ss e s → holder_in (tuple_of os) s ≡ answer (holder 0 e.registers os)
      looked_for few st =
          let same : min s.used 96 ≡ next e = omega (arith, st.used, few) in
          ap (λ (n : ℕ). holder_from n 0 s.registers s.done (tuple_of os)) same
          ∙ holder_found ss s.done s.registers os (laned os f.lanes) f.fit e.registers st.registers

      by : (found : Option ℕ) → holder 0 e.registers os ≡ found → Small ss (elim found [ some r ↦ e | none ↦ load os e ])
          → FetchedAs (elim found [ some r ↦ e | none ↦ load os e ]) (fetch_state numbers writers (tuple_of os) s) (elim found [ some r ↦ r | none ↦ next e ])
      by (some r) is k =
          let st = h k in
          rw (found_there os s r (looked_for k.few st ∙ ap answer is)) (record { after = st; register = refl })
      by none is k =
          let st = h (before_load_lem ss os e k) in
          rw (found_nowhere os s (looked_for (before_load_lem ss os e k).few st ∙ ap answer is)) (record { after = load_standing os e s f h k; register = st.used })
