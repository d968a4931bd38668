-- The units one after the other over the tables. Each statement is done once, so what ends a register is still to come when it is made.
use Rattle.std.proofs.Common.{◌≡◌, ℕ, suc, ◌+◌, ◌<◌, ◌≤◌, Bool, true, false, ◌||◌, eqb, ltb, List, [], ◌∷◌, ◌++◌, length, get_or, sym, refl, ap, ◌∙◌, subst, add-zero, arith}
use Rattle.basics.specs.Choice.{pick}
use Rattle.basics.specs.Counting.{count}
use Rattle.basics.specs.Lists.{flat, each}
use Rattle.basics.specs.Sets.{only, join, has}
use Rattle.basics.proofs.Sets.{has_join, has_only}
use Rattle.meaning.specs.declared.Statement.{Statement}
use Rattle.meaning.specs.Schedule.{with_unit}
use Rattle.meaning.specs.Emission.{Emitted, emit_unit}
use Rattle.theorems.specs.Units.{Every, occurs, Fits}
use Rattle.theorems.proofs.Occurs.{occurs_own}
use Rattle.theorems.proofs.Steps.{fits_pack}
use Rattle.codes.specs.Codes.{place_code}
use Rattle.codes.proofs.Equal.{together}
use Rattle.facts.specs.Tied.{Names}
use Rattle.units.specs.declared.Unit.{Unit as Lanes}
use Rattle.units.specs.Words.{unit_word}
use Rattle.units.specs.Lanes.{lanes_of, word_lanes, member_lanes}
use Rattle.units.proofs.Lanes.{Laned as Sized, one, two as of_two, four as of_four, fits_laned, lanes_read, members_with}
use Rattle.registers.proofs.Laned.{two, four}
use Rattle.registers.proofs.Table.{Pending}
use Rattle.fetch.specs.Fetching.{State}
use Rattle.fetch.proofs.Standing.{Stands}
use Rattle.emit.specs.Emitting.{emit_single_state, emit_pack_state, emit_unit_state}
use Rattle.emit.proofs.Columns.{Known}
use Rattle.emit.proofs.Packs.{operated_done, pack_standing}
use Rattle.emit.proofs.Singles.{single_standing}

-- what is done and what is to come: each statement at most once
abbrev pub Once : List Statement → ℕ → List ℕ → Type 0
Once ss done order = (s : ℕ) → s < length ss → pick (has done s) 1 0 + occurs s order ≤ 1

once_first : (ss : List Statement) (done s : ℕ) (order : List ℕ) → s < length ss → Once ss done (s ∷ order) → has done s ≡ false
once_first ss done s order below h = by (has done s) refl (h s below)
  where
    by : (t : Bool) → has done s ≡ t → pick t 1 0 + occurs s (s ∷ order) ≤ 1 → t ≡ false
    by true e k = absurd (omega (arith, k, occurs_own s order))
    by false e k = refl

once_then : (ss : List Statement) (done s : ℕ) (order : List ℕ) → Once ss done (s ∷ order) → Once ss (join done (only s)) order
once_then ss done s order h t below =
    rw (has_join done (only s) t, has_only s t, together s t t s sym sym) (by (has done t) (eqb t s) (h t below))
  where
    by : (a b : Bool) → pick a 1 0 + (pick b 1 0 + occurs t order) ≤ 1 → pick (a || b) 1 0 + occurs t order ≤ 1
    by true true k = omega arith
    by true false k = omega arith
    by false true k = omega arith
    by false false k = omega arith

once_unit : (ss : List Statement) (unit order : List ℕ) (done : ℕ) → Every (λ s. s < length ss) unit → Once ss done (unit ++ order)
    → Pending ss done unit × Once ss (with_unit unit done) order
once_unit ss [] order done range h = (tt, h)
once_unit ss (s ∷ unit) order done range h =
    let later = once_unit ss unit order (join done (only s)) range.1 (once_then ss done s (unit ++ order) h) in
    ((range.0, (once_first ss done s (unit ++ order) range.0 h, later.0)), later.1)

module _ (base : List ℕ) (ss : List Statement) (facts numbers writers : List ℕ) (known : Known ss facts)
    (named : Names ss (λ s. place_code s.destination) numbers writers) where
  unit_standing : (unit : List ℕ) (e : Emitted) (s : State) → Sized unit → Fits ss unit → Pending ss s.done unit → Stands base ss e s
      → Stands base ss (emit_unit ss unit e) (emit_unit_state facts numbers writers (lanes_of unit) s)
  unfolding emit_unit_state
  unit_standing unit e s (one {a} ha) fits pending h =
      single_standing base ss facts known a e s pending.0 pending.1.0 (members_with (one {a = a} ha) s.done) h
  unit_standing unit e s (of_two {a} {b} ha hb) fits pending h =
      pack_standing base ss facts numbers writers known named (a ∷ b ∷ []) e s (two a b) fits.in_range (fits_pack ss a b [] fits).one_operation pending
      (members_with (of_two {a = a} {b = b} ha hb)) h
  unit_standing unit e s (of_four {a} {b} {c} {d} ha hb hc hd) fits pending h =
      pack_standing base ss facts numbers writers known named (a ∷ b ∷ c ∷ d ∷ []) e s (four a b c d) fits.in_range
      (fits_pack ss a b (c ∷ d ∷ []) fits).one_operation pending (members_with (of_four {a = a} {b = b} {c = c} {d = d} ha hb hc hd)) h

  unit_done : (unit : List ℕ) (s : State) → Sized unit → (emit_unit_state facts numbers writers (lanes_of unit) s).done ≡ with_unit unit s.done
  unfolding emit_unit_state emit_single_state emit_pack_state
  unit_done unit s sized =
      by (ltb (length unit) 2)
    where
      by : (t : Bool) → (pick t (emit_single_state facts (lanes_of unit) s) (emit_pack_state facts numbers writers (lanes_of unit) s)).done ≡ with_unit unit s.done
      by true = members_with sized s.done
      by false = ap (λ (done : ℕ). join done (member_lanes (lanes_of unit))) (operated_done facts numbers writers unit s) ∙ members_with sized s.done

  -- The units in order, from number i on.
  pub units_standing : (order : List ℕ) (units : List (List ℕ)) (i : ℕ) (e : Emitted) (s : State) → Every (Fits ss) units
      → ((j : ℕ) → j < length units → get_or order (i + j) 0 ≡ unit_word (get_or units j [])) → Once ss s.done (flat units) → Stands base ss e s
      → Stands base ss (each (emit_unit ss) units e)
      (count (length units) i (λ k. emit_unit_state facts numbers writers (word_lanes (get_or order k 0))) s)
  units_standing order [] i e s fits words h st = st
  units_standing order (unit ∷ units) i e s fits words h st =
      let sized = fits_laned ss unit known.few fits.0 in
      let this : word_lanes (get_or order i 0) ≡ lanes_of unit =
      ap (λ (k : ℕ). word_lanes (get_or order k 0)) (sym (add-zero i)) ∙ ap word_lanes (words 0 (omega arith)) ∙ lanes_read sized in
      let once = once_unit ss unit (flat units) s.done fits.0.in_range h in
      let after = emit_unit_state facts numbers writers (lanes_of unit) s in
      subst
      (λ (lanes : Lanes).
      Stands base ss (each (emit_unit ss) units (emit_unit ss unit e))
      (count (length units) (i + 1) (λ k. emit_unit_state facts numbers writers (word_lanes (get_or order k 0))) (emit_unit_state facts numbers writers lanes s)))
      (sym this)
      (units_standing order units (i + 1) (emit_unit ss unit e) after fits.1
      (λ j below. ap (λ (k : ℕ). get_or order k 0) (omega arith) ∙ words (suc j) (omega arith))
      (subst (λ (done : ℕ). Once ss done (flat units)) (sym (unit_done unit s sized)) once.1)
      (unit_standing unit e s sized fits.0 once.0 st))
