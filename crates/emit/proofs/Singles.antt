-- "A single emits S", over the tables.
use Rattle.std.proofs.Common.{◌≡◌, ℕ, ◌<◌, false, List, [], ◌∷◌, length, sym, ap, ◌∙◌, arith}
use lib.ListN.{length-map}
use Rattle.basics.specs.Sets.{only, join, has}
use Rattle.meaning.specs.declared.Statement.{Statement}
use Rattle.meaning.specs.Block.{statement, statement_price}
use Rattle.meaning.specs.List.{S}
use Rattle.meaning.specs.Emission.{Emitted, ended, written, extract_operand, emit_single}
use Rattle.theorems.proofs.Steps.{operand_registers}
use Rattle.codes.specs.Codes.{place_code, operand_code}
use Rattle.codes.proofs.Fits.{destination_fits, left_fits, right_fits}
use Rattle.units.specs.Lanes.{lanes_of, member_lanes}
use Rattle.encode.specs.Records.{write_s}
use Rattle.encode.proofs.Encoding.{shorter, record_listed}
use Rattle.registers.proofs.Table.{registers_ended}
use Rattle.lanes.specs.Homes.{InLanes, set_home, extract_code}
use Rattle.lanes.proofs.Homes.{homes_dropped}
use Rattle.lanes.proofs.Extraction.{operand_stepped}
use Rattle.fetch.specs.Fetching.{State}
use Rattle.fetch.proofs.Standing.{Stands, operand_shorter}
use Rattle.emit.specs.Emitting.{emit_single_state}
use Rattle.emit.proofs.Columns.{Known}

module _ (base : List ℕ) (ss : List Statement) (facts : List ℕ) (known : Known ss facts) where
  abbrev extracted : ℕ → State → InLanes
  extracted s t = extract_code (operand_code (statement ss s).right) (extract_code (operand_code (statement ss s).left) t.lanes)

  abbrev single_after : ℕ → State → State
  single_after s t =
      record {
        lanes =
            record {
              list = write_s s (statement_price (statement ss s)) (extracted s t).list;
              homes = set_home (extracted s t).homes (place_code (statement ss s).destination) 0;
            };
        registers = t.registers;
        used = t.used;
        done = join t.done (only s);
      }

  single_is : (s : ℕ) (t : State) → s < length ss → join t.done (member_lanes (lanes_of (s ∷ []))) ≡ join t.done (only s)
      → emit_single_state facts (lanes_of (s ∷ [])) t ≡ single_after s t
  unfolding emit_single_state
  single_is s t below members =
      rw (
        members,
        known.stated.lefts s below,
        known.stated.rights s below,
        known.stated.prices s below,
        known.stated.destinations s below,
      )

  pub single_standing : (s : ℕ) (e : Emitted) (t : State) → s < length ss → has t.done s ≡ false
      → join t.done (member_lanes (lanes_of (s ∷ []))) ≡ join t.done (only s) → Stands base ss e t
      → Stands base ss (emit_single ss s e) (emit_single_state facts (lanes_of (s ∷ [])) t)
  unfolding emit_single written
  single_standing s e t below pending members h small =
      let d = (statement ss s).destination in
      let e1 = extract_operand (statement ss s).left e in
      let l1 = extract_code (operand_code (statement ss s).left) t.lanes in
      let e2 = extract_operand (statement ss s).right e1 in
      let l2 = extracted s t in
      let same : e2.registers ≡ e.registers = operand_registers (statement ss s).right e1 ∙ operand_registers (statement ss s).left e in
      let short2 = shorter ss e2.instructions (S s) small.short in
      let short1 = operand_shorter ss (statement ss s).right e1 short2 in
      let st = h (record { short = operand_shorter ss (statement ss s).left e short1; few = omega (arith, small.few, length-map e2.registers (ended d), ap length same) }) in
      let stepped =
      operand_stepped base ss (statement ss s).right e1 l1 (right_fits ss known.fit s below)
      (operand_stepped base ss (statement ss s).left e t.lanes (left_fits ss known.fit s below) (λ short. st.lanes))
      short2 in
      rw (single_is s t below members)
      (record {
        lanes =
            record {
              list = record_listed base ss e2.instructions l2.list (S s) stepped.list small.short;
              homes = homes_dropped d e2.homes l2.homes (destination_fits ss known.fit s below) stepped.homes;
            };
        registers = rw same (registers_ended ss t.done s e.registers t.registers below pending st.registers);
        used = st.used ∙ ap length (sym same) ∙ sym (length-map e2.registers (ended d));
      })
