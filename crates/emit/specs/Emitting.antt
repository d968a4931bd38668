-- "Emission" over the tables: the instructions of each unit, and the extraction at the end.
use Rattle.std.specs.Prelude.{ℕ, ◌+◌, ◌/◌, ◌%◌, ◌^◌, List, replicate, nat_lt, slice_index}
use Rattle.basics.specs.Choice.{pick}
use Rattle.basics.specs.Counting.{count}
use Rattle.basics.specs.Sets.{nobody, join}
use Rattle.codes.specs.Codes.{is_cell_code}
use Rattle.facts.specs.Facts.{fact_at}
use Rattle.units.specs.declared.Unit.{Unit as Lanes}
use Rattle.units.specs.Lanes.{lane, word_lanes, member_lanes}
use Rattle.registers.specs.declared.Tuple.{Tuple}
use Rattle.registers.specs.Table.{tuple_lane, hold_tuple}
use Rattle.encode.specs.Records.{Listing, write_s, write_cells, write_o, nothing_written, headed}
use Rattle.lanes.specs.Homes.{InLanes, in_lanes, set_home, land_tuple, extract_code, extract_live}
use Rattle.fetch.specs.Fetching.{State, Got, tuple_in_row, with_list, fetch_state, fetch_right_state, tuple_in}

-- "A single emits S."
abbrev pub single_lanes : List ℕ → ℕ → InLanes → InLanes
single_lanes facts s e =
    record { list = write_s s (fact_at facts 256 s) e.list; homes = set_home e.homes (fact_at facts 0 s) 0 }

unfoldable pub emit_single_state : List ℕ → Lanes → State → State
emit_single_state facts unit e =
    let s = lane unit 0 in
    record {
      lanes = single_lanes facts s (extract_code (fact_at facts 128 s) (extract_code (fact_at facts 64 s) e.lanes));
      registers = e.registers;
      used = e.used;
      done = join e.done (member_lanes unit);
    }

-- "W if neighbours, D per lane for other cells, nothing for variables"
abbrev pub store_code : ℕ → ℕ → ℕ → Listing → Listing
store_code r lane code l = pick (is_cell_code code) (write_cells 6 r lane code 2 l) l

unfoldable pub store_tuple : ℕ → Tuple → Listing → Listing
store_tuple r tuple l =
    pick (tuple_in_row tuple) (write_cells 5 r tuple.count (tuple_lane tuple 0) 1 l)
    (store_code r 3 (tuple_lane tuple 3) (store_code r 2 (tuple_lane tuple 2) (store_code r 1 (tuple_lane tuple 1) (store_code r 0 (tuple_lane tuple 0) l))))

-- the operation, which the sort has above the kind of destination
abbrev pub operation_in : List ℕ → Lanes → ℕ
operation_in facts unit = fact_at facts 192 (lane unit 0) / 2 % 256

-- "Then O." Its register is the next one.
abbrev pub operated_from : ℕ → ℕ → ℕ → Got → State
operated_from operation k ra right =
    record {
      lanes = with_list right.after.lanes (write_o right.after.used operation k ra right.register right.after.lanes.list);
      registers = right.after.registers;
      used = right.after.used;
      done = right.after.done;
    }

unfoldable pub operated_state : List ℕ → List ℕ → List ℕ → Lanes → State → State
operated_state facts numbers writers unit e =
    let left = fetch_state numbers writers (tuple_in facts 64 unit) e in
    operated_from (operation_in facts unit) unit.count left.register
    (fetch_right_state numbers writers (tuple_in facts 128 unit) (operation_in facts unit) left.after)

-- "Then the destination."
abbrev pub landed_from : List ℕ → List ℕ → Tuple → ℕ → State → State
landed_from numbers writers tuple members e =
    record {
      lanes =
          record { list = store_tuple e.used tuple e.lanes.list; homes = land_tuple tuple e.used e.lanes.homes };
      registers = hold_tuple numbers writers tuple (join e.done members) e.used e.registers;
      used = (e.used + 1) % 2 ^ 8;
      done = join e.done members;
    }

unfoldable pub emit_pack_state : List ℕ → List ℕ → List ℕ → Lanes → State → State
emit_pack_state facts numbers writers unit e =
    landed_from numbers writers (tuple_in facts 0 unit) (member_lanes unit) (operated_state facts numbers writers unit e)

unfoldable pub emit_unit_state : List ℕ → List ℕ → List ℕ → Lanes → State → State
emit_unit_state facts numbers writers unit e =
    pick (nat_lt unit.count 2) (emit_single_state facts unit e) (emit_pack_state facts numbers writers unit e)

abbrev pub nothing_in : List ℕ → List ℕ → List ℕ → State
nothing_in out homes registers = record { lanes = in_lanes out homes nothing_written; registers = registers; used = 0; done = nobody }

unfoldable pub emit_units_state : List ℕ → List ℕ → List ℕ → List ℕ → ℕ → State → State
emit_units_state facts numbers writers order size e =
    count size 0 (λ i. emit_unit_state facts numbers writers (word_lanes (slice_index order i))) e

-- with "At the end, X for each live-out variable still in a lane", and the header in front
unfoldable pub emission_in : List ℕ → List ℕ → List ℕ → List ℕ → ℕ → ℕ → List ℕ → Listing
emission_in facts numbers writers order size live out =
    headed
    (extract_live live (emit_units_state facts numbers writers order size (nothing_in out (replicate 257 0) (replicate 576 0))).lanes).list
