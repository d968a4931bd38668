-- "A pack fetches" over the tables: a current register that holds the tuple, else L, C or G.
use Rattle.std.specs.Prelude.{ℕ, min, ◌+◌, ◌%◌, ◌^◌, Bool, true, ◌&&◌, List, [], ◌∷◌, ◌==◌, Option, Some, None, replicate}
use Rattle.basics.specs.Choice.{pick}
use Rattle.basics.specs.Sets.{nobody}
use Rattle.codes.specs.Codes.{codes_in_row, is_constant_code}
use Rattle.facts.specs.Facts.{fact_at}
use Rattle.units.specs.declared.Unit.{Unit as Lanes}
use Rattle.units.specs.Lanes.{lane}
use Rattle.registers.specs.declared.Tuple.{Tuple}
use Rattle.registers.specs.Table.{tuple_lane, holder_from, hold_tuple}
use Rattle.encode.specs.Records.{Listing, write_cells, nothing_written}
use Rattle.encode_lanes.specs.Lanes.{write_c, write_g}
use Rattle.lanes.specs.Homes.{InLanes, in_lanes, extract_tuple}
use Rattle.fetch.specs.declared.Emission.{Emission}

-- what is emitted so far: the list and the lanes, the table of registers and how many are in use, and the statements whose writes are done
pub record State : Type 0 where
  pub lanes : InLanes
  pub registers : List ℕ
  pub used : ℕ
  pub done : ℕ

abbrev pub state : List ℕ → Emission → State
state out e = record { lanes = in_lanes out e.homes e.written; registers = e.registers; used = e.used; done = e.done }

abbrev pub no_emission : Emission
no_emission = record { homes = replicate 257 0; registers = replicate 576 0; written = nothing_written; used = 0; done = nobody }

-- and the register that a fetch gives
pub record Got : Type 0 where
  pub after : State
  pub register : ℕ

abbrev pub got : State → ℕ → Got
got after register = record { after = after; register = register }

-- "ascending neighbours of one array"
abbrev pub tuple_in_row : Tuple → Bool
tuple_in_row tuple =
    codes_in_row (tuple_lane tuple 0) (tuple_lane tuple 1)
    && pick (tuple.count == 2) true
    (codes_in_row (tuple_lane tuple 1) (tuple_lane tuple 2) && codes_in_row (tuple_lane tuple 2) (tuple_lane tuple 3))

abbrev pub tuple_constant : Tuple → Bool
tuple_constant tuple =
    is_constant_code (tuple_lane tuple 0)
    && (is_constant_code (tuple_lane tuple 1)
    && pick (tuple.count == 2) true (is_constant_code (tuple_lane tuple 2) && is_constant_code (tuple_lane tuple 3)))

abbrev pub with_list : InLanes → Listing → InLanes
with_list e list = record { list = list; homes = e.homes }

-- "else L for ascending neighbours of one array, else C for constants, else G"
abbrev pub gather : Tuple → ℕ → InLanes → InLanes
gather tuple r e = with_list e (write_g r tuple.count tuple.lanes e.list)

unfoldable pub load_tuple : Tuple → ℕ → InLanes → InLanes
load_tuple tuple r e =
    pick (tuple_in_row tuple) (with_list e (write_cells 1 r tuple.count (tuple_lane tuple 0) 1 e.list))
    (pick (tuple_constant tuple) (with_list e (write_c r tuple.count tuple.lanes e.list)) (gather tuple r (extract_tuple tuple e)))

abbrev pub load_state : List ℕ → List ℕ → Tuple → State → State
load_state numbers writers tuple s =
    record {
      lanes = load_tuple tuple s.used s.lanes;
      registers = hold_tuple numbers writers tuple s.done s.used s.registers;
      used = (s.used + 1) % 2 ^ 8;
      done = s.done;
    }

abbrev pub holder_in : Tuple → State → Option ℕ
holder_in tuple s = holder_from (min s.used 96) 0 s.registers s.done tuple

unfoldable pub fetch_state : List ℕ → List ℕ → Tuple → State → Got
fetch_state numbers writers tuple s =
    elim (holder_in tuple s) [ Some r ↦ got s r | None ↦ got (load_state numbers writers tuple s) s.used ]

-- a copy has no right
unfoldable pub fetch_right_state : List ℕ → List ℕ → Tuple → ℕ → State → Got
fetch_right_state numbers writers tuple operation s = pick (operation == 0) (got s 0) (fetch_state numbers writers tuple s)

-- the tuple of a unit in one column of the facts
abbrev pub tuple_in : List ℕ → ℕ → Lanes → Tuple
tuple_in facts column unit =
    record {
      lanes = fact_at facts column (lane unit 0) ∷ fact_at facts column (lane unit 1) ∷ fact_at facts column (lane unit 2) ∷ fact_at facts column (lane unit 3) ∷ [];
      count = unit.count;
    }
