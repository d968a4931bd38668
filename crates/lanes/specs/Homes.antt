-- The variables that stay in lanes, in a table by half their codes: one more than four times the register plus the lane, or 0 in memory.
use Rattle.std.specs.Prelude.{ℕ, ◌+◌, ◌-◌, ◌*◌, ◌/◌, ◌%◌, List, eqb, ltb, get_or, set}
use Rattle.basics.specs.Choice.{pick}
use Rattle.basics.specs.Counting.{count}
use Rattle.registers.specs.declared.Tuple.{Tuple}
use Rattle.registers.specs.Table.{tuple_lane}
use Rattle.encode.specs.declared.Written.{Written}
use Rattle.encode.specs.Records.{Listing, listing, variable_of, write_x}

-- the list so far, and which of its variables are in lanes
pub record InLanes : Type 0 where
  pub list : Listing
  pub homes : List ℕ

abbrev pub in_lanes : List ℕ → List ℕ → Written → InLanes
in_lanes out homes w = record { list = listing out w; homes = homes }

abbrev pub home_at : List ℕ → ℕ → ℕ
home_at homes code = get_or homes (code / 2) 0

-- nothing has the code 0, and no home
abbrev pub set_home : List ℕ → ℕ → ℕ → List ℕ
set_home homes code value = pick (ltb 0 (code / 2)) (set homes (code / 2) value) homes

-- "A variable written by a pack stays in its lane." The lowest lane that has it counts.
abbrev pub land_tuple : Tuple → ℕ → List ℕ → List ℕ
land_tuple tuple r homes =
    set_home
    (set_home (set_home (set_home homes (tuple_lane tuple 3) (4 * r + 1 + 3)) (tuple_lane tuple 2) (4 * r + 1 + 2)) (tuple_lane tuple 1) (4 * r + 1 + 1))
    (tuple_lane tuple 0) (4 * r + 1)

-- "X then comes before that instruction, once per value"
unfoldable pub extract_code : ℕ → InLanes → InLanes
extract_code code e =
    let home = home_at e.homes code in
    pick (eqb home 0) e
    (record { list = write_x ((home - 1) / 4 % 256) ((home - 1) % 4) (variable_of code) e.list; homes = set_home e.homes code 0 })

-- "in operand order"
abbrev pub extract_tuple : Tuple → InLanes → InLanes
extract_tuple tuple e =
    extract_code (tuple_lane tuple 3) (extract_code (tuple_lane tuple 2) (extract_code (tuple_lane tuple 1) (extract_code (tuple_lane tuple 0) e)))

-- "At the end, X for each live-out variable still in a lane, ascending."
unfoldable pub extract_live : ℕ → InLanes → InLanes
extract_live live e = count live 0 (λ v. extract_code (2 + 2 * v)) e
