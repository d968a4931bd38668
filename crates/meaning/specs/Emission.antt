-- "Emission": the instructions of each unit, the registers and what they hold, and the variables that stay in lanes.
use Rattle.std.specs.Prelude.{ℕ, ◌+◌, Bool, true, false, ◌&&◌, not, List, [], ◌∷◌, ◌++◌, map, eqb, length, get_or}
use Rattle.std.proofs.Math.Option.{Option, none, some}
use Rattle.basics.specs.Choice.{pick}
use Rattle.basics.specs.Counting.{count}
use Rattle.basics.specs.Lists.{any, keep, first, each}
use Rattle.meaning.specs.declared.Place.{Place}
use Rattle.meaning.specs.declared.Place.TheVariants.{Variable, Cell}
use Rattle.meaning.specs.declared.Operand.{Operand}
use Rattle.meaning.specs.declared.Operand.TheVariants.{Nothing, Constant, Held}
use Rattle.meaning.specs.declared.Statement.{Statement}
use Rattle.meaning.specs.Block.{statement, same, names, operands_in_row, Position, left, right, operand}
use Rattle.meaning.specs.List.{Instruction, S, L, C, G, O, W, D, X}

-- "A register holds the tuple it was fetched from, or for O the destination tuple; it is current until a statement, packed or single,
-- writes one of those places .."
pub record Register : Type 0 where
  pub tuple : List Operand
  pub current : Bool

-- "A variable written by a pack stays in its lane": where it is
pub record Home : Type 0 where
  pub variable : ℕ
  pub register : ℕ
  pub lane : ℕ

-- what has been emitted so far: the instructions, the registers by number, and the variables that are in lanes
pub record Emitted : Type 0 where
  pub instructions : List Instruction
  pub registers : List Register
  pub homes : List Home

abbrev pub emit : Instruction → Emitted → Emitted
emit instruction e =
    record { instructions = e.instructions ++ instruction ∷ []; registers = e.registers; homes = e.homes }

abbrev pub is_home : ℕ → Home → Bool
is_home v h = eqb h.variable v

-- a write: it ends each register whose tuple names the place, and drops what a variable has in a lane: "A value overwritten before that is never
-- extracted."
abbrev pub ended : Place → Register → Register
ended p r = record { tuple = r.tuple; current = r.current && not (any (λ o. names o p) r.tuple) }

abbrev pub not_in_lane : Place → List Home → List Home
not_in_lane (Variable v) homes = keep (λ h. not (is_home v h)) homes
not_in_lane (Cell a i) homes = homes

unfoldable pub written : Place → Emitted → Emitted
written p e =
    record { instructions = e.instructions; registers = map (ended p) e.registers; homes = not_in_lane p e.homes }

-- "X then comes before that instruction, in operand order, once per value": the variable is in memory from then on; "X ends no register"
abbrev pub extract_from : ℕ → Option Home → Emitted → Emitted
extract_from v none e = e
extract_from v (some h) e =
    record {
      instructions = e.instructions ++ X h.register h.lane v ∷ [];
      registers = e.registers;
      homes = not_in_lane (Variable v) e.homes;
    }

unfoldable pub extract : ℕ → Emitted → Emitted
extract v e = extract_from v (first (is_home v) e.homes) e

abbrev pub extract_operand : Operand → Emitted → Emitted
extract_operand Nothing e = e
extract_operand (Constant c) e = e
extract_operand (Held (Variable v)) e = extract v e
extract_operand (Held (Cell a i)) e = e

-- "A single emits S", behind X "in operand order"
unfoldable pub emit_single : List Statement → ℕ → Emitted → Emitted
emit_single ss s e =
    written (statement ss s).destination (emit (S s) (extract_operand (statement ss s).right (extract_operand (statement ss s).left e)))

-- "exactly this tuple": the same operands in the same order
abbrev pub same_operand : Operand → Operand → Bool
same_operand Nothing Nothing = true
same_operand Nothing (Constant d) = false
same_operand Nothing (Held q) = false
same_operand (Constant c) Nothing = false
same_operand (Constant c) (Constant d) = eqb c d
same_operand (Constant c) (Held q) = false
same_operand (Held p) Nothing = false
same_operand (Held p) (Constant d) = false
same_operand (Held p) (Held q) = same p q

abbrev pub same_tuple : List Operand → List Operand → Bool
same_tuple [] [] = true
same_tuple [] (other ∷ others) = false
same_tuple (o ∷ os) [] = false
same_tuple (o ∷ os) (other ∷ others) = same_operand o other && same_tuple os others

-- "a current register that holds exactly this tuple", by its number
abbrev pub holder : ℕ → List Register → List Operand → Option ℕ
holder r [] tuple = none
holder r (register ∷ registers) tuple =
    elim (register.current && same_tuple register.tuple tuple) [ true ↦ some r | false ↦ holder (r + 1) registers tuple ]

-- where the tuple is "ascending neighbours of one array": the array and the first index
abbrev pub are_in_row : List Operand → Bool
are_in_row [] = true
are_in_row (o ∷ []) = true
are_in_row (o ∷ other ∷ rest) = operands_in_row o other && are_in_row (other ∷ rest)

abbrev pub row_start : List Operand → Option (ℕ × ℕ)
row_start [] = none
row_start (Nothing ∷ rest) = none
row_start (Constant c ∷ rest) = none
row_start (Held (Variable v) ∷ rest) = none
row_start (Held (Cell a i) ∷ rest) = pick (are_in_row (Held (Cell a i) ∷ rest)) (some (a, i)) none

-- the constants of a tuple, where it has nothing else
abbrev pub with_constant : ℕ → Option (List ℕ) → Option (List ℕ)
with_constant c none = none
with_constant c (some cs) = some (c ∷ cs)

abbrev pub constants_of : List Operand → Option (List ℕ)
constants_of [] = some []
constants_of (Nothing ∷ rest) = none
constants_of (Constant c ∷ rest) = with_constant c (constants_of rest)
constants_of (Held p ∷ rest) = none

-- a new register that holds the tuple
abbrev pub hold : List Operand → Emitted → Emitted
hold tuple e =
    record {
      instructions = e.instructions;
      registers = e.registers ++ record { tuple = tuple; current = true } ∷ [];
      homes = e.homes;
    }

abbrev pub next : Emitted → ℕ
next e = length e.registers

-- "else L for ascending neighbours of one array, else C for constants, else G", where G wants its variables in memory, lane 0 first
abbrev pub load_instruction : ℕ → List Operand → Option (ℕ × ℕ) → Option (List ℕ) → Instruction
load_instruction r tuple (some start) constants = L r (length tuple) start.0 start.1
load_instruction r tuple none (some constants) = C r constants
load_instruction r tuple none none = G r tuple

abbrev pub before_load : List Operand → Option (ℕ × ℕ) → Option (List ℕ) → Emitted → Emitted
before_load tuple (some start) constants e = e
before_load tuple none (some constants) e = e
before_load tuple none none e = each extract_operand tuple e

unfoldable pub load : List Operand → Emitted → Emitted
load tuple e =
    hold tuple
    (emit (load_instruction (next e) tuple (row_start tuple) (constants_of tuple)) (before_load tuple (row_start tuple) (constants_of tuple) e))

-- "A pack fetches": what it has then emitted, and the register that it gets
unfoldable pub fetch_tuple : List Operand → Emitted → Emitted
fetch_tuple tuple e = elim (holder 0 e.registers tuple) [ some r ↦ e | none ↦ load tuple e ]

unfoldable pub fetched_in : List Operand → Emitted → ℕ
fetched_in tuple e = elim (holder 0 e.registers tuple) [ some r ↦ r | none ↦ next e ]

-- "left, then right"; a copy has no right
abbrev pub tuple_at : Position → List Statement → List ℕ → List Operand
tuple_at position ss unit = map (λ s. operand position (statement ss s)) unit

abbrev pub destinations : List Statement → List ℕ → List Operand
destinations ss unit = map (λ s. Held (statement ss s).destination) unit

abbrev pub fetch_right : Bool → List Operand → Emitted → Emitted
fetch_right copy tuple e = elim copy [ true ↦ e | false ↦ fetch_tuple tuple e ]

abbrev pub right_in : Bool → List Operand → Emitted → Option ℕ
right_in copy tuple e = elim copy [ true ↦ none | false ↦ some (fetched_in tuple e) ]

-- "Then O." The statements of a pack have one operation.
abbrev pub operation_of : List Statement → List ℕ → ℕ
operation_of ss unit = (statement ss (get_or unit 0 0)).operation

abbrev pub emit_operation : ℕ → ℕ → ℕ → Option ℕ → Emitted → Emitted
emit_operation operation k ra rb e = emit (O (next e) operation k ra rb) e

unfoldable pub operated : List Statement → List ℕ → Emitted → Emitted
operated ss unit e =
    let copy = eqb (operation_of ss unit) 0 in
    let l = tuple_at left ss unit in
    let r = tuple_at right ss unit in
    emit_operation (operation_of ss unit) (length unit) (fetched_in l e) (right_in copy r (fetch_tuple l e)) (fetch_right copy r (fetch_tuple l e))

-- "Then the destination: W if neighbours, D per lane for other cells, nothing for variables."
abbrev pub store_lane : ℕ → ℕ → Operand → Emitted → Emitted
store_lane r lane Nothing e = e
store_lane r lane (Constant c) e = e
store_lane r lane (Held (Variable v)) e = e
store_lane r lane (Held (Cell a i)) e = emit (D r lane a i) e

abbrev pub store_each : ℕ → ℕ → List Operand → Emitted → Emitted
store_each r lane [] e = e
store_each r lane (o ∷ os) e = store_each r (lane + 1) os (store_lane r lane o e)

unfoldable pub store_tuple : ℕ → List Operand → Emitted → Emitted
store_tuple r tuple e = elim (row_start tuple) [ some start ↦ emit (W r (length tuple) start.0 start.1) e | none ↦ store_each r 0 tuple e ]

-- "a statement, packed or single, writes one of those places (O's own tuple counts from after that write)"; a variable that is written is in
-- its lane from then on
abbrev pub written_operand : Operand → Emitted → Emitted
written_operand Nothing e = e
written_operand (Constant c) e = e
written_operand (Held p) e = written p e

abbrev pub homes_from : ℕ → ℕ → List Operand → List Home
homes_from r lane [] = []
homes_from r lane (Nothing ∷ os) = homes_from r (lane + 1) os
homes_from r lane (Constant c ∷ os) = homes_from r (lane + 1) os
homes_from r lane (Held (Variable v) ∷ os) = record { variable = v; register = r; lane = lane } ∷ homes_from r (lane + 1) os
homes_from r lane (Held (Cell a i) ∷ os) = homes_from r (lane + 1) os

abbrev pub in_lanes : List Home → Emitted → Emitted
in_lanes homes e = record { instructions = e.instructions; registers = e.registers; homes = e.homes ++ homes }

unfoldable pub landed : List Operand → Emitted → Emitted
landed tuple e = in_lanes (homes_from (next e) 0 tuple) (hold tuple (each written_operand tuple e))

unfoldable pub emit_pack : List Statement → List ℕ → Emitted → Emitted
emit_pack ss unit e =
    landed (destinations ss unit) (store_tuple (next (operated ss unit e)) (destinations ss unit) (operated ss unit e))

abbrev pub emit_unit : List Statement → List ℕ → Emitted → Emitted
emit_unit ss [] e = e
emit_unit ss (s ∷ []) e = emit_single ss s e
emit_unit ss (s ∷ t ∷ rest) e = emit_pack ss (s ∷ t ∷ rest) e

abbrev pub nothing_emitted : Emitted
nothing_emitted = record { instructions = []; registers = []; homes = [] }

-- "At the end, X for each live-out variable still in a lane, ascending."
unfoldable pub emission : List Statement → ℕ → List (List ℕ) → List Instruction
emission ss live units = (count live 0 extract (each (emit_unit ss) units nothing_emitted)).instructions
