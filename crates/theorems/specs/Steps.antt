-- Emission as small steps: X for a variable in a lane, a load, S for a single, and a pack's O with what follows it. What holds of nothing
-- emitted and is kept by each of these steps holds of every list that is made.
use Rattle.std.specs.Prelude.{◌≡◌, Bool, true, false, ◌&&◌, not, List, [], ◌∷◌, ◌++◌, map, ℕ, suc, ◌+◌, ◌≤◌, ◌<◌, eqb, ltb, length, get_or}
use Rattle.std.proofs.Math.Option.{Option, none, some}
use Rattle.basics.specs.Lists.{any, all, first}
use Rattle.meaning.specs.declared.Place.{Place}
use Rattle.meaning.specs.declared.Place.TheVariants.{Variable, Cell}
use Rattle.meaning.specs.declared.Operand.{Operand}
use Rattle.meaning.specs.declared.Operand.TheVariants.{Nothing, Constant, Held}
use Rattle.meaning.specs.declared.Statement.{Statement}
use Rattle.meaning.specs.Block.{statement, same, is_copy, Position, left, right}
use Rattle.meaning.specs.List.{Instruction, S, L, C, G, O, W, D, lanes_fit}
use Rattle.meaning.specs.Emission.{Register, Home, Emitted, emit, is_home, ended, not_in_lane, written, extract_from, row_start, constants_of, hold, next, tuple_at, destinations, operation_of, homes_from, nothing_emitted}

-- an operand's value is in memory and not in a lane
abbrev pub from_memory : List Home → Operand → Bool
from_memory homes Nothing = true
from_memory homes (Constant c) = true
from_memory homes (Held (Variable v)) = not (any (is_home v) homes)
from_memory homes (Held (Cell a i)) = true

-- a statement of the block that has an operand at this position
abbrev pub has_operand : List Statement → Position → ℕ → Bool
has_operand ss left s = ltb s (length ss)
has_operand ss right s = ltb s (length ss) && not (is_copy (statement ss s))

-- a pack's operands at one position
pub record Tuple (ss : List Statement) (tuple : List Operand) : Type 0 where
  pub position : Position
  pub unit : List ℕ
  pub there : all (has_operand ss position) unit ≡ true
  pub lanes : lanes_fit (length unit) ≡ true
  pub is : tuple ≡ tuple_at position ss unit

-- "else L for ascending neighbours of one array, else C for constants, else G"
pub data Load (e : Emitted) (tuple : List Operand) : Instruction → Type 0 where
  in_row : (first : ℕ × ℕ) → row_start tuple ≡ some first → Load e tuple (L (next e) (length tuple) first.0 first.1)
  constants : (cs : List ℕ) → constants_of tuple ≡ some cs → Load e tuple (C (next e) cs)
  gathered : all (from_memory e.homes) tuple ≡ true → Load e tuple (G (next e) tuple)

-- no two of these places are the same
abbrev pub distinct : List Place → Bool
distinct [] = true
distinct (p ∷ ps) = all (λ q. not (same p q)) ps && distinct ps

-- two or four statements of the block, of one operation, that write different places
pub record Pack (ss : List Statement) (unit : List ℕ) : Type 0 where
  pub lanes : lanes_fit (length unit) ≡ true
  pub in_range : all (λ s. ltb s (length ss)) unit ≡ true
  pub one_operation : all (λ s. eqb (statement ss s).operation (operation_of ss unit)) unit ≡ true
  pub different : distinct (map (λ s. (statement ss s).destination) unit) ≡ true

-- "a current register that holds exactly this tuple"
abbrev pub no_register : Register
no_register = record { tuple = []; current = false }

abbrev pub holding : List Operand → Register
holding tuple = record { tuple = tuple; current = true }

pub record Holds (e : Emitted) (r : ℕ) (tuple : List Operand) : Type 0 where
  pub below : r < next e
  pub is : get_or e.registers r no_register ≡ holding tuple

-- a pack's second register; a copy has none
abbrev pub HoldsRight : List Statement → List ℕ → Emitted → Option ℕ → Type 0
HoldsRight ss unit e none = operation_of ss unit ≡ 0
HoldsRight ss unit e (some r) = (eqb (operation_of ss unit) 0 ≡ false) × Holds e r (tuple_at right ss unit)

-- the places that a unit writes, lane 0 first
abbrev pub places_of : List Statement → List ℕ → List Place
places_of ss unit = map (λ s. (statement ss s).destination) unit

-- "W if neighbours, D per lane for other cells, nothing for variables"
abbrev pub stores_from : ℕ → ℕ → List Operand → List Instruction
stores_from r lane [] = []
stores_from r lane (Nothing ∷ os) = stores_from r (lane + 1) os
stores_from r lane (Constant c ∷ os) = stores_from r (lane + 1) os
stores_from r lane (Held (Variable v) ∷ os) = stores_from r (lane + 1) os
stores_from r lane (Held (Cell a i) ∷ os) = D r lane a i ∷ stores_from r (lane + 1) os

abbrev pub stores : ℕ → List Operand → Option (ℕ × ℕ) → List Instruction
stores r tuple (some beginning) = W r (length tuple) beginning.0 beginning.1 ∷ []
stores r tuple none = stores_from r 0 tuple

-- the registers and the homes that are left after writes to these places
abbrev pub ended_by : List Place → List Register → List Register
ended_by [] registers = registers
ended_by (p ∷ ps) registers = ended_by ps (map (ended p) registers)

abbrev pub away_from : List Place → List Home → List Home
away_from [] homes = homes
away_from (p ∷ ps) homes = away_from ps (not_in_lane p homes)

-- what a pack leaves: O and its stores, the registers that its writes do not end and its own, and the lanes of its variables
abbrev pub packed : List Statement → List ℕ → ℕ → Option ℕ → Emitted → Emitted
packed ss unit ra rb e =
    record {
      instructions = (e.instructions ++ O (next e) (operation_of ss unit) (length unit) ra rb ∷ []) ++ stores (next e) (destinations ss unit) (row_start (destinations ss unit));
      registers = ended_by (places_of ss unit) e.registers ++ holding (destinations ss unit) ∷ [];
      homes = away_from (places_of ss unit) e.homes ++ homes_from (next e) 0 (destinations ss unit);
    }

-- what is emitted after these units, and so many loads for the next one
pub data Reached (ss : List Statement) : ℕ → List (List ℕ) → Emitted → Type 0 where
  start : Reached ss 0 [] nothing_emitted
  extracts : {n : ℕ} {units : List (List ℕ)} {e : Emitted} (v : ℕ) (h : Home)
      → first (is_home v) e.homes ≡ some h → Reached ss n units e → Reached ss n units (extract_from v (some h) e)
  loads : {n : ℕ} {units : List (List ℕ)} {e : Emitted} (tuple : List Operand) (i : Instruction)
      → Tuple ss tuple → Load e tuple i → Reached ss n units e → Reached ss (suc n) units (hold tuple (emit i e))
  single : {units : List (List ℕ)} {e : Emitted} (s : ℕ) → s < length ss
      → from_memory e.homes (statement ss s).left ≡ true → from_memory e.homes (statement ss s).right ≡ true
      → Reached ss 0 units e → Reached ss 0 (units ++ (s ∷ []) ∷ []) (written (statement ss s).destination (emit (S s) e))
  pack : {n : ℕ} {units : List (List ℕ)} {e : Emitted} (unit : List ℕ) (ra : ℕ) (rb : Option ℕ) → Pack ss unit → n ≤ 2
      → Holds e ra (tuple_at left ss unit) → HoldsRight ss unit e rb → Reached ss n units e
      → Reached ss 0 (units ++ unit ∷ []) (packed ss unit ra rb e)
