-- The tables stand for what is emitted: bytes, homes, registers and their number, as long as list and registers are within bounds that no
-- list that is made comes near. What is emitted later is longer, so the bounds hold before if they hold after.
use Rattle.std.proofs.Common.{◌≡◌, ℕ, ◌+◌, ◌≤◌, List, [], ◌∷◌, length, ap, ◌∙◌, arith, length-append}
use mathlib.Core.Option.{Option, none, some}
use Rattle.basics.specs.Lists.{first, each}
use Rattle.meaning.specs.declared.Place.TheVariants.{Variable, Cell}
use Rattle.meaning.specs.declared.Operand.{Operand}
use Rattle.meaning.specs.declared.Operand.TheVariants.{Nothing, Constant, Held}
use Rattle.meaning.specs.declared.Statement.{Statement}
use Rattle.meaning.specs.List.{X}
use Rattle.meaning.specs.Emission.{Home, Emitted, is_home, extract_from, extract, extract_operand, holder, row_start, constants_of, next, load_instruction, before_load, load, fetch_tuple}
use Rattle.theorems.specs.Steps.{holding}
use Rattle.theorems.proofs.Steps.{load_registers}
use Rattle.encode.proofs.Encoding.{Short, shorter}
use Rattle.registers.proofs.Table.{Registers}
use Rattle.lanes.proofs.Extraction.{InStep}
use Rattle.fetch.specs.Fetching.{State}

pub record Small (ss : List Statement) (e : Emitted) : Type 0 where
  pub short : Short ss e.instructions
  pub few : next e ≤ 96

pub record Standing (base : List ℕ) (ss : List Statement) (e : Emitted) (s : State) : Type 0 where
  pub lanes : InStep base ss e s.lanes
  pub registers : Registers ss s.done e.registers s.registers
  pub used : s.used ≡ next e

abbrev pub Stands : List ℕ → List Statement → Emitted → State → Type 0
Stands base ss e s = Small ss e → Standing base ss e s

-- before X
extract_shorter : (ss : List Statement) (v : ℕ) (e : Emitted) → Short ss (extract v e).instructions → Short ss e.instructions
unfolding extract
extract_shorter ss v e = by (first (is_home v) e.homes)
  where
    by : (found : Option Home) → Short ss (extract_from v found e).instructions → Short ss e.instructions
    by none h = h
    by (some x) h = shorter ss e.instructions (X x.register x.lane v) h

pub operand_shorter : (ss : List Statement) (o : Operand) (e : Emitted) → Short ss (extract_operand o e).instructions → Short ss e.instructions
operand_shorter ss Nothing e h = h
operand_shorter ss (Constant c) e h = h
operand_shorter ss (Held (Variable v)) e h = extract_shorter ss v e h
operand_shorter ss (Held (Cell a i)) e h = h

each_shorter : (ss : List Statement) (os : List Operand) (e : Emitted) → Short ss (each extract_operand os e).instructions → Short ss e.instructions
each_shorter ss [] e h = h
each_shorter ss (o ∷ os) e h = operand_shorter ss o e (each_shorter ss os (extract_operand o e) h)

-- before a load, and before a fetch
load_shorter : (ss : List Statement) (os : List Operand) (e : Emitted) → Short ss (load os e).instructions → Short ss e.instructions
unfolding load
load_shorter ss os e h =
    by (row_start os) (constants_of os)
    (shorter ss (before_load os (row_start os) (constants_of os) e).instructions (load_instruction (next e) os (row_start os) (constants_of os)) h)
  where
    by : (row : Option (ℕ × ℕ)) (cs : Option (List ℕ)) → Short ss (before_load os row cs e).instructions → Short ss e.instructions
    by (some beginning) cs k = k
    by none (some cs) k = k
    by none none k = each_shorter ss os e k

pub load_next : (os : List Operand) (e : Emitted) → next (load os e) ≡ next e + 1
load_next os e = ap length (load_registers os e) ∙ length-append e.registers (holding os ∷ [])

pub before_load_lem : (ss : List Statement) (os : List Operand) (e : Emitted) → Small ss (load os e) → Small ss e
before_load_lem ss os e h = record { short = load_shorter ss os e h.short; few = omega (arith, load_next os e, h.few) }

pub before_fetch : (ss : List Statement) (os : List Operand) (e : Emitted) → Small ss (fetch_tuple os e) → Small ss e
unfolding fetch_tuple
before_fetch ss os e h = by (holder 0 e.registers os) h
  where
    by : (found : Option ℕ) → Small ss (elim found [ some r ↦ e | none ↦ load os e ]) → Small ss e
    by (some r) k = k
    by none k = before_load_lem ss os e k
