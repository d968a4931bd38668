-- The five calls as one type, for tables that speak of all of them: what goes in, what comes back, and a few things to build both from.
use Prim.Native.Nat.{ℕ, zero, suc, ◌+◌}
use mathlib.Core.List.{List, [], ◌∷◌, ◌++◌}
use lib.ListN.{length}
use Rattle.basics.specs.Counting.{numbers}
use Rattle.basics.specs.Lists.{fill}
use Rattle.meaning.specs.declared.Place.{Place}
use Rattle.meaning.specs.declared.Place.TheVariants.{Variable}
use Rattle.meaning.specs.declared.Operand.{Operand}
use Rattle.meaning.specs.declared.Operand.TheVariants.{Nothing, Held}
use Rattle.meaning.specs.declared.Statement.{Statement}
use Rattle.meaning.specs.declared.Block.{Block as Slots}
use Rattle.meaning.specs.Format.{bytes_of}
use Rattle.meaning.specs.Machine.{Contents}
use Rattle.meaning.specs.Calls.{BlockRead, BlockWritten, ListMade, Ran, read_block_call, write_block_call, make_list_call, run_block_call, run_list_call}

-- the five calls, with what is lent to each
pub data Call : Type 0 where
  reading : (bytes : List ℕ) → Call
  writing : (block : Slots) (room : List ℕ) → Call
  making : (bytes room : List ℕ) → Call
  running_block : (bytes : List ℕ) (lent : Contents) → Call
  running_list : (bytes list : List ℕ) (lent : Contents) → Call

-- all that comes back, and all that was lent, afterwards
pub data Result : Type 0 where
  read : BlockRead → Result
  wrote : BlockWritten → Result
  made : ListMade → Result
  ran : Ran → Result

abbrev pub result : Call → Result
result (reading bytes) = read (read_block_call bytes)
result (writing block room) = wrote (write_block_call block room)
result (making bytes room) = made (make_list_call bytes room)
result (running_block bytes lent) = ran (run_block_call bytes lent)
result (running_list bytes list lent) = ran (run_list_call bytes list lent)

-- a statement, and v0 as operand
abbrev pub does : ℕ → Place → Operand → Operand → Statement
does operation destination left right = record { operation = operation; destination = destination; left = left; right = right }

abbrev pub v0 : Operand
v0 = Held (Variable 0)

-- a block in memory: the counts, and what stands in the first slots; the other slots are zero
abbrev pub memory : ℕ → ℕ → ℕ → ℕ → List ℕ → List Statement → Slots
memory variables live arrays count lengths statements =
    record {
      variables = variables;
      live = live;
      arrays = arrays;
      count = count;
      lengths = fill 8 0 lengths;
      statements = fill 64 (does 0 (Variable 0) Nothing Nothing) statements;
    }

-- a block that reads: v0=v1, with two variables, two cells of a and four of b
abbrev pub good : List ℕ
good = bytes_of 17 0x01_0011_02_00_02_01_0002_0004_050001000101

-- so many variables and cells, no two of them alike; and as many as that block declares
abbrev pub contents : ℕ → ℕ → Contents
contents variables cells = record { variables = numbers variables 5; cells = numbers cells 50 }

abbrev pub lent : Contents
lent = contents 2 6

-- a list of so many instructions with these records; a record so many times; L of b[0] and b[1] into so many registers
abbrev pub list_of : ℕ → List ℕ → List ℕ
list_of count records = 1 ∷ bytes_of 2 (4 + length records) ++ count ∷ records

abbrev pub repeated : ℕ → List ℕ → List ℕ
repeated zero bytes = []
repeated (suc n) bytes = bytes ++ repeated n bytes

abbrev pub loads : ℕ → ℕ → List ℕ
loads zero r = []
loads (suc n) r = 5 ∷ 1 ∷ r ∷ 2 ∷ 1 ∷ 0 ∷ loads n (r + 1)
