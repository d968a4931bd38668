-- The block in memory that is taken from a table. A number that its slot cannot hold is taken as the greatest that it can, and the writer
-- refuses the two alike (proofs/Alike).
use Rattle.std.specs.Prelude.{ℕ, ◌+◌, ◌*◌, List, eqb, leb}
use Rattle.basics.specs.Choice.{pick}
use Rattle.meaning.specs.declared.Place.{Place}
use Rattle.meaning.specs.declared.Place.TheVariants.{Variable, Cell}
use Rattle.meaning.specs.declared.Operand.{Operand}
use Rattle.meaning.specs.declared.Operand.TheVariants.{Nothing, Constant, Held}
use Rattle.meaning.specs.declared.Statement.{Statement}
use Rattle.meaning.specs.declared.Block.{Block as Slots}
use Rattle.table.specs.Said.{number, statement_said_at, broken, from}

-- counts, operations, variables and arrays: none of them may be 255
abbrev pub byte_of : ℕ → ℕ
byte_of n = pick (leb n 255) n 255

-- lengths: none of them may be 65535
abbrev pub length_of : ℕ → ℕ
length_of n = pick (leb n 65535) n 65535

-- an index above 255 is in no array, and neither is a cell of array 255
abbrev pub place_of : ℕ → ℕ → ℕ → Place
place_of kind a b = pick (eqb kind 1) (Variable (byte_of a)) (pick (leb b 255) (Cell (byte_of a) b) (Cell 255 255))

abbrev pub operand_of : ℕ → ℕ → ℕ → Operand
operand_of kind a b = pick (eqb kind 0) (Constant a) (pick (eqb kind 3) Nothing (Held (place_of kind a b)))

-- from a position of the table on
abbrev pub place_at : List ℕ → ℕ → Place
place_at table at = place_of (number table at) (number table (at + 1)) (number table (at + 2))

abbrev pub operand_at : List ℕ → ℕ → Operand
operand_at table at = operand_of (number table at) (number table (at + 1)) (number table (at + 2))

unfoldable pub statement_at : List ℕ → ℕ → Statement
statement_at table at =
    pick (statement_said_at table at)
    (record {
      operation = byte_of (number table at);
      destination = place_at table (at + 1);
      left = operand_at table (at + 4);
      right = operand_at table (at + 7);
    })
    broken

-- length number i, and statement number i
abbrev pub length_in : List ℕ → ℕ → ℕ
length_in table i = length_of (number table (4 + i))

abbrev pub statement_in : List ℕ → ℕ → Statement
statement_in table i = statement_at table (12 + 10 * i)

unfoldable pub block_of : List ℕ → Slots
block_of table =
    record {
      variables = byte_of (number table 0);
      live = byte_of (number table 1);
      arrays = byte_of (number table 2);
      count = byte_of (number table 3);
      lengths = from (length_in table) 8 0;
      statements = from (statement_in table) 64 0;
    }
