-- What each export returns and leaves: the numbers of the call's definition, packed, and what was lent as the definition has it.
use Rattle.std.specs.Prelude.{ℕ, List, eqb, leb, length}
use Rattle.basics.specs.Choice.{pick}
use Rattle.meaning.specs.Machine.{Contents}
use Rattle.meaning.specs.Calls.{BlockRead, BlockWritten, ListMade, Ran, in_room, write_block_call}
use Rattle.table.specs.Table.{table_of}
use Rattle.table.specs.Said.{block_said}
use Rattle.nephinor.specs.Packed.{packed}

-- Running: the status and the price paid.
pub record RanPacked : Type 0 where
  pub number : ℕ
  pub contents : Contents

abbrev pub ran_packed : Ran → RanPacked
ran_packed r = record { number = packed r.status 0 r.price 0; contents = r.contents }

-- Reading into a table of numbers: the block's own refusals, then 7 with the 652 numbers needed; when done, the numbers behind keep
-- their contents.
pub record TableRead : Type 0 where
  pub number : ℕ
  pub table : List ℕ

abbrev pub table_read : List ℕ → BlockRead → TableRead
table_read table r =
    pick (eqb r.status 0)
    (pick (leb 652 (length table))
    (record { number = packed 0 652 0 0; table = in_room (table_of r.block) table })
    (record { number = packed 7 652 0 0; table = table }))
    (record { number = packed r.status 0 0 0; table = table })

-- Writing from a table of numbers: 2 where it is short, else as the block is written that it says; numbers behind the 652 say nothing.
pub record TableWritten : Type 0 where
  pub number : ℕ
  pub room : List ℕ

abbrev pub written_packed : BlockWritten → TableWritten
written_packed w = record { number = packed w.status w.size 0 0; room = w.room }

abbrev pub table_written : List ℕ → List ℕ → TableWritten
table_written table room =
    pick (leb 652 (length table)) (written_packed (write_block_call (block_said table) room)) (record { number = packed 2 0 0 0; room = room })

-- Making a list: the status, the list's length, the block's price and the list's.
pub record MadePacked : Type 0 where
  pub number : ℕ
  pub room : List ℕ

abbrev pub made_packed : ListMade → MadePacked
made_packed m = record { number = packed m.status m.size m.block_cost m.list_cost; room = m.room }
