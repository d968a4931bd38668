-- "Numbers returned": for each of the five calls, all that comes back and all that was lent, afterwards. "A refusal returns zeros beside its
-- number, except that 7 also returns the length needed; nothing lent is written. When done, bytes past the answer keep their contents."
use Rattle.std.specs.Prelude.{ℕ, List, [], ◌++◌, leb, length, drop}
use Rattle.std.proofs.Math.Option.{Option, none, some}
use Rattle.basics.specs.Choice.{pick}
use Rattle.meaning.specs.declared.Block.{Block as Slots}
use Rattle.meaning.specs.Numbers.{Answer, refused, done, demand, and_then}
use Rattle.meaning.specs.Block.{Block, block_price}
use Rattle.meaning.specs.Format.{read_block, write_block, in_memory}
use Rattle.meaning.specs.Machine.{Contents, right_size, run_block}
use Rattle.meaning.specs.List.{Instruction, list_price, list_bytes, read_list, allowed}
use Rattle.meaning.specs.Card.{run_list}
use Rattle.meaning.specs.Choice.{chosen_list}

-- the bytes in the room's first places, the bytes behind them as they were
abbrev pub in_room : List ℕ → List ℕ → List ℕ
in_room bytes room = bytes ++ drop (length bytes) room

-- Reading a block.
pub record BlockRead : Type 0 where
  pub status : ℕ
  pub block : Slots

-- a block in memory with nothing in it
abbrev pub no_block : Slots
no_block = in_memory (record { variables = 0; live = 0; lengths = []; statements = [] })

abbrev pub block_read : Answer Block → BlockRead
block_read (refused number) = record { status = number; block = no_block }
block_read (done b) = record { status = 0; block = in_memory b }

unfoldable pub read_block_call : List ℕ → BlockRead
read_block_call bytes = block_read (read_block bytes)

-- Writing a block: the length is that of the answer, and what the room then holds.
pub record BlockWritten : Type 0 where
  pub status : ℕ
  pub size : ℕ
  pub room : List ℕ

abbrev pub block_written : List ℕ → Answer (List ℕ) → BlockWritten
block_written room (refused number) = record { status = number; size = 0; room = room }
block_written room (done bytes) =
    pick (leb (length bytes) (length room))
    (record { status = 0; size = length bytes; room = in_room bytes room })
    (record { status = 7; size = length bytes; room = room })

unfoldable pub write_block_call : Slots → List ℕ → BlockWritten
write_block_call slots room = block_written room (write_block slots)

-- Making a list: "block, then 7". "Making a list returns list length, block price, list price."
pub record ListMade : Type 0 where
  pub status : ℕ
  pub size : ℕ
  pub block_cost : ℕ
  pub list_cost : ℕ
  pub room : List ℕ

abbrev pub list_made : List ℕ → Answer Block → ListMade
list_made room (refused number) = record { status = number; size = 0; block_cost = 0; list_cost = 0; room = room }
list_made room (done b) =
    pick (leb (length (list_bytes (chosen_list b))) (length room))
    (record {
      status = 0;
      size = length (list_bytes (chosen_list b));
      block_cost = block_price b.statements;
      list_cost = list_price b.statements (chosen_list b);
      room = in_room (list_bytes (chosen_list b)) room;
    })
    (record { status = 7; size = length (list_bytes (chosen_list b)); block_cost = 0; list_cost = 0; room = room })

unfoldable pub make_list_call : List ℕ → List ℕ → ListMade
make_list_call bytes room = list_made room (read_block bytes)

-- Running: "block, 6, then, for a list, all of 8, then 9"; "running returns the price paid".
pub record Ran : Type 0 where
  pub status : ℕ
  pub price : ℕ
  pub contents : Contents

abbrev pub ran : Contents → Answer (ℕ × Contents) → Ran
ran m (refused number) = record { status = number; price = 0; contents = m }
ran m (done after) = record { status = 0; price = after.0; contents = after.1 }

abbrev pub sized : Contents → Answer Block → Answer Block
sized m answer = and_then answer λ b. demand (right_size b m) 6 (done b)

unfoldable pub run_block_call : List ℕ → Contents → Ran
run_block_call bytes m = ran m (and_then (sized m (read_block bytes)) λ b. done (block_price b.statements, run_block b m))

abbrev pub list_of : Option (List Instruction) → Answer (List Instruction)
list_of none = refused 8
list_of (some list) = done list

unfoldable pub run_list_call : List ℕ → List ℕ → Contents → Ran
run_list_call block_bytes' bytes m =
    ran m
    (and_then (sized m (read_block block_bytes')) λ b.
    and_then (list_of (read_list bytes)) λ list.
    demand (allowed b [] list) 9 (done (list_price b.statements list, run_list b list m)))
