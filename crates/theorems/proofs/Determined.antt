-- "For all inputs, a call's stated result determines every number returned and every byte, variable and cell after it, refusals too."
-- A call promises that all that comes back of it, and all that was lent to it, is what its definition says of what it was given. So two
-- results that meet a promise are equal: in the numbers, and in the bytes of the room, the variables and the cells afterwards.
use mathlib.Core.Path.{◌≡◌, sym, ◌∙◌}
use mathlib.Core.List.{List}
use Prim.Native.Nat.{ℕ}
use Rattle.meaning.specs.declared.Block.{Block as Slots}
use Rattle.meaning.specs.Machine.{Contents}
use Rattle.meaning.specs.Calls.{BlockRead, read_block_call, BlockWritten, write_block_call, ListMade, make_list_call, Ran, run_block_call, run_list_call}

-- a result that meets its promise, and two of them
abbrev Meets : {A : Type 0} → A → A → Type 0
Meets promised result = result ≡ promised

determined : {A : Type 0} (promised first second : A) → Meets promised first → Meets promised second → first ≡ second
determined promised first second one other = one ∙ sym other

-- Reading a block: the status, and the block in memory with all its slots.
pub read_block_determined : (bytes : List ℕ) (first second : BlockRead) → first ≡ read_block_call bytes → second ≡ read_block_call bytes → first ≡ second
read_block_determined bytes = determined (read_block_call bytes)

-- Writing a block: the status, the size, and every byte of the room.
pub write_block_determined : (slots : Slots) (room : List ℕ) (first second : BlockWritten)
    → first ≡ write_block_call slots room → second ≡ write_block_call slots room → first ≡ second
write_block_determined slots room = determined (write_block_call slots room)

-- Making a list: the status, the size, both prices, and every byte of the room.
pub make_list_determined : (bytes room : List ℕ) (first second : ListMade) → first ≡ make_list_call bytes room → second ≡ make_list_call bytes room → first ≡ second
make_list_determined bytes room = determined (make_list_call bytes room)

-- Running a block: the status, the price, and every variable and cell.
pub run_block_determined : (bytes : List ℕ) (m : Contents) (first second : Ran) → first ≡ run_block_call bytes m → second ≡ run_block_call bytes m → first ≡ second
run_block_determined bytes m = determined (run_block_call bytes m)

-- Running a list: the same.
pub run_list_determined : (block bytes : List ℕ) (m : Contents) (first second : Ran)
    → first ≡ run_list_call block bytes m → second ≡ run_list_call block bytes m → first ≡ second
run_list_determined block bytes m = determined (run_list_call block bytes m)
