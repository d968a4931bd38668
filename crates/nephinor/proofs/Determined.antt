-- What an export promises determines all that comes back of it and all that was lent to it: two results that meet the promise are equal, in the
-- number returned and in every number of the table, byte of the room, variable and cell afterwards.
use mathlib.Core.Path.{◌≡◌, sym, ◌∙◌}
use mathlib.Core.List.{List}
use Prim.Native.Nat.{ℕ}
use Rattle.meaning.specs.Machine.{Contents}
use Rattle.meaning.specs.Calls.{read_block_call, make_list_call, run_block_call, run_list_call}
use Rattle.nephinor.specs.Exports.{RanPacked, ran_packed, TableRead, table_read, TableWritten, table_written, MadePacked, made_packed}

pub read_block_determined : (bytes table : List ℕ) (first second : TableRead)
    → first ≡ table_read table (read_block_call bytes) → second ≡ table_read table (read_block_call bytes) → first ≡ second
read_block_determined bytes table first second one other = one ∙ sym other

pub write_block_determined : (table room : List ℕ) (first second : TableWritten) → first ≡ table_written table room → second ≡ table_written table room → first ≡ second
write_block_determined table room first second one other = one ∙ sym other

pub make_list_determined : (bytes room : List ℕ) (first second : MadePacked)
    → first ≡ made_packed (make_list_call bytes room) → second ≡ made_packed (make_list_call bytes room) → first ≡ second
make_list_determined bytes room first second one other = one ∙ sym other

pub run_block_determined : (bytes : List ℕ) (m : Contents) (first second : RanPacked)
    → first ≡ ran_packed (run_block_call bytes m) → second ≡ ran_packed (run_block_call bytes m) → first ≡ second
run_block_determined bytes m first second one other = one ∙ sym other

pub run_list_determined : (block bytes : List ℕ) (m : Contents) (first second : RanPacked)
    → first ≡ ran_packed (run_list_call block bytes m) → second ≡ ran_packed (run_list_call block bytes m) → first ≡ second
run_list_determined block bytes m first second one other = one ∙ sym other
