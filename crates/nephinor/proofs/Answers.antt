-- What reading into a table answers, where the block is read and the table has the numbers; and what writing from one that has them
-- answers.
use mathlib.Core.Path.{◌≡◌, ap, ◌∙◌}
use mathlib.Core.List.{List}
use Prim.Native.Nat.{ℕ, ◌≤◌}
use borrow.Author.Tests.{eq-eqb, le-leb}
use lib.ListN.{length}
use lib.Seq.{sets}
use Rattle.meaning.specs.declared.Block.{Block as Slots}
use Rattle.meaning.specs.Calls.{BlockRead, BlockWritten, write_block_call}
use Rattle.nephinor.specs.Packed.{packed}
use Rattle.table.specs.Table.{table_of}
use Rattle.table.specs.Taken.{block_of}
use Rattle.nephinor.specs.Exports.{table_read, written_packed, table_written}
use Rattle.table.proofs.Alike.{call_alike}
use Rattle.table.proofs.Rows.{table_stored}

module _ (table : List ℕ) (r : BlockRead) where
  pub filled_table : (b : Slots) (number : ℕ) (after : List ℕ) → r.status ≡ 0 → r.block ≡ b
      → length b.lengths ≡ 8 → length b.statements ≡ 64 → 652 ≤ length table
      → after ≡ sets table 0 (table_of b) → number ≡ packed 0 652 0 0
      → record { number = number; table = after } ≡ table_read table r
  filled_table b number after e same eight many fits stores packs =
      rw (packs, stores, eq-eqb r.status 0 e, le-leb 652 (length table) fits, same, table_stored b table eight many fits)

module _ (table room : List ℕ) where
  pub table_written_lem : (b : Slots) (number : ℕ) (w : BlockWritten) → 652 ≤ length table → b ≡ block_of table → w ≡ write_block_call b room
      → number ≡ packed w.status w.size 0 0
      → record { number = number; room = w.room } ≡ table_written table room
  table_written_lem b number w fits same writes packs =
      rw (packs, le-leb 652 (length table) fits) (ap written_packed (writes ∙ ap (λ (slots : Slots). write_block_call slots room) same ∙ call_alike table room))
