-- What the room holds afterwards where it has as many bytes: these, and behind them what it held.
use mathlib.Core.Path.{◌≡◌}
use mathlib.Core.List.{List}
use Prim.Native.Nat.{ℕ, ◌≤◌}
use borrow.Author.Tests.{le-leb}
use lib.ListN.{length}
use lib.Seq.{sets}
use Rattle.basics.proofs.Stores.{sets_front}
use Rattle.meaning.specs.Numbers.{done}
use Rattle.meaning.specs.Calls.{BlockWritten, block_written}

module _ (bytes room : List ℕ) {size : ℕ} (counted : size ≡ length bytes) where
  pub filled :
      {after : List ℕ}
      → size ≤ length room
      → after ≡ sets room 0 bytes
      → ◌≡◌ {A = BlockWritten} (record { status = 0; size = size; room = after }) (block_written room (done bytes))
  filled fits stored =
      let enough : length bytes ≤ length room = rw counted at fits in
      rw (le-leb (length bytes) (length room) enough, stored, counted, sets_front room bytes enough)
