-- What it is to put a text into a buffer: its bytes stand there from a position on, as far as the buffer goes, all others are as they were,
-- and the answer is the position behind what was put.
use Rattle.std.specs.Prelude.{◌≡◌, List, ℕ, ◌+◌, ◌-◌, min, length}
use Rattle.std.proofs.lemmas.List.Edits.{sets}

-- in a buffer of so many bytes, from a position on: behind a text of this size, or of what fits of it
unfoldable pub behind_text : ℕ → ℕ → ℕ → ℕ
behind_text room at size = at + min size (room - at)

pub record Puts (text before : List ℕ) (at : ℕ) (after : List ℕ) (behind : ℕ) : Type 0 where
  pub stored : after ≡ sets before at text
  pub moved : behind ≡ behind_text (length before) at (length text)
