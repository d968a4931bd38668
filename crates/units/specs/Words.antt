-- Units as words: a byte for each lane, 64 where there is none, and their count above these.
use Rattle.std.specs.Prelude.{◌≡◌, ℕ, ◌+◌, ◌*◌, ◌<◌, List, [], length, get_or}

abbrev pub unit_word : List ℕ → ℕ
unit_word unit =
    get_or unit 0 64 + 256 * get_or unit 1 64 + 65536 * (get_or unit 2 64 + 256 * get_or unit 3 64) + 4294967296 * length unit

-- the first so many words of a table are these units, in order
pub record InOrder (units : List (List ℕ)) (order : List ℕ) (size : ℕ) : Type 0 where
  pub sized : length units ≡ size
  pub words : (i : ℕ) → i < size → get_or order i 0 ≡ unit_word (get_or units i [])
