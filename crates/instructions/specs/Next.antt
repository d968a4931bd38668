-- The record that stands at a place of a list's bytes: its instruction, and the place of the record behind it.
use Rattle.std.specs.Prelude.{ℕ, ◌+◌, ◌-◌, Bool, ◌&&◌, List, ltb, leb, length, get_or, take, drop}
use Rattle.std.proofs.Math.Option.{Option, none, some}
use Rattle.basics.specs.Choice.{pick}
use Rattle.meaning.specs.List.{Instruction as Meaning, read_instruction, after_one}

-- "each led by its remaining length": that many bytes are behind it
abbrev pub fits_at : List ℕ → ℕ → Bool
fits_at bytes start = ltb start (length bytes) && leb (get_or bytes start 0) (length bytes - (start + 1))

unfoldable pub instruction_at : List ℕ → ℕ → Option Meaning
instruction_at bytes start = pick (fits_at bytes start) (read_instruction (take (get_or bytes start 0) (drop (start + 1) bytes))) none

unfoldable pub end_at : List ℕ → ℕ → ℕ
end_at bytes start = pick (fits_at bytes start) (start + 1 + get_or bytes start 0) start

-- an instruction that was read, before those that are read behind it
abbrev pub behind : Option Meaning → Option (List Meaning) → Option (List Meaning)
behind none rest = none
behind (some instruction) rest = after_one instruction rest
