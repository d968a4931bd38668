-- The instruction that a record says is the one of its code, and none where the code is unknown.
use mathlib.Core.Path.{◌≡◌, ap}
use mathlib.Core.Option.{Option, none}
use mathlib.Core.List.{List, [], ◌∷◌}
use Prim.Native.Nat.{ℕ, ◌≤◌}
use lib.ListN.{get_or, get_or-eq_default}
use Rattle.meaning.specs.List.{Instruction, field, read_s, read_l, read_c, read_g, read_o, read_w, read_d, read_x, read_instruction}

-- the eight readings, by code
abbrev pub readings : List ℕ → List (Option Instruction)
readings bytes =
    read_s bytes ∷ read_l bytes ∷ read_c bytes ∷ read_g bytes ∷ read_o bytes ∷ read_w bytes ∷ read_d bytes ∷ read_x bytes ∷ []

pub by_code : (bytes : List ℕ) (code : ℕ) → code ≡ field 0 bytes → get_or (readings bytes) code none ≡ read_instruction bytes
unfolding read_instruction
by_code bytes code e = ap (λ (n : ℕ). get_or (readings bytes) n none) e

pub unknown_code : (bytes : List ℕ) (code : ℕ) → code ≡ field 0 bytes → 8 ≤ code → none ≡ read_instruction bytes
unknown_code bytes code e h = rw (← by_code bytes code e, get_or-eq_default (readings bytes) none h)
