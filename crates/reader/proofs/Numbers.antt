-- "big-endian": the number that two bytes say, and four.
use mathlib.Core.Path.{◌≡◌}
use mathlib.Core.List.{List, [], ◌∷◌}
use Prim.Native.Nat.{ℕ, ◌+◌, ◌*◌, ◌≤◌}
use native.Mathlib.Omega.{arith}
use lib.ListN.{length, get_or, take}
use Rattle.meaning.specs.Format.{number}

pub number_two : (l : List ℕ) → 2 ≤ length l → number (take 2 l) ≡ get_or l 0 0 * 256 + get_or l 1 0
number_two [] h = absurd (omega arith)
number_two (a ∷ []) h = absurd (omega arith)
number_two (a ∷ b ∷ l) h = omega arith

pub number_four :
    (l : List ℕ) → 4 ≤ length l
    → number (take 4 l) ≡ ((get_or l 0 0 * 256 + get_or l 1 0) * 256 + get_or l 2 0) * 256 + get_or l 3 0
number_four [] h = absurd (omega arith)
number_four (a ∷ []) h = absurd (omega arith)
number_four (a ∷ b ∷ []) h = absurd (omega arith)
number_four (a ∷ b ∷ c ∷ []) h = absurd (omega arith)
number_four (a ∷ b ∷ c ∷ d ∷ l) h = omega arith
