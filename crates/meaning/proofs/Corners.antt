-- The corners of arithmetic, those of worked block 11 among them: for each of the eight operations values at which another reading of it would
-- give another number. One statement over one table.
use mathlib.Core.Path.{◌≡◌, refl}
use Prim.Native.Nat.{ℕ}
use mathlib.Core.List.{List, [], ◌∷◌, map}
use Rattle.meaning.specs.Machine.{operate}

pub record Row : Type 0 where
  pub operation : ℕ
  pub left : ℕ
  pub right : ℕ
  pub value : ℕ

abbrev pub row : ℕ → ℕ → ℕ → ℕ → Row
row operation left right value = record { operation = operation; left = left; right = right; value = value }

pub corners : List Row
corners =
    -- a copy is its left operand, whatever stands on the right
    row 0 7 9 7
    -- "4294967295+1 is 0"; and the greatest two values
    ∷ row 1 4294967295 1 0
    ∷ row 1 4294967295 4294967295 4294967294
    -- "0-1 is 4294967295"; the right operand is taken from the left one; and 0 is taken away
    ∷ row 2 0 1 4294967295
    ∷ row 2 9 7 2
    ∷ row 2 7 9 4294967294
    ∷ row 2 7 0 7
    -- "65536*65536 is 0"; and what is left of a product above that
    ∷ row 3 65536 65536 0
    ∷ row 3 65537 65537 131073
    ∷ row 3 4294967295 4294967295 1
    -- and, or, exclusive or: each pair of bits, also the highest ones
    ∷ row 4 0xC000000C 0xA000000A 0x80000008
    ∷ row 5 0xC000000C 0xA000000A 0xE000000E
    ∷ row 6 0xC000000C 0xA000000A 0x60000006
    -- "a count of 33 shifts by 1": so one of 32 by 0, and one of 63 by 31; 31 itself is not reduced
    ∷ row 7 8 33 4
    ∷ row 7 8 32 8
    ∷ row 7 2147483648 31 1
    ∷ row 7 4294967295 63 1
    -- zeros come in from the left
    ∷ row 7 4294967295 1 2147483647
    ∷ []

-- Every operation has this value.
pub corners_of_arithmetic : map (λ r. operate r.operation r.left r.right) corners ≡ map (λ r. r.value) corners
unfolding operate corners
corners_of_arithmetic = refl
