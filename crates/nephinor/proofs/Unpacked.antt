-- What was packed comes out whole: a status below 2^8, and a size and prices below 2^16.
use mathlib.Core.Path.{◌≡◌}
use Prim.Native.Nat.{ℕ, ◌^◌, ◌<◌}
use native.Mathlib.Omega.{arith}
use Rattle.nephinor.specs.Packed.{packed, status_in, size_in, first_in, second_in}

pub record Whole (status size first second n : ℕ) : Type 0 where
  pub status_whole : status_in n ≡ status
  pub size_whole : size_in n ≡ size
  pub first_whole : first_in n ≡ first
  pub second_whole : second_in n ≡ second

pub comes_back_whole : (status size first second : ℕ) → status < 2 ^ 8 → size < 2 ^ 16 → first < 2 ^ 16 → second < 2 ^ 16
    → Whole status size first second (packed status size first second)
unfolding packed
comes_back_whole status size first second a b c d =
    record { status_whole = omega arith; size_whole = omega arith; first_whole = omega arith; second_whole = omega arith }
