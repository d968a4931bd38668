-- How the exports return status and numbers: one number of 64 bits, bits 0 to 7 the status, bits 8 to 23 the size, bits 24 to 39 the first
-- price and bits 40 to 55 the second. No refusal can be taken for another answer, since the status has bits of its own.
use Rattle.std.specs.Prelude.{ℕ, ◌+◌, ◌*◌, ◌/◌, ◌%◌, ◌^◌}

unfoldable pub packed : ℕ → ℕ → ℕ → ℕ → ℕ
packed status size first second = status + 2 ^ 8 * (size % 2 ^ 16) + 2 ^ 24 * (first % 2 ^ 16) + 2 ^ 40 * (second % 2 ^ 16)

-- what a caller takes out again
abbrev pub status_in : ℕ → ℕ
status_in n = n % 2 ^ 8

abbrev pub size_in : ℕ → ℕ
size_in n = n / 2 ^ 8 % 2 ^ 16

abbrev pub first_in : ℕ → ℕ
first_in n = n / 2 ^ 24 % 2 ^ 16

abbrev pub second_in : ℕ → ℕ
second_in n = n / 2 ^ 40 % 2 ^ 16
