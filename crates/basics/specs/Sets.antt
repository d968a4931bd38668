-- Sets of small numbers, each as one number: i is in the set where bit i of it is 1.
use Rattle.std.specs.Prelude.{ℕ, ◌^◌, ◌/◌, ◌%◌, Bool, eqb}
use Rattle.std.specs.Int.Bits.{bit_or}

abbrev pub nobody : ℕ
nobody = 0

-- i alone
abbrev pub only : ℕ → ℕ
only i = 2 ^ i

-- what is in one or the other
abbrev pub join : ℕ → ℕ → ℕ
join s t = bit_or s t

-- i is in the set
abbrev pub has : ℕ → ℕ → Bool
has s i = eqb (s / 2 ^ i % 2) 1
