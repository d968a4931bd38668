-- Walks over a set of statements: its lowest and its highest, and one thing done at each in turn.
use Rattle.std.specs.Prelude.{ℕ, zero, suc, ◌-◌, List, [], ◌∷◌, true, false, eqb}
use Rattle.std.specs.Int.Bits.{bit_and}
use Rattle.std.specs.Int.Count.{count_leading_zeros, count_trailing_zeros}
use Rattle.basics.specs.Choice.{pick}

-- the set without its lowest
abbrev pub behind_first : ℕ → ℕ
behind_first s = bit_and s (s - 1)

-- the highest, or 64 where there is none
abbrev pub highest : ℕ → ℕ
highest s = pick (eqb s 0) 64 (63 - count_leading_zeros 64 s)

-- f at each of the set, the lowest first, at most n of them. Of a set below 2 ^ n this is what `count n 0` does with a test of `has s`.
unfoldable pub walk {ℓ} : {A : Type ℓ} → ℕ → ℕ → (ℕ → A → A) → A → A
walk zero s f a = a
walk (suc n) s f a = elim (eqb s 0) [ true ↦ a | false ↦ walk n (behind_first s) f (f (count_trailing_zeros 64 s) a) ]

-- the members, the lowest first, at most n of them
unfoldable pub first_members : ℕ → ℕ → List ℕ
first_members zero s = []
first_members (suc n) s = elim (eqb s 0) [ true ↦ [] | false ↦ count_trailing_zeros 64 s ∷ first_members n (behind_first s) ]

-- all members of a set of 64 statements
abbrev pub members : ℕ → List ℕ
members s = first_members 64 s
