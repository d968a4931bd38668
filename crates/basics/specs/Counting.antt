-- Counting: one thing done at each number in turn, and these numbers.
use Rattle.std.specs.Prelude.{ℕ, zero, suc, ◌+◌, List, [], ◌∷◌}

-- f at i, i + 1, .. , n of them, the lowest first
abbrev pub count {ℓ} : {A : Type ℓ} → ℕ → ℕ → (ℕ → A → A) → A → A
count zero i f a = a
count (suc n) i f a = count n (i + 1) f (f i a)

-- i, i + 1, .. , n of them
abbrev pub numbers : ℕ → ℕ → List ℕ
numbers zero i = []
numbers (suc n) i = i ∷ numbers n (i + 1)
