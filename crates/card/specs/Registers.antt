-- What a register in memory holds: the first so many of its lanes.
use Rattle.std.specs.Prelude.{ℕ, zero, suc, ◌+◌, true, false, List, [], ◌∷◌, get_or, take, set}
use Rattle.instructions.specs.declared.Register.{Register}

abbrev pub held : Register → List ℕ
held r = take r.count r.lanes

-- no register: nothing is held
abbrev pub blank : Register
blank = record { lanes = 0 ∷ 0 ∷ 0 ∷ 0 ∷ []; count = 0; current = false }

-- a register that is written
abbrev pub holding : ℕ → ℕ → ℕ → ℕ → ℕ → Register
holding k v₀ v₁ v₂ v₃ = record { lanes = v₀ ∷ v₁ ∷ v₂ ∷ v₃ ∷ []; count = k; current = true }

-- four cells in a row, from one number on
abbrev pub row_fetched : ℕ → List ℕ → List ℕ
row_fetched at cells = get_or cells (at + 0) 0 ∷ get_or cells (at + 1) 0 ∷ get_or cells (at + 2) 0 ∷ get_or cells (at + 3) 0 ∷ []

-- at most so many values stored in a row, from one number on
unfoldable pub row_stored : ℕ → ℕ → List ℕ → List ℕ → List ℕ
row_stored zero at values cells = cells
row_stored (suc k) at [] cells = cells
row_stored (suc k) at (value ∷ values) cells = row_stored k (at + 1) values (set cells at value)
