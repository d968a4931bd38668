-- "A line for each cell and each live-out variable": one text for each place, in order.
use Rattle.std.specs.Prelude.{ℕ, zero, suc, ◌+◌, List, [], ◌∷◌, ◌++◌}
use Rattle.meaning.specs.declared.Place.{Place}
use Rattle.meaning.specs.declared.Place.TheVariants.{Variable, Cell}

-- k texts, one for each number from i on
unfoldable pub in_turn : (ℕ → List ℕ) → ℕ → ℕ → List ℕ
in_turn text zero i = []
in_turn text (suc k) i = text i ++ in_turn text k (i + 1)

-- a text for each cell of the arrays from number a on, whose lengths these are
unfoldable pub cell_lines : (Place → List ℕ) → ℕ → List ℕ → List ℕ
cell_lines text a [] = []
cell_lines text a (n ∷ ns) = in_turn (λ i. text (Cell a i)) n 0 ++ cell_lines text (a + 1) ns

unfoldable pub variable_lines : (Place → List ℕ) → ℕ → List ℕ
variable_lines text live = in_turn (λ v. text (Variable v)) live 0
