-- When two runs end alike: number for number the same cells, and the same live-out variables, which are the first ones.
use Rattle.std.specs.Prelude.{ℕ, Bool, true, false, ◌&&◌, List, [], ◌∷◌, eqb, take}
use Rattle.meaning.specs.Machine.{Contents}

unfoldable pub same_numbers : List ℕ → List ℕ → Bool
same_numbers [] [] = true
same_numbers [] (right ∷ rights) = false
same_numbers (left ∷ lefts) [] = false
same_numbers (left ∷ lefts) (right ∷ rights) = eqb left right && same_numbers lefts rights

unfoldable pub same_ends : ℕ → Contents → Contents → Bool
same_ends live block list = same_numbers block.cells list.cells && same_numbers (take live block.variables) (take live list.variables)
