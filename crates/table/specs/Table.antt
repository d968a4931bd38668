-- A block in memory as a table of 652 numbers, for callers that have no structs of ours: variables, live, arrays, count, the 8 lengths, then
-- ten numbers for each of the 64 statements: operation, and destination, left and right as three numbers each.
use Rattle.std.specs.Prelude.{ℕ, List, [], ◌∷◌, ◌++◌, map}
use Rattle.basics.specs.Lists.{flat}
use Rattle.meaning.specs.declared.Place.{Place}
use Rattle.meaning.specs.declared.Place.TheVariants.{Variable, Cell}
use Rattle.meaning.specs.declared.Operand.{Operand}
use Rattle.meaning.specs.declared.Operand.TheVariants.{Nothing, Constant, Held}
use Rattle.meaning.specs.declared.Statement.{Statement}
use Rattle.meaning.specs.declared.Block.{Block as Slots}

-- kind 0 a constant, 1 a variable, 2 a cell, 3 nothing; a number that the kind does not have is 0
abbrev pub place_numbers : Place → List ℕ
place_numbers (Variable v) = 1 ∷ v ∷ 0 ∷ []
place_numbers (Cell a i) = 2 ∷ a ∷ i ∷ []

abbrev pub operand_numbers : Operand → List ℕ
operand_numbers Nothing = 3 ∷ 0 ∷ 0 ∷ []
operand_numbers (Constant c) = 0 ∷ c ∷ 0 ∷ []
operand_numbers (Held p) = place_numbers p

abbrev pub statement_numbers : Statement → List ℕ
statement_numbers s = s.operation ∷ place_numbers s.destination ++ operand_numbers s.left ++ operand_numbers s.right

unfoldable pub table_of : Slots → List ℕ
table_of b = b.variables ∷ b.live ∷ b.arrays ∷ b.count ∷ b.lengths ++ flat (map statement_numbers b.statements)
