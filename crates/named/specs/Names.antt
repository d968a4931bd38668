-- Places, operands and statements as a person writes them: V0, A0[3], 17, V0 = A0[3] + 17.
use Rattle.std.specs.Prelude.{ℕ, List, [], ◌∷◌, ◌++◌, get_or}
use Rattle.meaning.specs.declared.Place.{Place}
use Rattle.meaning.specs.declared.Place.TheVariants.{Variable, Cell}
use Rattle.meaning.specs.declared.Operand.{Operand}
use Rattle.meaning.specs.declared.Operand.TheVariants.{Nothing, Constant, Held}
use Rattle.meaning.specs.declared.Statement.{Statement}
use Rattle.text.specs.Text.{words, decimal}

abbrev pub variable_text : ℕ → List ℕ
variable_text v = words "V" ++ decimal v

-- an array's number, then the index in brackets
abbrev pub cell_text : ℕ → ℕ → List ℕ
cell_text array index = words "A" ++ decimal array ++ words "[" ++ decimal index ++ words "]"

unfoldable pub place_text : Place → List ℕ
place_text (Variable v) = variable_text v
place_text (Cell array index) = cell_text array index

unfoldable pub operand_text : Operand → List ℕ
operand_text Nothing = []
operand_text (Constant c) = decimal c
operand_text (Held place) = place_text place

-- what stands between the operands: nothing behind the one operand of a copy
unfoldable pub operation_text : ℕ → List ℕ
operation_text operation =
    get_or
    (words "" ∷ words " + " ∷ words " - " ∷ words " * " ∷ words " & " ∷ words " | " ∷ words " ^ " ∷ words " >> " ∷ [])
    operation
    []

unfoldable pub statement_text : Statement → List ℕ
statement_text s =
    place_text s.destination ++ words " = " ++ operand_text s.left ++ operation_text s.operation ++ operand_text s.right
