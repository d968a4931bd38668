-- Lines as they are printed, one for each code.
use mathlib.Core.Path.{◌≡◌, refl}
use mathlib.Core.Option.{none, some}
use mathlib.Core.List.{List, [], ◌∷◌}
use Rattle.meaning.specs.declared.Place.TheVariants.{Variable, Cell}
use Rattle.meaning.specs.declared.Operand.TheVariants.{Constant, Held}
use Rattle.meaning.specs.declared.Statement.{Statement}
use Rattle.meaning.specs.List.{S, L, C, G, O, W, D, X}
use Rattle.text.specs.Text.{words, spelled}
use Rattle.named.specs.Names.{place_text, operand_text, operation_text, statement_text}
use Rattle.account_list.specs.Instructions.{spaced, instruction_text, priced_line, instruction_line, instruction_lines}

-- a block of one statement
abbrev one : List Statement
one = record { operation = 1; destination = Variable 1; left = Held (Variable 0); right = Constant 1 } ∷ []

pub line_texts :
    (instruction_line one (L 0 4 0 6) ≡ words "  L R0 = A0[6] A0[7] A0[8] A0[9] (price 1)\n")
    × (instruction_line one (C 1 (1 ∷ 2 ∷ [])) ≡ words "  C R1 = 1 2 (price 1)\n")
    × (instruction_line one (G 2 (Held (Variable 0) ∷ Held (Cell 0 1) ∷ Constant 5 ∷ Held (Variable 3) ∷ [])) ≡ words "  G R2 = V0 A0[1] 5 V3 (price 5)\n")
    × (instruction_line one (O 3 1 4 0 (some 1)) ≡ words "  O R3 = R0 + R1 (price 1)\n")
    × (instruction_line one (O 3 0 4 0 none) ≡ words "  O R3 = R0 (price 1)\n")
    × (instruction_line one (W 3 2 2 0) ≡ words "  W A2[0] A2[1] = R3 (price 1)\n")
    × (instruction_line one (D 3 1 2 5) ≡ words "  D A2[5] = R3.1 (price 2)\n")
    × (instruction_line one (X 3 0 0) ≡ words "  X V0 = R3.0 (price 1)\n")
    × (instruction_line one (S 0) ≡ words "  S 0: V1 = V0 + 1 (price 1)\n")
    × (instruction_lines one [] ≡ words "  none\n")
unfolding spelled place_text operand_text operation_text statement_text spaced instruction_text priced_line instruction_lines
line_texts = (refl, refl, refl, refl, refl, refl, refl, refl, refl, refl)
