-- The two sections as they are printed, for a block of two statements and for one that has none.
use mathlib.Core.Path.{◌≡◌, refl}
use mathlib.Core.List.{[], ◌∷◌}
use Rattle.meaning.specs.declared.Place.TheVariants.{Variable, Cell}
use Rattle.meaning.specs.declared.Operand.TheVariants.{Nothing, Constant, Held}
use Rattle.meaning.specs.Block.{Block}
use Rattle.text.specs.Text.{words, spelled}
use Rattle.named.specs.Names.{place_text, operand_text, operation_text, statement_text}
use Rattle.account_statements.specs.Statements.{head_line, statement_line, numbered_lines, statement_lines}

abbrev two : Block
two =
    record {
      variables = 4;
      live = 1;
      lengths = 16 ∷ 5 ∷ [];
      statements =
          record { operation = 1; destination = Variable 0; left = Held (Cell 0 0); right = Constant 3 }
          ∷ record { operation = 0; destination = Cell 1 4; left = Held (Cell 0 1); right = Nothing }
          ∷ [];
    }

pub section_texts :
    (head_line two ≡ words "Block: variables 4, live out 1, arrays 2, statements 2.\n")
    × (statement_lines two.statements
    ≡ words "Statements, with the price of each:\n  0: V0 = A0[0] + 3 (price 2)\n  1: A1[4] = A0[1] (price 3)\n")
    × (statement_lines [] ≡ words "Statements, with the price of each:\n  none\n")
unfolding spelled place_text operand_text operation_text statement_text head_line statement_line numbered_lines statement_lines
section_texts = (refl, refl, refl)
