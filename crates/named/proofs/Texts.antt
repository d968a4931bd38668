-- Statements as they are printed.
use mathlib.Core.Path.{◌≡◌, refl}
use Prim.Native.Nat.{ℕ}
use Rattle.meaning.specs.declared.Place.{Place}
use Rattle.meaning.specs.declared.Place.TheVariants.{Variable, Cell}
use Rattle.meaning.specs.declared.Operand.{Operand}
use Rattle.meaning.specs.declared.Operand.TheVariants.{Nothing, Constant, Held}
use Rattle.meaning.specs.declared.Statement.{Statement}
use Rattle.text.specs.Text.{words, spelled}
use Rattle.named.specs.Names.{place_text, operand_text, operation_text, statement_text}

abbrev statement : ℕ → Place → Operand → Operand → Statement
statement operation destination left right =
    record { operation = operation; destination = destination; left = left; right = right }

pub statement_texts :
    (statement_text (statement 1 (Variable 0) (Held (Cell 0 0)) (Constant 3)) ≡ words "V0 = A0[0] + 3")
    × (statement_text (statement 0 (Cell 2 15) (Held (Variable 31)) Nothing) ≡ words "A2[15] = V31")
    × (statement_text (statement 7 (Variable 1) (Held (Variable 0)) (Constant 33)) ≡ words "V1 = V0 >> 33")
unfolding spelled place_text operand_text operation_text statement_text
statement_texts = (refl, refl, refl)
