-- Places, operands and statements: how long their texts are at most.
use mathlib.Core.List.{[]}
use Prim.Native.Nat.{ℕ, zero, suc}
use native.Mathlib.Omega.{arith}
use Rattle.meaning.specs.declared.Place.{Place}
use Rattle.meaning.specs.declared.Place.TheVariants.{Variable, Cell}
use Rattle.meaning.specs.declared.Operand.{Operand}
use Rattle.meaning.specs.declared.Operand.TheVariants.{Nothing, Constant, Held}
use Rattle.meaning.specs.declared.Statement.{Statement}
use Rattle.text.specs.Text.{words}
use Rattle.named.specs.Names.{place_text, operand_text, operation_text, statement_text}
use Rattle.account_lengths.proofs.Short.{Short, said, number, ◌then◌, at_most}

pub place : (p : Place) → Short (place_text p) 43
unfolding place_text
place (Variable v) = at_most 43 (said (words "V") then number v) (omega arith)
place (Cell array index) = said (words "A") then number array then said (words "[") then number index then said (words "]")

pub operand : (o : Operand) → Short (operand_text o) 43
unfolding operand_text
operand Nothing = at_most 43 (said []) (omega arith)
operand (Constant c) = at_most 43 (number c) (omega arith)
operand (Held p) = place p

-- the eight operations, and what is none
pub operation : (n : ℕ) → Short (operation_text n) 4
unfolding operation_text
operation zero = at_most 4 (said []) (omega arith)
operation (suc zero) = at_most 4 (said (words " + ")) (omega arith)
operation (suc (suc zero)) = at_most 4 (said (words " - ")) (omega arith)
operation (suc (suc (suc zero))) = at_most 4 (said (words " * ")) (omega arith)
operation (suc (suc (suc (suc zero)))) = at_most 4 (said (words " & ")) (omega arith)
operation (suc (suc (suc (suc (suc zero))))) = at_most 4 (said (words " | ")) (omega arith)
operation (suc (suc (suc (suc (suc (suc zero)))))) = at_most 4 (said (words " ^ ")) (omega arith)
operation (suc (suc (suc (suc (suc (suc (suc zero))))))) = said (words " >> ")
operation (suc (suc (suc (suc (suc (suc (suc (suc n)))))))) = at_most 4 (said []) (omega arith)

pub statement : (s : Statement) → Short (statement_text s) 136
unfolding statement_text
statement s = place s.destination then said (words " = ") then operand s.left then operation s.operation then operand s.right
