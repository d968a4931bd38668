-- The instructions of a list that can be written: how long their lines are at most.
use mathlib.Core.Path.{◌≡◌}
use mathlib.Core.Bool.{true}
use mathlib.Core.Option.{Option, none, some}
use mathlib.Core.List.{List, [], ◌∷◌, map}
use Prim.Native.Nat.{ℕ, zero, suc, ◌+◌, ◌*◌, ◌≤◌}
use native.Mathlib.Omega.{arith}
use lib.ListN.{length}
use Rattle.basics.specs.Lists.{all, flat}
use Rattle.basics.proofs.Tests.{and_left, and_right}
use Rattle.meaning.specs.declared.Operand.{Operand}
use Rattle.meaning.specs.declared.Place.TheVariants.{Variable, Cell}
use Rattle.meaning.specs.declared.Statement.{Statement}
use Rattle.meaning.specs.Block.{statement as statement_at}
use Rattle.meaning.specs.List.{Instruction, S, L, C, G, O, W, D, X, lanes_fit, instruction_price}
use Rattle.theorems.proofs.Instructions.{instruction_fits}
use Rattle.meaning.proofs.Bounds.{lanes_two}
use Rattle.text.specs.Text.{words, decimal, no_line}
use Rattle.named.specs.Names.{operand_text}
use Rattle.account_list.specs.Instructions.{register_text, lane_text, second_text, spaced, row_text, instruction_text, priced_line, instruction_line, instruction_lines}
use Rattle.account_lengths.proofs.Short.{Short, said, number, ◌then◌, at_most}
use Rattle.account_lengths.proofs.Names.{place, operand, operation, statement}

register : (r : ℕ) → Short (register_text r) 21
register r = said (words "R") then number r

lane : (r l : ℕ) → Short (lane_text r l) 42
lane r l = register r then said (words ".") then number l

second : (rb : Option ℕ) → Short (second_text rb) 21
second none = at_most 21 (said []) (omega arith)
second (some rb) = register rb

-- lanes, each behind a space
places : (k array index : ℕ) → Short (row_text k array index) (44 * k)
unfolding spaced
places zero array index = said []
places (suc k) array index = at_most _ (said (words " ") then place (Cell array index) then places k array (index + 1)) (omega arith)

constants : (cs : List ℕ) → Short (spaced (map decimal cs)) (44 * length cs)
unfolding spaced
constants [] = said []
constants (c ∷ cs) = at_most _ (said (words " ") then number c then constants cs) (omega arith)

operands : (os : List Operand) → Short (spaced (map operand_text os)) (44 * length os)
unfolding spaced
operands [] = said []
operands (o ∷ os) = at_most _ (said (words " ") then operand o then operands os) (omega arith)

four : {text : List ℕ} (k : ℕ) → Short text (44 * k) → lanes_fit k ≡ true → Short text 176
four k short fits = at_most 176 short (omega (arith, (lanes_two k fits).1))

instruction : (ss : List Statement) (i : Instruction) → instruction_fits i ≡ true → Short (instruction_text ss i) 201
unfolding instruction_text
instruction ss (S s) fits = at_most 201 (said (words "S ") then number s then said (words ": ") then statement (statement_at ss s)) (omega arith)
instruction ss (L r k a i) fits = said (words "L ") then register r then said (words " =") then four k (places k a i) fits
instruction ss (C r cs) fits =
    said (words "C ") then register r then said (words " =") then four (length cs) (constants cs) (and_left (lanes_fit (length cs)) _ fits)
instruction ss (G r os) fits =
    said (words "G ") then register r then said (words " =")
    then four (length os) (operands os) (and_left (lanes_fit (length os)) _ (and_left _ _ fits))
instruction ss (O r n k ra rb) fits =
    at_most 201 (said (words "O ") then register r then said (words " = ") then register ra then operation n then second rb) (omega arith)
instruction ss (W r k a i) fits = said (words "W") then four k (places k a i) fits then said (words " = ") then register r
instruction ss (D r l a i) fits = at_most 201 (said (words "D ") then place (Cell a i) then said (words " = ") then lane r l) (omega arith)
instruction ss (X r l v) fits = at_most 201 (said (words "X ") then place (Variable v) then said (words " = ") then lane r l) (omega arith)

line : (ss : List Statement) (i : Instruction) → instruction_fits i ≡ true → Short (instruction_line ss i) 233
unfolding priced_line
line ss i fits =
    said (words "  ") then instruction ss i fits then said (words " (price ") then number (instruction_price ss i) then said (words ")\n")

lines : (ss : List Statement) (list : List Instruction) → all instruction_fits list ≡ true → Short (flat (map (instruction_line ss) list)) (233 * length list)
lines ss [] fits = said []
lines ss (i ∷ list) fits = at_most _ (line ss i (and_left _ _ fits) then lines ss list (and_right (instruction_fits i) _ fits)) (omega arith)

-- "at most 160" instructions
pub instructions :
    (ss : List Statement) (list : List Instruction)
    → length list ≤ 160
    → all instruction_fits list ≡ true
    → Short (instruction_lines ss list) 37280
unfolding instruction_lines
instructions ss [] few fits = at_most 37280 (said no_line) (omega arith)
instructions ss (i ∷ list) few fits = at_most 37280 (lines ss (i ∷ list) fits) (omega (arith, few))
