-- The same lines from a list's bytes: an instruction as it was read, with its constants and operands in four slots, and the records one
-- after the other from a place on.
use Rattle.std.specs.Prelude.{ℕ, zero, suc, List, [], ◌++◌, eqb, leb, get_or}
use Rattle.std.proofs.Math.Option.{Option, none, some}
use Rattle.basics.specs.Choice.{pick}
use Rattle.meaning.specs.declared.Place.TheVariants.{Variable, Cell}
use Rattle.meaning.specs.declared.Statement.{Statement}
use Rattle.meaning.specs.List.{Instruction as Meaning}
use Rattle.instructions.specs.declared.Instruction.{Instruction}
use Rattle.instructions.specs.declared.Instruction.TheVariants.{S, L, C, G, Copy, O, W, D, X}
use Rattle.instructions.specs.Meant.{number_named}
use Rattle.instructions.specs.Next.{instruction_at, end_at}
use Rattle.rules.specs.Price.{price_meant}
use Rattle.text.specs.Text.{words, decimal, no_line}
use Rattle.named.specs.Names.{place_text, operand_text, operation_text, statement_text}
use Rattle.account_list.specs.Instructions.{register_text, lane_text, row_text, instruction_text, priced_line}

-- the number of the statement that S names; 0 where none is named
abbrev pub number_of : Instruction → ℕ
number_of i = number_named i

-- a slot past the lanes is not shown
abbrev pub slot_text : ℕ → ℕ → List ℕ → List ℕ
slot_text k slot text = pick (leb k slot) [] (words " " ++ text)

abbrev pub slots_text : ℕ → List ℕ → List ℕ → List ℕ → List ℕ → List ℕ
slots_text k t₀ t₁ t₂ t₃ = slot_text k 0 t₀ ++ slot_text k 1 t₁ ++ slot_text k 2 t₂ ++ slot_text k 3 t₃

-- an instruction as it was read, with the statement that S names
unfoldable pub shown : Instruction → Statement → List ℕ
shown (S number) s = words "S " ++ decimal number ++ words ": " ++ statement_text s
shown (L r k a i) s = words "L " ++ register_text r ++ words " =" ++ row_text k a i
shown (C r k c₀ c₁ c₂ c₃) s = words "C " ++ register_text r ++ words " =" ++ slots_text k (decimal c₀) (decimal c₁) (decimal c₂) (decimal c₃)
shown (G r k o₀ o₁ o₂ o₃) s = words "G " ++ register_text r ++ words " =" ++ slots_text k (operand_text o₀) (operand_text o₁) (operand_text o₂) (operand_text o₃)
shown (Copy r k ra) s = words "O " ++ register_text r ++ words " = " ++ register_text ra
shown (O r operation k ra rb) s =
    words "O " ++ register_text r ++ words " = " ++ register_text ra ++ operation_text operation ++ register_text rb
shown (W r k a i) s = words "W" ++ row_text k a i ++ words " = " ++ register_text r
shown (D r lane a i) s = words "D " ++ place_text (Cell a i) ++ words " = " ++ lane_text r lane
shown (X r lane v) s = words "X " ++ place_text (Variable v) ++ words " = " ++ lane_text r lane

-- what a record says, beside the statements of the block
abbrev pub text_meant : List Statement → Option Meaning → List ℕ
text_meant ss none = words "broken"
text_meant ss (some instruction) = instruction_text ss instruction

abbrev pub line_meant : List Statement → Option Meaning → List ℕ
line_meant ss read = priced_line (text_meant ss read) (price_meant ss read)

-- so many records, from a place of the bytes on
unfoldable pub lines_from : List Statement → List ℕ → ℕ → ℕ → List ℕ
lines_from ss bytes zero start = []
lines_from ss bytes (suc n) start = line_meant ss (instruction_at bytes start) ++ lines_from ss bytes n (end_at bytes start)

-- all of a list's records: its count stands in the fourth byte, and they begin behind it
unfoldable pub list_text : List Statement → List ℕ → List ℕ
list_text ss bytes = pick (eqb (get_or bytes 3 0) 0) no_line (lines_from ss bytes (get_or bytes 3 0) 4)
