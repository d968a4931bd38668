-- The instruction that a record was read as, with its constants and operands in four slots, as the document's instruction.
use Rattle.std.specs.Prelude.{ℕ, List, [], ◌∷◌, ◌&&◌, eqb, leb, length, take}
use Rattle.std.specs.Prelude.{Option as Maybe, Some, None}
use Rattle.std.proofs.Math.Option.{Option, none, some}
use Rattle.meaning.specs.declared.Operand.{Operand}
use Rattle.meaning.specs.List.{Instruction as Meaning, form, field, lanes_fit, operands_fill}
use Rattle.meaning.specs.List as List
use Rattle.instructions.specs.declared.Instruction.{Instruction}
use Rattle.instructions.specs.declared.Instruction.TheVariants.{S, L, C, G, Copy, O, W, D, X}

abbrev pub meant : Instruction → Meaning
meant (S s) = List.S s
meant (L r k a i) = List.L r k a i
meant (C r k c₀ c₁ c₂ c₃) = List.C r (take k (c₀ ∷ c₁ ∷ c₂ ∷ c₃ ∷ []))
meant (G r k o₀ o₁ o₂ o₃) = List.G r (take k (o₀ ∷ o₁ ∷ o₂ ∷ o₃ ∷ []))
meant (Copy r k ra) = List.O r 0 k ra none
meant (O r operation k ra rb) = List.O r operation k ra (some rb)
meant (W r k a i) = List.W r k a i
meant (D r lane a i) = List.D r lane a i
meant (X r lane v) = List.X r lane v

-- what a record was read as, where it was read as an instruction
abbrev pub read_meant : Maybe Instruction → Option Meaning
read_meant None = none
read_meant (Some i) = some (meant i)

-- the number of the statement that S names; 0 where none is named
abbrev pub number_named : Instruction → ℕ
number_named (S s) = s
number_named (L r k a i) = 0
number_named (C r k c₀ c₁ c₂ c₃) = 0
number_named (G r k o₀ o₁ o₂ o₃) = 0
number_named (Copy r k ra) = 0
number_named (O r operation k ra rb) = 0
number_named (W r k a i) = 0
number_named (D r lane a i) = 0
number_named (X r lane v) = 0

-- the two forms of O
abbrev pub read_copy : List ℕ → Option Meaning
read_copy bytes = form (eqb (length bytes) 5 && lanes_fit (field 3 bytes)) (List.O (field 1 bytes) 0 (field 3 bytes) (field 4 bytes) none)

abbrev pub read_two : List ℕ → Option Meaning
read_two bytes =
    form (eqb (length bytes) 6 && lanes_fit (field 3 bytes) && leb (field 2 bytes) 7)
    (List.O (field 1 bytes) (field 2 bytes) (field 3 bytes) (field 4 bytes) (some (field 5 bytes)))

-- G with these operands, where they fill its record
abbrev pub gathered : List ℕ → List Operand → Option Meaning
gathered bytes os = form (operands_fill bytes os) (List.G (field 1 bytes) os)
