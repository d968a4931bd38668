-- The rules of 9 for an instruction as it was read, with its constants and operands in four slots, and the lanes of the register that it writes.
use Rattle.std.specs.Prelude.{ℕ, ◌+◌, min, Bool, false, ◌&&◌, ◌||◌, List, ltb, leb, length, get_or}
use Rattle.std.proofs.Math.Option.{Option, none, some}
use Rattle.meaning.specs.declared.Operand.{Operand}
use Rattle.meaning.specs.declared.Place.TheVariants.{Variable, Cell}
use Rattle.meaning.specs.Block.{Block, declares_place, declares_operand}
use Rattle.meaning.specs.List.{Instruction as Meaning, is_next, is_written, has_lane, is_allowed, written_after}
use Rattle.instructions.specs.declared.Instruction.{Instruction}
use Rattle.instructions.specs.declared.Instruction.TheVariants.{S, L, C, G, Copy, O, W, D, X}

-- 9, for an instruction that was read
abbrev pub one_allowed : Block → List ℕ → Option Meaning → Bool
one_allowed b written none = false
one_allowed b written (some instruction) = is_allowed b written instruction

-- the registers written after it
abbrev pub afterward : List ℕ → Option Meaning → List ℕ
afterward written none = written
afterward written (some instruction) = written_after written instruction

-- "k cells in a row", all of them declared
abbrev pub row_declared : List ℕ → ℕ → ℕ → ℕ → Bool
row_declared lengths k array index = ltb array (length lengths) && leb (index + k) (get_or lengths array 0)

-- an operand in a slot past the lanes is not asked
abbrev pub slot_declared : ℕ → List ℕ → ℕ → ℕ → Operand → Bool
slot_declared variables lengths k slot o = leb k slot || declares_operand variables lengths o

abbrev pub slots_declared : ℕ → List ℕ → ℕ → ℕ → Operand → Operand → Bool
slots_declared variables lengths k slot o o' = slot_declared variables lengths k slot o && slot_declared variables lengths k (slot + 1) o'

-- the rules, by how many statements the block has, its variables and its array lengths
abbrev pub obeys_rules : ℕ → ℕ → List ℕ → List ℕ → Instruction → Bool
obeys_rules statements variables lengths written (S s) = ltb s statements
obeys_rules statements variables lengths written (L r k a i) = is_next written r && row_declared lengths k a i
obeys_rules statements variables lengths written (C r k c₀ c₁ c₂ c₃) = is_next written r
obeys_rules statements variables lengths written (G r k o₀ o₁ o₂ o₃) =
    is_next written r && (slots_declared variables lengths k 0 o₀ o₁ && slots_declared variables lengths k 2 o₂ o₃)
obeys_rules statements variables lengths written (Copy r k ra) = is_next written r && is_written written ra k
obeys_rules statements variables lengths written (O r operation k ra rb) = is_next written r && is_written written ra k && is_written written rb k
obeys_rules statements variables lengths written (W r k a i) = is_written written r k && row_declared lengths k a i
obeys_rules statements variables lengths written (D r lane a i) = has_lane written r lane && declares_place variables lengths (Cell a i)
obeys_rules statements variables lengths written (X r lane v) = has_lane written r lane && declares_place variables lengths (Variable v)

-- "L, C, G and O each write a new register": how many an instruction writes, and with how many lanes
abbrev pub registers_written : Instruction → ℕ
registers_written (S s) = 0
registers_written (L r k a i) = 1
registers_written (C r k c₀ c₁ c₂ c₃) = 1
registers_written (G r k o₀ o₁ o₂ o₃) = 1
registers_written (Copy r k ra) = 1
registers_written (O r operation k ra rb) = 1
registers_written (W r k a i) = 0
registers_written (D r lane a i) = 0
registers_written (X r lane v) = 0

abbrev pub lanes_written : Instruction → ℕ
lanes_written (S s) = 0
lanes_written (L r k a i) = k
lanes_written (C r k c₀ c₁ c₂ c₃) = min k 4
lanes_written (G r k o₀ o₁ o₂ o₃) = min k 4
lanes_written (Copy r k ra) = k
lanes_written (O r operation k ra rb) = k
lanes_written (W r k a i) = 0
lanes_written (D r lane a i) = 0
lanes_written (X r lane v) = 0
