-- The column "price" for an instruction as it was read, with the statement that S names.
use Rattle.std.specs.Prelude.{ℕ, ◌+◌, min, List, leb}
use Rattle.std.proofs.Math.Option.{Option, none, some}
use Rattle.basics.specs.Choice.{pick}
use Rattle.meaning.specs.declared.Operand.{Operand}
use Rattle.meaning.specs.declared.Statement.{Statement}
use Rattle.meaning.specs.Block.{statement, blank, statement_price, cell_operand}
use Rattle.meaning.specs.List.{Instruction as Meaning, instruction_price}
use Rattle.instructions.specs.declared.Instruction.{Instruction}
use Rattle.instructions.specs.declared.Instruction.TheVariants.{S, L, C, G, Copy, O, W, D, X}

-- a slot past the lanes costs nothing
abbrev pub slot_price : ℕ → ℕ → Operand → ℕ
slot_price k slot o = pick (leb k slot) 0 (cell_operand o)

-- "k + cell lanes"
abbrev pub gather_price : ℕ → Operand → Operand → Operand → Operand → ℕ
gather_price k o₀ o₁ o₂ o₃ = min k 4 + ((slot_price k 0 o₀ + slot_price k 1 o₁) + (slot_price k 2 o₂ + slot_price k 3 o₃))

abbrev pub price_of : Instruction → Statement → ℕ
price_of (S number) s = statement_price s
price_of (L r k a i) s = 1
price_of (C r k c₀ c₁ c₂ c₃) s = 1
price_of (G r k o₀ o₁ o₂ o₃) s = gather_price k o₀ o₁ o₂ o₃
price_of (Copy r k ra) s = 1
price_of (O r operation k ra rb) s = 1
price_of (W r k a i) s = 1
price_of (D r lane a i) s = 2
price_of (X r lane v) s = 1

-- the price of the instruction that is meant
abbrev pub price_meant : List Statement → Option Meaning → ℕ
price_meant ss none = 0
price_meant ss (some instruction) = instruction_price ss instruction

-- the statement that S names
abbrev pub named : List Statement → Instruction → Statement
named ss (S number) = statement ss number
named ss (L r k a i) = blank
named ss (C r k c₀ c₁ c₂ c₃) = blank
named ss (G r k o₀ o₁ o₂ o₃) = blank
named ss (Copy r k ra) = blank
named ss (O r operation k ra rb) = blank
named ss (W r k a i) = blank
named ss (D r lane a i) = blank
named ss (X r lane v) = blank
