-- A list on its way: the statement and the registers that an instruction names, the card that a table of registers stands for, and what
-- the records that are left still cost and do.
use Rattle.std.specs.Prelude.{ℕ, ◌+◌, false, List, [], map, ltb, length, get_or, take}
use Rattle.std.proofs.Math.Option.{Option, none, some}
use Rattle.basics.specs.Choice.{pick}
use Rattle.basics.specs.Lists.{each}
use Rattle.meaning.specs.declared.Statement.{Statement}
use Rattle.meaning.specs.Block.{Block, blank}
use Rattle.meaning.specs.Machine.{Contents}
use Rattle.meaning.specs.List.{Instruction as Meaning, list_price}
use Rattle.meaning.specs.Card.{Card, run_instruction}
use Rattle.meaning.specs.Calls.{Ran}
use Rattle.instructions.specs.declared.Instruction.{Instruction}
use Rattle.instructions.specs.declared.Instruction.TheVariants.{S, L, C, G, Copy, O, W, D, X}
use Rattle.instructions.specs.Meant.{number_named}
use Rattle.instructions.specs.declared.Register.{Register}
use Rattle.card.specs.Registers.{held}

-- the statement that S names; 0 where none is named
abbrev pub statement_of : Instruction → ℕ
statement_of i = number_named i

-- the register that is read, or the first of two
abbrev pub first_of : Instruction → ℕ
first_of (S s) = 0
first_of (L r k a i) = 0
first_of (C r k c₀ c₁ c₂ c₃) = 0
first_of (G r k o₀ o₁ o₂ o₃) = 0
first_of (Copy r k ra) = ra
first_of (O r operation k ra rb) = ra
first_of (W r k a i) = r
first_of (D r lane a i) = r
first_of (X r lane v) = r

abbrev pub second_of : Instruction → ℕ
second_of (S s) = 0
second_of (L r k a i) = 0
second_of (C r k c₀ c₁ c₂ c₃) = 0
second_of (G r k o₀ o₁ o₂ o₃) = 0
second_of (Copy r k ra) = 0
second_of (O r operation k ra rb) = rb
second_of (W r k a i) = 0
second_of (D r lane a i) = 0
second_of (X r lane v) = 0

-- a slot of so many; 0 for a number that is none of theirs
abbrev pub slot_of : ℕ → ℕ → ℕ
slot_of slots n = pick (ltb n slots) n 0

-- what stands past a table's end
abbrev pub missing : Register
missing = record { lanes = []; count = 0; current = false }

abbrev pub register_at : List Register → ℕ → Register
register_at registers r = get_or registers (slot_of 97 r) missing

abbrev pub statement_at : List Statement → ℕ → Statement
statement_at statements s = get_or statements (slot_of 64 s) blank

-- the card whose registers are the first n of a table
abbrev pub card_of : List Register → ℕ → Contents → Card
card_of registers n m = record { contents = m; registers = map held (take n registers) }

-- the lanes of each register written so far
abbrev pub counts_of : List Register → ℕ → List ℕ
counts_of registers n = map length (map held (take n registers))

-- the price when what is left is paid too, and the contents when it has run
abbrev pub paid : Block → ℕ → Option (List Meaning) → ℕ
paid b price none = price
paid b price (some list) = price + list_price b.statements list

abbrev pub left : Block → Card → Option (List Meaning) → Contents
left b c none = c.contents
left b c (some list) = (each (run_instruction b) list c).contents

-- the status, the price and the contents afterwards, as document 01's answer
abbrev pub answered : ℕ → ℕ → Contents → Ran
answered number price m = record { status = number; price = price; contents = m }
