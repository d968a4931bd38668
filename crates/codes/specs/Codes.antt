-- Operands as numbers: different ones for different operands, and numbers in a row for cells in a row alone.
use Rattle.std.specs.Prelude.{ℕ, ◌+◌, ◌*◌, Bool, ◌&&◌, eqb, ltb, leb}
use Rattle.basics.specs.Choice.{pick}
use Rattle.meaning.specs.declared.Place.{Place}
use Rattle.meaning.specs.declared.Place.TheVariants.{Variable, Cell}
use Rattle.meaning.specs.declared.Operand.{Operand}
use Rattle.meaning.specs.declared.Operand.TheVariants.{Nothing, Constant, Held}

abbrev pub place_code : Place → ℕ
place_code (Variable v) = 2 + 2 * v
place_code (Cell a i) = 514 + 257 * a + i

abbrev pub operand_code : Operand → ℕ
operand_code Nothing = 0
operand_code (Constant c) = 4294967296 + 2 * c
operand_code (Held p) = place_code p

-- "cells in a row"
abbrev pub codes_in_row : ℕ → ℕ → Bool
codes_in_row code other = eqb other (code + 1)

abbrev pub is_cell_code : ℕ → Bool
is_cell_code code = leb 514 code && ltb code 4294967296

abbrev pub is_constant_code : ℕ → Bool
is_constant_code code = leb 4294967296 code

abbrev pub is_variable_code : ℕ → Bool
is_variable_code code = leb 2 code && ltb code 514

-- 1 for a cell, else 0
abbrev pub cell_code : ℕ → ℕ
cell_code code = pick (is_cell_code code) 1 0
