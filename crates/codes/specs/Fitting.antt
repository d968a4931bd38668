-- The statements that have codes: what reading a block promises of its numbers.
use Rattle.std.specs.Prelude.{◌^◌, Bool, true, ◌&&◌, ltb}
use Rattle.meaning.specs.declared.Place.{Place}
use Rattle.meaning.specs.declared.Place.TheVariants.{Variable, Cell}
use Rattle.meaning.specs.declared.Operand.{Operand}
use Rattle.meaning.specs.declared.Operand.TheVariants.{Nothing, Constant, Held}
use Rattle.meaning.specs.declared.Statement.{Statement}

-- "up to 32 variables", "up to 8 arrays of 1 to 256 cells", constants of 32 bits
abbrev pub place_fits : Place → Bool
place_fits (Variable v) = ltb v 32
place_fits (Cell a i) = ltb a 8 && ltb i 256

abbrev pub operand_fits : Operand → Bool
operand_fits Nothing = true
operand_fits (Constant c) = ltb c (2 ^ 32)
operand_fits (Held p) = place_fits p

abbrev pub statement_fits : Statement → Bool
statement_fits s = place_fits s.destination && (operand_fits s.left && operand_fits s.right)
