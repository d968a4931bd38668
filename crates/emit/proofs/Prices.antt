-- No instruction costs more than 8, so the price of a list within the limits is small.
use Rattle.std.proofs.Common.{◌≡◌, ◌+◌, ◌*◌, ◌≤◌, true, ◌&&◌, List, [], ◌∷◌, map, length, arith}
use Rattle.basics.specs.Lists.{all, sum}
use Rattle.basics.proofs.Tests.{and_left}
use Rattle.basics.proofs.Parts.{all_first, all_others}
use Rattle.meaning.specs.declared.Operand.{Operand}
use Rattle.meaning.specs.declared.Statement.{Statement}
use Rattle.meaning.specs.Block.{statement, cell_operand}
use Rattle.meaning.specs.Format.{is_operand}
use Rattle.meaning.specs.List.{Instruction, S, L, C, G, O, W, D, X, instruction_price, list_price, lanes_fit}
use Rattle.meaning.proofs.Bounds.{operand_cells, statement_price_lem}
use Rattle.theorems.proofs.Instructions.{instruction_fits}
use Rattle.registers.proofs.Laned.{Laned, two, four, laned}

gather_cheap : (os : List Operand) → Laned os → length os + sum (map cell_operand os) ≤ 8
gather_cheap os (two a b) = omega (arith, operand_cells a, operand_cells b)
gather_cheap os (four a b c d) = omega (arith, operand_cells a, operand_cells b, operand_cells c, operand_cells d)

instruction_cheap : (ss : List Statement) (i : Instruction) → instruction_fits i ≡ true → instruction_price ss i ≤ 8
instruction_cheap ss (S s) fits = omega (arith, statement_price_lem (statement ss s))
instruction_cheap ss (L r k a i) fits = omega arith
instruction_cheap ss (C r cs) fits = omega arith
instruction_cheap ss (G r os) fits =
    gather_cheap os (laned os (and_left (lanes_fit (length os)) _ (and_left (lanes_fit (length os) && all is_operand os) _ fits)))
instruction_cheap ss (O r operation k ra rb) fits = omega arith
instruction_cheap ss (W r k a i) fits = omega arith
instruction_cheap ss (D r lane a i) fits = omega arith
instruction_cheap ss (X r lane v) fits = omega arith

pub list_cheap : (ss : List Statement) (list : List Instruction) → all instruction_fits list ≡ true → list_price ss list ≤ 8 * length list
unfolding list_price
list_cheap ss [] fit = omega arith
list_cheap ss (i ∷ list) fit =
    omega (arith, instruction_cheap ss i (all_first instruction_fits i list fit), list_cheap ss list (all_others instruction_fits i list fit))
