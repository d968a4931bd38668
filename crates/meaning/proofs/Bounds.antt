-- How much things come to at most: the widths of a place, an operand and a statement, the cells that they name, a statement's price, and
-- the lanes of a register.
use mathlib.Core.Path.{◌≡◌}
use mathlib.Core.Logic.{◌⊎◌, inl, inr}
use mathlib.Core.Bool.{true}
use Prim.Native.Nat.{ℕ, ◌≤◌}
use native.Mathlib.Omega.{arith}
use lib.Dec.{eqb}
use borrow.Author.Tests.{eqb-true}
use Rattle.basics.proofs.Tests.{or_either}
use Rattle.meaning.specs.declared.Place.{Place}
use Rattle.meaning.specs.declared.Place.TheVariants.{Variable, Cell}
use Rattle.meaning.specs.declared.Operand.{Operand}
use Rattle.meaning.specs.declared.Operand.TheVariants.{Nothing, Constant, Held}
use Rattle.meaning.specs.declared.Statement.{Statement}
use Rattle.meaning.specs.Block.{cell_place, cell_operand, statement_price}
use Rattle.meaning.specs.Format.{place_width, operand_width, statement_width}
use Rattle.meaning.specs.List.{lanes_fit}

-- bytes
pub place_width_lem : (p : Place) → place_width p ≤ 3
place_width_lem (Variable v) = omega arith
place_width_lem (Cell a i) = omega arith

pub operand_width_lem : (o : Operand) → operand_width o ≤ 5
operand_width_lem Nothing = omega arith
operand_width_lem (Constant c) = omega arith
operand_width_lem (Held p) = omega (arith, place_width_lem p)

pub statement_width_lem : (s : Statement) → statement_width s ≤ 14
statement_width_lem s = omega (arith, place_width_lem s.destination, operand_width_lem s.left, operand_width_lem s.right)

-- cells, and what they cost
pub place_cells : (p : Place) → cell_place p ≤ 1
place_cells (Variable v) = omega arith
place_cells (Cell a i) = omega arith

pub operand_cells : (o : Operand) → cell_operand o ≤ 1
operand_cells Nothing = omega arith
operand_cells (Constant c) = omega arith
operand_cells (Held p) = place_cells p

pub statement_price_lem : (s : Statement) → statement_price s ≤ 4
statement_price_lem s = omega (arith, operand_cells s.left, operand_cells s.right, place_cells s.destination)

-- "lanes k = 2 or 4"
pub lanes_two : (k : ℕ) → lanes_fit k ≡ true → (2 ≤ k) × (k ≤ 4)
lanes_two k e = by (or_either (eqb k 2) (eqb k 4) e)
  where
    by : (eqb k 2 ≡ true) ⊎ (eqb k 4 ≡ true) → (2 ≤ k) × (k ≤ 4)
    by (inl two) = (omega (arith, eqb-true k 2 two), omega (arith, eqb-true k 2 two))
    by (inr four) = (omega (arith, eqb-true k 4 four), omega (arith, eqb-true k 4 four))
