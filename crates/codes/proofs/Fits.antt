-- The parts of a statement that fits, each by the statement's number.
use mathlib.Core.Path.{◌≡◌}
use mathlib.Core.Bool.{true, ◌&&◌}
use mathlib.Core.List.{List}
use Prim.Native.Nat.{ℕ, ◌<◌}
use lib.ListN.{length}
use Rattle.basics.specs.Lists.{all}
use Rattle.basics.proofs.Tests.{and_left, and_right}
use Rattle.basics.proofs.Parts.{all_at}
use Rattle.meaning.specs.declared.Statement.{Statement}
use Rattle.meaning.specs.Block.{statement, blank}
use Rattle.codes.specs.Fitting.{place_fits, operand_fits, statement_fits}

module _ (ss : List Statement) (fit : all statement_fits ss ≡ true) (s : ℕ) (below : s < length ss) where
  statement_fits_lem : statement_fits (statement ss s) ≡ true
  statement_fits_lem = all_at statement_fits ss s blank fit below

  operands_fit : operand_fits (statement ss s).left && operand_fits (statement ss s).right ≡ true
  operands_fit = and_right (place_fits (statement ss s).destination) _ statement_fits_lem

  pub destination_fits : place_fits (statement ss s).destination ≡ true
  destination_fits = and_left (place_fits (statement ss s).destination) _ statement_fits_lem

  pub left_fits : operand_fits (statement ss s).left ≡ true
  left_fits = and_left (operand_fits (statement ss s).left) (operand_fits (statement ss s).right) operands_fit

  pub right_fits : operand_fits (statement ss s).right ≡ true
  right_fits = and_right (operand_fits (statement ss s).left) (operand_fits (statement ss s).right) operands_fit
