-- What reading promises of a block is enough for every statement to have codes.
use mathlib.Core.Path.{◌≡◌, refl}
use Prim.Native.Nat.{◌<◌}
use mathlib.Core.Bool.{true, ◌&&◌}
use mathlib.Core.List.{List, [], ◌∷◌}
use native.Mathlib.Omega.{arith}
use lib.Dec.{ltb}
use lib.ListN.{length, get_or}
use borrow.Author.Tests.{ltb-true, lt-ltb}
use Rattle.basics.specs.Lists.{all}
use Rattle.basics.proofs.Tests.{and_left, and_right, and_both}
use Rattle.basics.proofs.Parts.{all_first, all_others}
use Rattle.meaning.specs.declared.Place.{Place}
use Rattle.meaning.specs.declared.Place.TheVariants.{Variable, Cell}
use Rattle.meaning.specs.declared.Operand.{Operand}
use Rattle.meaning.specs.declared.Operand.TheVariants.{Nothing, Constant, Held}
use Rattle.meaning.specs.declared.Statement.{Statement}
use Rattle.meaning.specs.Block.{Block, declares_place, declares_operand, declares_statement}
use Rattle.theorems.proofs.Operands.{constant_fits}
use Rattle.theorems.proofs.Records.{constants_fit}
use Rattle.theorems.proofs.Readable.{readable_length}
use Rattle.codes.specs.Fitting.{place_fits, operand_fits, statement_fits}
use Rattle.choice.specs.Promises.{Legal}

module _ (b : Block) (legal : Legal b) where
  place_fits_lem : (p : Place) → declares_place b.variables b.lengths p ≡ true → place_fits p ≡ true
  place_fits_lem (Variable v) e = lt-ltb v 32 (omega (arith, ltb-true v b.variables e, legal.readable.variables))
  place_fits_lem (Cell a i) e =
      let array : a < length b.lengths = ltb-true a (length b.lengths) (and_left _ _ e) in
      and_both (ltb a 8) (ltb i 256)
      (lt-ltb a 8 (omega (arith, array, legal.readable.arrays)))
      (lt-ltb i 256
      (omega (arith, ltb-true i (get_or b.lengths a 0) (and_right (ltb a (length b.lengths)) _ e), readable_length b legal.readable a array)))

  operand_fits_lem : (o : Operand) → declares_operand b.variables b.lengths o ≡ true → constant_fits o ≡ true → operand_fits o ≡ true
  operand_fits_lem Nothing e f = refl
  operand_fits_lem (Constant c) e f = f
  operand_fits_lem (Held p) e f = place_fits_lem p e

  statement_fits_lem : (s : Statement) → declares_statement b.variables b.lengths s ≡ true → constants_fit s ≡ true → statement_fits s ≡ true
  statement_fits_lem s e f =
      let places = and_left (declares_place b.variables b.lengths s.destination && declares_operand b.variables b.lengths s.left) _ e in
      and_both (place_fits s.destination) _ (place_fits_lem s.destination (and_left _ _ places))
      (and_both (operand_fits s.left) _
      (operand_fits_lem s.left (and_right (declares_place b.variables b.lengths s.destination) _ places) (and_left _ _ f))
      (operand_fits_lem s.right
      (and_right (declares_place b.variables b.lengths s.destination && declares_operand b.variables b.lengths s.left) _ e)
      (and_right (constant_fits s.left) _ f)))

  all_fit : (ss : List Statement) → all (declares_statement b.variables b.lengths) ss ≡ true → all constants_fit ss ≡ true
      → all statement_fits ss ≡ true
  all_fit [] e f = refl
  all_fit (s ∷ ss) e f =
      and_both (statement_fits s) (all statement_fits ss)
      (statement_fits_lem s (all_first (declares_statement b.variables b.lengths) s ss e) (all_first constants_fit s ss f))
      (all_fit ss (all_others (declares_statement b.variables b.lengths) s ss e) (all_others constants_fit s ss f))

  -- Every statement of a block that reads has codes.
  pub legal_fits : all statement_fits b.statements ≡ true
  legal_fits = all_fit b.statements legal.readable.declares legal.constants
