-- What is known of the operands and destinations of a block that reads: they are there, declared, and their constants fit.
use mathlib.Core.Path.{◌≡◌, refl, ap, subst, ◌∙◌}
use mathlib.Core.Bool.{Bool, true, false, ◌&&◌, not}
use mathlib.Core.List.{List, [], ◌∷◌}
use Prim.Native.Nat.{ℕ, ◌<◌}
use lib.Dec.{ltb, leb}
use lib.ListN.{length}
use borrow.Author.Tests.{ltb-true, not-true}
use Rattle.basics.specs.Choice.{pick}
use Rattle.basics.specs.Lists.{all}
use Rattle.basics.proofs.Tests.{and_left, and_right, and_both}
use Rattle.basics.proofs.Parts.{all_at}
use Rattle.meaning.specs.declared.Operand.{Operand}
use Rattle.meaning.specs.declared.Statement.{Statement}
use Rattle.meaning.specs.Block.{Block, blank, statement, is_copy, Position, left, right, operand, declares_place, declares_operand, declares_statement}
use Rattle.meaning.specs.Format.{is_operand, well_formed}
use Rattle.meaning.specs.Emission.{tuple_at, destinations}
use Rattle.theorems.specs.Steps.{has_operand, Tuple}
use Rattle.theorems.proofs.Operands.{constant_fits}
use Rattle.theorems.proofs.Records.{constants_fit}
use Rattle.theorems.proofs.Readable.{Readable}

-- what each operand of the block passes, a tuple of them passes
tuple_passes : (ss : List Statement) (test : Operand → Bool) (position : Position)
    → ((s : ℕ) → has_operand ss position s ≡ true → test (operand position (statement ss s)) ≡ true)
    → (unit : List ℕ) → all (has_operand ss position) unit ≡ true → all test (tuple_at position ss unit) ≡ true
tuple_passes ss test position h [] there = refl
tuple_passes ss test position h (s ∷ unit) there =
    and_both (test (operand position (statement ss s))) _ (h s (and_left (has_operand ss position s) _ there))
    (tuple_passes ss test position h unit (and_right (has_operand ss position s) _ there))

pub tuple_all : (ss : List Statement) (test : Operand → Bool) (tuple : List Operand)
    → ((position : Position) (s : ℕ) → has_operand ss position s ≡ true → test (operand position (statement ss s)) ≡ true)
    → Tuple ss tuple → all test tuple ≡ true
tuple_all ss test tuple h t = ap (all test) t.is ∙ tuple_passes ss test t.position (h t.position) t.unit t.there

pub in_block : (ss : List Statement) (position : Position) (s : ℕ) → has_operand ss position s ≡ true → s < length ss
in_block ss left s e = ltb-true s (length ss) e
in_block ss right s e = ltb-true s (length ss) (and_left (ltb s (length ss)) _ e)

module _ (b : Block) (readable : Readable b) where
  formed_at : (s : ℕ) → s < length b.statements → well_formed (statement b.statements s) ≡ true
  formed_at s below = all_at well_formed b.statements s blank readable.formed below

  pub declares_at : (s : ℕ) → s < length b.statements → declares_statement b.variables b.lengths (statement b.statements s) ≡ true
  declares_at s below = all_at (declares_statement b.variables b.lengths) b.statements s blank readable.declares below

  pub operation_known : (s : ℕ) → s < length b.statements → leb (statement b.statements s).operation 7 ≡ true
  operation_known s below =
      let this = statement b.statements s in
      and_left (leb this.operation 7) _ (and_left (leb this.operation 7 && is_operand this.left) _ (formed_at s below))

  there_by : (position : Position) (s : ℕ) → has_operand b.statements position s ≡ true → is_operand (operand position (statement b.statements s)) ≡ true
  there_by left s e =
      let this = statement b.statements s in
      and_right (leb this.operation 7) _ (and_left (leb this.operation 7 && is_operand this.left) _ (formed_at s (in_block b.statements left s e)))
  there_by right s e =
      let this = statement b.statements s in
      let other : is_copy this ≡ false = not-true (is_copy this) (and_right (ltb s (length b.statements)) _ e) in
      subst (λ (copy : Bool). pick copy (not (is_operand this.right)) (is_operand this.right) ≡ true) other
      (and_right (leb this.operation 7 && is_operand this.left) _ (formed_at s (in_block b.statements right s e)))

  declared_by : (position : Position) (s : ℕ) → has_operand b.statements position s ≡ true
      → declares_operand b.variables b.lengths (operand position (statement b.statements s)) ≡ true
  declared_by left s e =
      let this = statement b.statements s in
      and_right (declares_place b.variables b.lengths this.destination) _
      (and_left (declares_place b.variables b.lengths this.destination && declares_operand b.variables b.lengths this.left) _
      (declares_at s (in_block b.statements left s e)))
  declared_by right s e =
      let this = statement b.statements s in
      and_right (declares_place b.variables b.lengths this.destination && declares_operand b.variables b.lengths this.left) _
      (declares_at s (in_block b.statements right s e))

  pub destination_declared : (s : ℕ) → s < length b.statements → declares_place b.variables b.lengths (statement b.statements s).destination ≡ true
  destination_declared s below =
      let this = statement b.statements s in
      and_left (declares_place b.variables b.lengths this.destination) _
      (and_left (declares_place b.variables b.lengths this.destination && declares_operand b.variables b.lengths this.left) _ (declares_at s below))

  -- A tuple's operands are there, declared, and fit; so are the places that a pack writes.
  pub tuple_there : (tuple : List Operand) → Tuple b.statements tuple → all is_operand tuple ≡ true
  tuple_there tuple t = tuple_all b.statements is_operand tuple there_by t

  pub tuple_declared : (tuple : List Operand) → Tuple b.statements tuple → all (declares_operand b.variables b.lengths) tuple ≡ true
  tuple_declared tuple t = tuple_all b.statements (declares_operand b.variables b.lengths) tuple declared_by t

  pub destinations_declared : (unit : List ℕ) → all (λ s. ltb s (length b.statements)) unit ≡ true
      → all (declares_operand b.variables b.lengths) (destinations b.statements unit) ≡ true
  destinations_declared [] range = refl
  destinations_declared (s ∷ unit) range =
      and_both (declares_place b.variables b.lengths (statement b.statements s).destination) _
      (destination_declared s (ltb-true s (length b.statements) (and_left (ltb s (length b.statements)) _ range)))
      (destinations_declared unit (and_right (ltb s (length b.statements)) _ range))

pub tuple_fits : (ss : List Statement) → all constants_fit ss ≡ true → (tuple : List Operand) → Tuple ss tuple → all constant_fits tuple ≡ true
tuple_fits ss fit tuple t = tuple_all ss constant_fits tuple by t
  where
    by : (position : Position) (s : ℕ) → has_operand ss position s ≡ true → constant_fits (operand position (statement ss s)) ≡ true
    by left s e = and_left (constant_fits (statement ss s).left) _ (all_at constants_fit ss s blank fit (in_block ss left s e))
    by right s e = and_right (constant_fits (statement ss s).left) _ (all_at constants_fit ss s blank fit (in_block ss right s e))
