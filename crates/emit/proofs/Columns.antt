-- What the columns of facts say of a unit: the codes of its operands and its destinations, and its operation.
use Rattle.std.proofs.Common.{◌≡◌, ℕ, ◌/◌, ◌%◌, ◌<◌, ◌≤◌, Bool, true, false, not, ◌&&◌, eqb, leb, List, [], ◌∷◌, map, length, refl, ap, ◌∙◌, arith, eqb-true, leb-true}
use Rattle.basics.specs.Choice.{pick}
use Rattle.basics.specs.Lists.{all}
use Rattle.basics.proofs.Tests.{and_left, and_right, and_both}
use Rattle.basics.proofs.Parts.{all_at}
use Rattle.meaning.specs.declared.Operand.{Operand}
use Rattle.meaning.specs.declared.Operand.TheVariants.{Held}
use Rattle.meaning.specs.declared.Statement.{Statement}
use Rattle.meaning.specs.Block.{statement, blank, is_copy, left, right}
use Rattle.meaning.specs.Format.{is_operand, well_formed}
use Rattle.meaning.specs.List.{lanes_fit}
use Rattle.meaning.specs.Emission.{tuple_at, destinations, operation_of}
use Rattle.meaning.proofs.Bounds.{place_cells}
use Rattle.theorems.specs.Units.{Every}
use Rattle.theorems.proofs.Occurs.{every_map}
use Rattle.codes.specs.Codes.{operand_code}
use Rattle.codes.specs.Fitting.{place_fits, operand_fits, statement_fits}
use Rattle.codes.proofs.Fits.{destination_fits, left_fits, right_fits}
use Rattle.facts.specs.Facts.{fact_at}
use Rattle.facts.specs.Tied.{Stated}
use Rattle.units.specs.Lanes.{lanes_of}
use Rattle.registers.proofs.Laned.{Laned, two, four, tuple_of}
use Rattle.fetch.specs.Fetching.{tuple_in}
use Rattle.fetch.proofs.Tuples.{Fetchable}
use Rattle.emit.specs.Emitting.{operation_in}

-- statements of a block that is read, and their facts
pub record Known (ss : List Statement) (facts : List ℕ) : Type 0 where
  pub stated : Stated ss facts
  pub fit : all statement_fits ss ≡ true
  pub formed : all well_formed ss ≡ true
  pub few : length ss ≤ 64

module _ (ss : List Statement) (facts : List ℕ) (known : Known ss facts) where
  formed_at : (s : ℕ) → s < length ss → well_formed (statement ss s) ≡ true
  formed_at s below = all_at well_formed ss s blank known.formed below

  operation_small : (s : ℕ) → s < length ss → (statement ss s).operation ≤ 7
  operation_small s below =
      leb-true (statement ss s).operation 7
      (and_left (leb (statement ss s).operation 7) _ (and_left (leb (statement ss s).operation 7 && is_operand (statement ss s).left) _ (formed_at s below)))

  left_there : (s : ℕ) → s < length ss → is_operand (statement ss s).left ≡ true
  left_there s below =
      and_right (leb (statement ss s).operation 7) _ (and_left (leb (statement ss s).operation 7 && is_operand (statement ss s).left) _ (formed_at s below))

  right_there : (s : ℕ) → s < length ss → is_copy (statement ss s) ≡ false → is_operand (statement ss s).right ≡ true
  right_there s below other =
      let picked = and_right (leb (statement ss s).operation 7 && is_operand (statement ss s).left) _ (formed_at s below) in
      chosen (is_copy (statement ss s)) (is_operand (statement ss s).right) other picked
    where
      chosen : (copy there : Bool) → copy ≡ false → pick copy (not there) there ≡ true → there ≡ true
      chosen copy there e h = rw e at h

  lanes_kept : (take-from : ℕ → Operand) (unit : List ℕ) → Laned unit → lanes_fit (length (map take-from unit)) ≡ true
  lanes_kept take-from unit (two a b) = refl
  lanes_kept take-from unit (four a b c d) = refl

  rights_there : (k : ℕ) (unit : List ℕ) → Every (λ s. s < length ss) unit → all (λ s. eqb (statement ss s).operation k) unit ≡ true → eqb k 0 ≡ false
      → all is_operand (tuple_at right ss unit) ≡ true
  rights_there k [] range one other = refl
  rights_there k (s ∷ unit) range one other =
      let this : (statement ss s).operation ≡ k = eqb-true (statement ss s).operation k (and_left (eqb (statement ss s).operation k) _ one) in
      and_both (is_operand (statement ss s).right) _ (right_there s range.0 (ap (λ (n : ℕ). eqb n 0) this ∙ other))
      (rights_there k unit range.1 (and_right (eqb (statement ss s).operation k) _ one) other)

  pub lefts_fetchable : (unit : List ℕ) → Laned unit → Every (λ s. s < length ss) unit → Fetchable (tuple_at left ss unit)
  lefts_fetchable unit shape range =
      record {
        lanes = lanes_kept (λ s. (statement ss s).left) unit shape;
        fit = every_map (λ s. s < length ss) (λ s. (statement ss s).left) operand_fits (left_fits ss known.fit) unit range;
        there = every_map (λ s. s < length ss) (λ s. (statement ss s).left) is_operand left_there unit range;
      }

  pub rights_fetchable : (unit : List ℕ) → Laned unit → Every (λ s. s < length ss) unit
      → all (λ s. eqb (statement ss s).operation (operation_of ss unit)) unit ≡ true → eqb (operation_of ss unit) 0 ≡ false
      → Fetchable (tuple_at right ss unit)
  rights_fetchable unit shape range one other =
      record {
        lanes = lanes_kept (λ s. (statement ss s).right) unit shape;
        fit = every_map (λ s. s < length ss) (λ s. (statement ss s).right) operand_fits (right_fits ss known.fit) unit range;
        there = rights_there (operation_of ss unit) unit range one other;
      }

  pub destinations_fit : (unit : List ℕ) → Every (λ s. s < length ss) unit → all operand_fits (destinations ss unit) ≡ true
  destinations_fit unit range = every_map (λ s. s < length ss) (λ s. Held (statement ss s).destination) operand_fits (destination_fits ss known.fit) unit range

  pub destinations_laned : (unit : List ℕ) → Laned unit → lanes_fit (length (destinations ss unit)) ≡ true
  destinations_laned unit shape = lanes_kept (λ s. Held (statement ss s).destination) unit shape

  pub places_fit : (unit : List ℕ) → Every (λ s. s < length ss) unit → all place_fits (map (λ s. (statement ss s).destination) unit) ≡ true
  places_fit unit range = every_map (λ s. s < length ss) (λ s. (statement ss s).destination) place_fits (destination_fits ss known.fit) unit range

  -- the codes of a unit's operands in one column
  column_tuple : (column : ℕ) (take-from : ℕ → Operand) → ((s : ℕ) → s < length ss → fact_at facts column s ≡ operand_code (take-from s))
      → (unit : List ℕ) → Laned unit → Every (λ s. s < length ss) unit → tuple_in facts column (lanes_of unit) ≡ tuple_of (map take-from unit)
  column_tuple column take-from says unit (two a b) range = rw (says a range.0, says b range.1.0)
  column_tuple column take-from says unit (four a b c d) range =
      rw (says a range.0, says b range.1.0, says c range.1.1.0, says d range.1.1.1.0)

  pub left_column : (unit : List ℕ) → Laned unit → Every (λ s. s < length ss) unit → tuple_in facts 64 (lanes_of unit) ≡ tuple_of (tuple_at left ss unit)
  left_column unit shape range = column_tuple 64 (λ s. (statement ss s).left) known.stated.lefts unit shape range

  pub right_column : (unit : List ℕ) → Laned unit → Every (λ s. s < length ss) unit → tuple_in facts 128 (lanes_of unit) ≡ tuple_of (tuple_at right ss unit)
  right_column unit shape range = column_tuple 128 (λ s. (statement ss s).right) known.stated.rights unit shape range

  pub destination_column : (unit : List ℕ) → Laned unit → Every (λ s. s < length ss) unit → tuple_in facts 0 (lanes_of unit) ≡ tuple_of (destinations ss unit)
  destination_column unit shape range = column_tuple 0 (λ s. Held (statement ss s).destination) known.stated.destinations unit shape range

  -- "The statements of a pack have one operation": the sort has it above the kind of destination
  sort_operation : (s : ℕ) → s < length ss → fact_at facts 192 s / 2 % 256 ≡ (statement ss s).operation
  sort_operation s below =
      omega (arith, known.stated.sorts s below, operation_small s below, place_cells (statement ss s).destination)

  pub sort_column : (unit : List ℕ) → Laned unit → Every (λ s. s < length ss) unit → operation_in facts (lanes_of unit) ≡ operation_of ss unit
  sort_column unit (two a b) range = sort_operation a range.0
  sort_column unit (four a b c d) range = sort_operation a range.0
