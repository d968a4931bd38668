-- The estimate over the tables is that of "Estimate": position by position, the destination, and both prices.
use mathlib.Core.Path.{◌≡◌, refl, sym, ap, ap₂, ◌∙◌}
use mathlib.Core.Logic.{◌⊎◌, inl, inr}
use mathlib.Core.Bool.{Bool, true, false, ◌&&◌, ◌||◌}
use mathlib.Core.Option.{Option, none, some}
use mathlib.Core.List.{List, [], ◌∷◌, map}
use Prim.Native.Nat.{ℕ, zero, suc, ◌+◌, ◌*◌, ◌≤◌, ◌<◌}
use native.Mathlib.Omega.{arith}
use lib.Dec.{eqb, ltb}
use lib.ListN.{length, get_or}
use borrow.Author.Tests.{lt-ltb, le-ltb, ne_eqb}
use Rattle.basics.specs.Choice.{pick}
use Rattle.basics.specs.Lists.{any, all, sum}
use Rattle.basics.proofs.Tests.{below_or_not}
use Rattle.meaning.specs.declared.Place.{Place}
use Rattle.meaning.specs.declared.Place.TheVariants.{Variable, Cell}
use Rattle.meaning.specs.declared.Operand.{Operand}
use Rattle.meaning.specs.declared.Statement.{Statement}
use Rattle.meaning.specs.Block.{statement, is_copy, in_row, operands_in_row, Position, left, right, operand, cell_place, cell_operand}
use Rattle.meaning.specs.Pairs.{Pair, pair, is_admitted, partner}
use Rattle.meaning.specs.Estimate.{both_defined, definitions, is_pair, constants, operands_cost, position_cost, reads_together, destination_cost, gain, loss}
use Rattle.meaning.proofs.Bounds.{place_cells, statement_price_lem}
use Rattle.theorems.specs.Units.{Every}
use Rattle.theorems.proofs.Occurs.{every_weaker}
use Rattle.theorems.proofs.Chains.{partner_related}
use Rattle.theorems.proofs.Pairs.{Admitted}
use Rattle.codes.specs.Codes.{place_code, operand_code, codes_in_row, is_cell_code, is_constant_code, cell_code}
use Rattle.codes.specs.Fitting.{place_fits, operand_fits, statement_fits}
use Rattle.codes.proofs.Fits.{destination_fits, left_fits, right_fits}
use Rattle.codes.proofs.Places.{row_codes, cell_code_lem}
use Rattle.codes.proofs.Operands.{operands_row, cells_of_operand, constant_codes}
use Rattle.facts.specs.Facts.{fact_at}
use Rattle.facts.specs.Tied.{Stated}
use Rattle.reach.specs.Tied.{number_of, Defined}
use Rattle.pairs.specs.Admission.{tables_of, admitted_in}
use Rattle.pairs.proofs.Tables.{lefts_below, rights_below, partners_tied}
use Rattle.pairs.proofs.Leading.{admitted_tied}
use Rattle.estimate.specs.Costs.{codes_cost, position_loss, are_read, destination_loss, right_loss, loss_of, gain_of, priced}
use Rattle.estimate.proofs.Definitions.{Defines, defines_below, definition_defines, operands_column, definitions_column, definition_at, operands_at, definitions_at}
use Rattle.estimate.proofs.Readers.{are_read_lem}

-- the same choices from the same tests and numbers
same_cost : (r r' c c' d d' : Bool) (x x' y y' : ℕ) → r' ≡ r → c' ≡ c → d ≡ d' → x' ≡ x → y' ≡ y
    → pick (r || c) 1 (pick d 0 (2 + x + y)) ≡ pick (r' || c') 1 (pick d' 0 (2 + x' + y'))
same_cost r r' c c' d d' x x' y y' e f g h k = rw (e, f, g, h, k)

-- a copy alone, whose operation is 0, has a sort below 2
copy_sort : (operation kind : ℕ) → kind ≤ 1 → ltb (2 * operation + kind) 2 ≡ eqb operation 0
copy_sort zero kind h = lt-ltb (2 * 0 + kind) 2 (omega arith)
copy_sort (suc operation) kind h =
    le-ltb (2 * suc operation + kind) 2 (omega arith) ∙ sym (ne_eqb (suc operation) 0 (λ e. omega arith))

-- the sum over a statement's positions
over_positions : (copies : Bool) (cost : Position → ℕ)
    → cost left + pick copies 0 (cost right) ≡ sum (map cost (pick copies (left ∷ []) (left ∷ right ∷ [])))
over_positions true cost = omega arith
over_positions false cost = omega arith

abbrev cost_of : Place → Bool → Bool → ℕ
cost_of d row read = elim d [ Cell a i ↦ pick row 1 4 | Variable v ↦ pick read 0 2 ]

codes_cost_lem : (o q : Operand) → operand_fits o ≡ true → operand_fits q ≡ true → (d e : Bool) → d ≡ e
    → codes_cost (operand_code o) (operand_code q) d ≡ operands_cost o q e
codes_cost_lem o q fits fits' d e same =
    same_cost (codes_in_row (operand_code o) (operand_code q)) (operands_in_row o q) (is_constant_code (operand_code o) && is_constant_code (operand_code q)) (constants o q)
    d e (cell_code (operand_code o)) (cell_operand o) (cell_code (operand_code q)) (cell_operand q)
    (operands_row o q fits fits') (constant_codes o q fits fits') same (cells_of_operand o fits) (cells_of_operand q fits')

kinds : (d : Place) → place_fits d ≡ true → (row read : Bool) → pick (is_cell_code (place_code d)) (pick row 1 4) (pick read 0 2) ≡ cost_of d row read
kinds (Variable v) fits row read = rw (cell_code_lem (Variable v) fits)
kinds (Cell a i) fits row read = rw (cell_code_lem (Cell a i) fits)

module _ (ss : List Statement) (facts : List ℕ) (few : length ss ≤ 64) (fit : all statement_fits ss ≡ true) (stated : Stated ss facts) (defined : Defined ss facts) where
  operand_fits_lem : (position : Position) (s : ℕ) → s < length ss → operand_fits (operand position (statement ss s)) ≡ true
  operand_fits_lem left s below = left_fits ss fit s below
  operand_fits_lem right s below = right_fits ss fit s below

  -- a price is at most 4
  pub all_priced : priced facts
  all_priced s = either (below_or_not s (length ss))
    where
      either : (s < length ss) ⊎ (length ss ≤ s) → fact_at facts 256 s ≤ 4
      either (inl below) =
          omega (arith, stated.prices s below, statement_price_lem (statement ss s))
      either (inr past) = omega (arith, stated.beyond 4 s (omega arith) past)

  module _ (p : Pair) (low : p.left < length ss) (high : p.right < length ss) where
    -- The gain is the same.
    pub same_gain : gain_of facts p ≡ gain ss p
    same_gain = ap₂ ◌+◌ (stated.prices p.left low) (stated.prices p.right high)

    module _ (pairs : List Pair) (next : List ℕ)
        (in_range : Every (λ p. (p.left < length ss) × (p.right < length ss)) pairs)
        (next-number : (s : ℕ) → get_or next s 64 ≤ 64)
        (admitted-in : (s t : ℕ) → admitted_in next s t ≡ is_admitted pairs (pair s t)) where
      both_admitted : (s t : Option ℕ) → Defines ss 64 s → Defines ss 64 t
          → admitted_in next (number_of s) (number_of t) ≡ is_pair (is_admitted pairs) (both_defined s t)
      both_admitted none t known known' = refl
      both_admitted (some s) none known known' = ap (λ (test : Bool). test && false) (lt-ltb s 64 known.0)
      both_admitted (some s) (some t) known known' = admitted-in s t

      known_at : (position : Position) (s : ℕ) → s < length ss → Defines ss 64 (definition_at ss position s)
      known_at position s below = defines_below ss s 64 (definition_at ss position s) (omega arith) (definition_defines ss s (operand position (statement ss s)))

      position_loss_lem : (position : Position) → position_loss facts next (operands_column position) (definitions_column position) p ≡ position_cost ss pairs p position
      unfolding definitions
      position_loss_lem position =
          ap₂ (λ (x y : ℕ). codes_cost x y (admitted_in next (fact_at facts (definitions_column position) p.left) (fact_at facts (definitions_column position) p.right)))
          (operands_at ss facts stated position p.left low) (operands_at ss facts stated position p.right high)
          ∙ codes_cost_lem (operand position (statement ss p.left)) (operand position (statement ss p.right))
          (operand_fits_lem position p.left low) (operand_fits_lem position p.right high)
          (admitted_in next (fact_at facts (definitions_column position) p.left) (fact_at facts (definitions_column position) p.right))
          (is_pair (is_admitted pairs) (definitions ss position p))
          (ap₂ (admitted_in next) (definitions_at ss facts defined position p.left low) (definitions_at ss facts defined position p.right high)
          ∙ both_admitted (definition_at ss position p.left) (definition_at ss position p.right) (known_at position p.left low) (known_at position p.right high))

      right_loss_lem : right_loss facts next p ≡ pick (is_copy (statement ss p.left)) 0 (position_cost ss pairs p right)
      right_loss_lem =
          ap₂ (λ (test : Bool) (cost : ℕ). pick test 0 cost)
          (ap (λ (sort : ℕ). ltb sort 2) (stated.sorts p.left low)
          ∙ copy_sort (statement ss p.left).operation (cell_place (statement ss p.left).destination) (place_cells (statement ss p.left).destination))
          (position_loss_lem right)

      destination_loss_lem : destination_loss facts next p ≡ destination_cost ss pairs p
      destination_loss_lem =
          ap₂ (λ (d e : ℕ). pick (is_cell_code d) (pick (codes_in_row d e) 1 4) (pick (are_read facts next p) 0 2))
          (stated.destinations p.left low) (stated.destinations p.right high)
          ∙ ap₂ (λ (row read : Bool). pick (is_cell_code (place_code (statement ss p.left).destination)) (pick row 1 4) (pick read 0 2))
          (sym (row_codes (statement ss p.left).destination (statement ss p.right).destination (destination_fits ss fit p.left low) (destination_fits ss fit p.right high)))
          (are_read_lem ss facts few defined pairs next in_range next-number admitted-in p low high)
          ∙ kinds (statement ss p.left).destination (destination_fits ss fit p.left low)
          (in_row (statement ss p.left).destination (statement ss p.right).destination) (any (reads_together ss p) pairs)

      table_loss : loss_of facts next p ≡ loss ss pairs p
      unfolding loss_of loss
      table_loss =
          omega (arith, position_loss_lem left, right_loss_lem, destination_loss_lem, over_positions (is_copy (statement ss p.left)) (position_cost ss pairs p))

    -- And so is what is taken from it.
    pub same_loss : (pairs : List Pair) → Admitted ss pairs → loss_of facts (tables_of pairs).next p ≡ loss ss pairs p
    same_loss pairs known =
        table_loss pairs (tables_of pairs).next (every_weaker (λ q joined. (joined.apart.first, joined.apart.second)) pairs known.sound)
        (λ s. rw (partners s) (at_most s (partner pairs s) refl))
        (admitted_tied pairs (tables_of pairs).next partners rights_small known.lefts_differ (every_weaker (λ q h. omega (arith, h)) pairs (lefts_below ss pairs known)))
      where
        partners : (s : ℕ) → get_or (tables_of pairs).next s 64 ≡ number_of (partner pairs s)
        partners = partners_tied ss pairs known few

        rights_small : Every (λ q. q.right < 64) pairs
        rights_small = every_weaker (λ q h. omega (arith, h)) pairs (rights_below ss pairs known)

        at_most : (s : ℕ) (found : Option ℕ) → partner pairs s ≡ found → number_of found ≤ 64
        at_most s none e = omega arith
        at_most s (some t) e = omega (arith, partner_related (λ l r. r < 64) pairs s t rights_small e)
