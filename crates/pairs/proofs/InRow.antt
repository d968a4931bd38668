-- The statements that the tables of places find one above a statement's cells are those with cells in a row "in some position".
use mathlib.Core.Path.{◌≡◌, refl, sym, ap, ap₂, ◌∙◌}
use mathlib.Core.Bool.{Bool, true, false, ◌&&◌, ◌||◌, and-true, and-false}
use mathlib.Core.List.{List}
use Prim.Native.Nat.{ℕ, ◌+◌, ◌*◌, ◌<◌}
use native.Mathlib.Omega.{arith}
use lib.Dec.{eqb, ltb}
use lib.ListN.{length}
use borrow.Author.Tests.{ltb-true, lt-ltb, ne_eqb}
use Rattle.basics.specs.Choice.{pick}
use Rattle.basics.specs.Lists.{all}
use Rattle.basics.specs.Sets.{nobody, has, join}
use Rattle.basics.proofs.Tests.{and_both}
use Rattle.basics.proofs.Sets.{has_nobody, has_join}
use Rattle.meaning.specs.declared.Place.{Place}
use Rattle.meaning.specs.declared.Place.TheVariants.{Variable, Cell}
use Rattle.meaning.specs.declared.Operand.{Operand}
use Rattle.meaning.specs.declared.Operand.TheVariants.{Nothing, Constant, Held}
use Rattle.meaning.specs.declared.Statement.{Statement}
use Rattle.meaning.specs.Block.{statement, in_row, operands_in_row}
use Rattle.meaning.specs.Seeding.{row_in_some_position}
use Rattle.codes.specs.Codes.{place_code, operand_code, is_cell_code}
use Rattle.codes.specs.Fitting.{place_fits, operand_fits, statement_fits}
use Rattle.codes.proofs.Places.{below_2569, row_codes, cell_code_lem}
use Rattle.codes.proofs.Operands.{constant_not_cell}
use Rattle.codes.proofs.Fits.{destination_fits, left_fits, right_fits}
use Rattle.facts.specs.Places.{naming}
use Rattle.facts.specs.Tied.{is_place_code, Names, Named}
use Rattle.pairs.specs.Admission.{cells_above, neighbours_of}

-- a code that stands for a cell, with the next code another's, where the two are cells in a row
abbrev is_above : ℕ → ℕ → Bool
is_above code other = is_cell_code code && (eqb other (code + 1) && is_place_code (code + 1))

no_cell : (code other : ℕ) → is_cell_code code ≡ false → is_above code other ≡ false
no_cell code other e = rw e

differs : (code other : ℕ) → (other ≡ code + 1 → ⊥) → is_above code other ≡ false
differs code other differ = rw (ne_eqb other (code + 1) differ) (and-false (is_cell_code code))

next_code : (p : Place) → place_fits p ≡ true → is_place_code (place_code p + 1) ≡ true
next_code p fits =
    and_both (ltb 0 (place_code p + 1)) (ltb (place_code p + 1) 2570) (lt-ltb 0 (place_code p + 1) (omega arith)) (lt-ltb (place_code p + 1) 2570 (omega (arith, below_2569 p fits)))

place_row : (p q : Place) → place_fits p ≡ true → place_fits q ≡ true → is_above (place_code p) (place_code q) ≡ in_row p q
place_row (Variable v) q fits fits' = no_cell (place_code (Variable v)) (place_code q) (cell_code_lem (Variable v) fits)
place_row (Cell a i) q fits fits' =
    ap₂ (λ (cell place : Bool). cell && (eqb (place_code q) (place_code (Cell a i) + 1) && place)) (cell_code_lem (Cell a i) fits) (next_code (Cell a i) fits)
    ∙ and-true (eqb (place_code q) (place_code (Cell a i) + 1))
    ∙ sym (row_codes (Cell a i) q fits fits')

operand_row : (o q : Operand) → operand_fits o ≡ true → operand_fits q ≡ true → is_above (operand_code o) (operand_code q) ≡ operands_in_row o q
operand_row Nothing q fits fits' = refl
operand_row (Constant c) q fits fits' = no_cell (operand_code (Constant c)) (operand_code q) (constant_not_cell c)
operand_row (Held p) Nothing fits fits' = differs (place_code p) 0 (λ e. omega arith)
operand_row (Held p) (Constant c) fits fits' = differs (place_code p) (4294967296 + 2 * c) (λ e. omega (arith, below_2569 p fits))
operand_row (Held p) (Held q) fits fits' = place_row p q fits fits'

three : {a a' b b' c c' : Bool} → a ≡ a' → b ≡ b' → c ≡ c' → a || b || c ≡ a' || b' || c'
three p q r = rw (p, q, r)

-- who is found in a column
found_above : (ss : List Statement) (code_of : Statement → ℕ) (numbers named : List ℕ) → Names ss code_of numbers named → (code t : ℕ)
    → has (cells_above numbers named code) t ≡ ltb t (length ss) && is_above code (code_of (statement ss t))
found_above ss code_of numbers named names code t = by (is_cell_code code)
  where
    by : (cell : Bool)
        → has (pick cell (naming numbers named (code + 1)) nobody) t
        ≡ ltb t (length ss) && (cell && (eqb (code_of (statement ss t)) (code + 1) && is_place_code (code + 1)))
    by true = names (code + 1) t
    by false = has_nobody t ∙ sym (and-false (ltb t (length ss)))

module _ (ss : List Statement) (numbers writers lefts rights : List ℕ) (fit : all statement_fits ss ≡ true) (named : Named ss numbers writers lefts rights) where
  pub neighbours_found : (s t : ℕ) → s < length ss
      → has (neighbours_of (statement ss s) numbers writers lefts rights) t ≡ ltb t (length ss) && row_in_some_position (statement ss s) (statement ss t)
  neighbours_found s t below =
      has_join (join (cells_above numbers writers (place_code (statement ss s).destination)) (cells_above numbers lefts (operand_code (statement ss s).left)))
      (cells_above numbers rights (operand_code (statement ss s).right)) t
      ∙ ap (λ (test : Bool). test || has (cells_above numbers rights (operand_code (statement ss s).right)) t)
      (has_join (cells_above numbers writers (place_code (statement ss s).destination)) (cells_above numbers lefts (operand_code (statement ss s).left)) t)
      ∙ three
      (found_above ss (λ u. place_code u.destination) numbers writers named.writing (place_code (statement ss s).destination) t)
      (found_above ss (λ u. operand_code u.left) numbers lefts named.reading_left (operand_code (statement ss s).left) t)
      (found_above ss (λ u. operand_code u.right) numbers rights named.reading_right (operand_code (statement ss s).right) t)
      ∙ by (ltb t (length ss)) refl
    where
      by : (inside : Bool) → ltb t (length ss) ≡ inside
          → inside && is_above (place_code (statement ss s).destination) (place_code (statement ss t).destination)
          || inside && is_above (operand_code (statement ss s).left) (operand_code (statement ss t).left)
          || inside && is_above (operand_code (statement ss s).right) (operand_code (statement ss t).right)
          ≡ inside && row_in_some_position (statement ss s) (statement ss t)
      by false e = refl
      by true e =
          let inside = ltb-true t (length ss) e in
          three
          (place_row (statement ss s).destination (statement ss t).destination (destination_fits ss fit s below) (destination_fits ss fit t inside))
          (operand_row (statement ss s).left (statement ss t).left (left_fits ss fit s below) (left_fits ss fit t inside))
          (operand_row (statement ss s).right (statement ss t).right (right_fits ss fit s below) (right_fits ss fit t inside))
