-- Lines for the same places are the same where each is: a text for each number, for each cell, and a whole comparison.
use mathlib.Core.Path.{◌≡◌, refl, ap, ap₂, ◌∙◌}
use mathlib.Core.Bool.{true}
use mathlib.Core.List.{List, [], ◌∷◌, ◌++◌}
use Prim.Native.Nat.{ℕ, zero, suc, ◌+◌, ◌≤◌, ◌<◌}
use native.Mathlib.Omega.{arith}
use borrow.Author.Tests.{eq-eqb}
use lib.ListN.{get_or}
use Rattle.meaning.specs.declared.Place.{Place}
use Rattle.meaning.specs.declared.Place.TheVariants.{Variable, Cell}
use Rattle.meaning.specs.Machine.{Contents, cell_at, fetch_place}
use Rattle.text.specs.Text.{words}
use Rattle.ends.specs.Line.{name_text, numbers_text, line_end, line, place_line}
use Rattle.ends.specs.Places.{in_turn, cell_lines, variable_lines}
use Rattle.beside.specs.Beside.{SideBySide}
use Rattle.comparison.specs.Lines.{run_line, heading, verdict, beside_text}
use Rattle.comparison.specs.Alike.{plain_line, alike_text}

turns_same : (f g : ℕ → List ℕ) (k i : ℕ) → ((j : ℕ) → i ≤ j → j < i + k → f j ≡ g j) → in_turn f k i ≡ in_turn g k i
unfolding in_turn
turns_same f g zero i h = refl
turns_same f g (suc k) i h = ap₂ ◌++◌ (h i (omega arith) (omega arith)) (turns_same f g k (i + 1) λ j low high. h j (omega arith) (omega arith))

cells_same : (f g : Place → List ℕ) → ((a i : ℕ) → f (Cell a i) ≡ g (Cell a i)) → (a : ℕ) (lengths : List ℕ) → cell_lines f a lengths ≡ cell_lines g a lengths
unfolding cell_lines
cells_same f g h a [] = refl
cells_same f g h a (n ∷ ns) = ap₂ ◌++◌ (turns_same (λ i. f (Cell a i)) (λ i. g (Cell a i)) n 0 λ j low high. h a j) (cells_same f g h (a + 1) ns)

variables_same : (f g : Place → List ℕ) (live : ℕ) → ((v : ℕ) → v < live → f (Variable v) ≡ g (Variable v)) → variable_lines f live ≡ variable_lines g live
unfolding variable_lines
variables_same f g live h = turns_same (λ v. f (Variable v)) (λ v. g (Variable v)) live 0 λ v low high. h v (omega arith)

-- a line whose ends are the same has no mark
no_mark_here : (p : Place) (start block list : ℕ) → list ≡ block → line p start block list ≡ name_text p ++ numbers_text start block block ++ words "\n"
unfolding line line_end
no_mark_here p start block list e = ap (λ (n : ℕ). line p start block n) e ∙ rw (eq-eqb block block refl)

-- runs that both are done and end alike
module _
    (lengths : List ℕ) (live : ℕ) (start : Contents) (s : SideBySide) (block_price list_price : ℕ) (end : Contents)
    (block_done : s.block ≡ 0) (list_done : s.list ≡ 0) (block_paid_lem : s.block_paid ≡ block_price) (list_paid_lem : s.list_paid ≡ list_price)
    (same : s.same ≡ true) (left : s.block_left ≡ end) (cells : s.list_left.cells ≡ end.cells)
    (variables : (v : ℕ) → v < live → get_or s.list_left.variables v 0 ≡ get_or end.variables v 0) where
  plain_cell : (a i : ℕ) → place_line lengths start s.block_left s.list_left (Cell a i) ≡ plain_line lengths start end (Cell a i)
  unfolding place_line plain_line
  plain_cell a i =
      ap (λ (m : Contents). line (Cell a i) (fetch_place lengths start (Cell a i)) (fetch_place lengths m (Cell a i)) (fetch_place lengths s.list_left (Cell a i))) left
      ∙ no_mark_here (Cell a i) (fetch_place lengths start (Cell a i)) (fetch_place lengths end (Cell a i)) (fetch_place lengths s.list_left (Cell a i))
      (ap (λ (numbers : List ℕ). get_or numbers (cell_at lengths a i) 0) cells)

  plain_variable : (v : ℕ) → v < live → place_line lengths start s.block_left s.list_left (Variable v) ≡ plain_line lengths start end (Variable v)
  unfolding place_line plain_line
  plain_variable v low =
      ap (λ (m : Contents). line (Variable v) (fetch_place lengths start (Variable v)) (fetch_place lengths m (Variable v)) (fetch_place lengths s.list_left (Variable v))) left
      ∙ no_mark_here (Variable v) (fetch_place lengths start (Variable v)) (fetch_place lengths end (Variable v)) (fetch_place lengths s.list_left (Variable v)) (variables v low)

  pub ends_alike : beside_text lengths live start s ≡ alike_text lengths live start block_price list_price end
  unfolding beside_text alike_text verdict
  ends_alike =
      ap₂ ◌++◌
      (ap₂ ◌++◌
      (ap₂ ◌++◌
      (ap (λ (runs : List ℕ). runs ++ heading)
      (ap₂ ◌++◌ (ap₂ (run_line (words "block: status ")) block_done block_paid_lem) (ap₂ (run_line (words "list: status ")) list_done list_paid_lem)))
      (cells_same (place_line lengths start s.block_left s.list_left) (plain_line lengths start end) plain_cell 0 lengths))
      (variables_same (place_line lengths start s.block_left s.list_left) (plain_line lengths start end) live plain_variable))
      (ap verdict same)
