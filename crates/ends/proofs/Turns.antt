-- Texts for one number after the other, and for the cells of one array after the other: what is left at a number.
use mathlib.Core.Path.{◌≡◌, ap}
use mathlib.Core.List.{List, [], ◌++◌}
use Prim.Native.Nat.{ℕ, suc, ◌+◌, ◌-◌, ◌≤◌, ◌<◌}
use native.Mathlib.Nat.{sub-zero}
use native.Mathlib.Omega.{arith}
use mathlib.Core.Bool.{true}
use lib.Dec.{leb}
use lib.ListN.{length, get_or, drop}
use borrow.Author.Tests.{leb-true}
use Rattle.basics.specs.Lists.{all}
use Rattle.basics.proofs.Tests.{and_right}
use Rattle.basics.proofs.Parts.{all_at}
use Rattle.meaning.specs.Format.{length_fits}
use Rattle.meaning.specs.declared.Place.{Place}
use Rattle.meaning.specs.declared.Place.TheVariants.{Cell}
use Rattle.text.proofs.Putting.{drop_next, drop_none}
use Rattle.ends.specs.Places.{in_turn, cell_lines}

abbrev pub turns_from : (ℕ → List ℕ) → ℕ → ℕ → List ℕ
turns_from text n i = in_turn text (n - i) i

module _ (text : ℕ → List ℕ) (n : ℕ) where
  pub turns_next : (i : ℕ) → i < n → turns_from text n i ≡ text i ++ turns_from text n (i + 1)
  unfolding in_turn
  turns_next i low =
      let more : n - i ≡ suc (n - (i + 1)) = omega arith in
      ap (λ (k : ℕ). in_turn text k i) more

  pub turns_none : (i : ℕ) → n ≤ i → turns_from text n i ≡ []
  unfolding in_turn
  turns_none i past =
      let none : n - i ≡ 0 = omega arith in
      ap (λ (k : ℕ). in_turn text k i) none

  pub turns_all : turns_from text n 0 ≡ in_turn text n 0
  turns_all = ap (λ (k : ℕ). in_turn text k 0) (sub-zero n)

-- the arrays from number a on
abbrev pub cells_from : (Place → List ℕ) → List ℕ → ℕ → List ℕ
cells_from text lengths a = cell_lines text a (drop a lengths)

module _ (text : Place → List ℕ) (lengths : List ℕ) (a : ℕ) where
  pub cells_next : a < length lengths → cells_from text lengths a ≡ in_turn (λ i. text (Cell a i)) (get_or lengths a 0) 0 ++ cells_from text lengths (a + 1)
  unfolding cell_lines
  cells_next within = ap (cell_lines text a) (drop_next lengths a within)

  pub cells_none : length lengths ≤ a → cells_from text lengths a ≡ []
  unfolding cell_lines
  cells_none past = ap (cell_lines text a) (drop_none lengths a past)

-- an array has at most 256 cells
pub few_cells : (lengths : List ℕ) (a : ℕ) → all length_fits lengths ≡ true → a < length lengths → get_or lengths a 0 ≤ 256
few_cells lengths a fit within = leb-true _ 256 (and_right (leb 1 (get_or lengths a 0)) _ (all_at length_fits lengths a 0 fit within))
