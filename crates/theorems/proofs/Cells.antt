-- "In lent memory the cells stand array after array": a cell's position is within the cells lent, no two cells share one, and every position
-- is some cell's.
use mathlib.Core.Path.{◌≡◌, refl, ap}
use mathlib.Core.Logic.{◌⊎◌, inl, inr}
use mathlib.Core.List.{List, [], ◌∷◌}
use Prim.Native.Nat.{ℕ, zero, suc, ◌-◌, ◌≤◌, ◌<◌}
use native.Mathlib.Omega.{arith}
use lib.ListN.{length, get_or}
use Rattle.basics.specs.Lists.{sum}
use Rattle.basics.proofs.Tests.{below_or_not}
use Rattle.meaning.specs.Machine.{cell_at}

-- a cell's position is below the number of cells
pub cell_below : (lengths : List ℕ) (a i : ℕ) → a < length lengths → i < get_or lengths a 0 → cell_at lengths a i < sum lengths
cell_below [] a i h k = absurd (omega arith)
cell_below (n ∷ lengths) zero i h k = omega arith
cell_below (n ∷ lengths) (suc a) i h k = omega (arith, cell_below lengths a i (omega arith) k)

-- two cells at one position are one cell
pub one_cell : (lengths : List ℕ) (a i b j : ℕ) → a < length lengths → i < get_or lengths a 0 → b < length lengths → j < get_or lengths b 0
    → cell_at lengths a i ≡ cell_at lengths b j → (a ≡ b) × (i ≡ j)
one_cell [] a i b j h k h' k' e = absurd (omega arith)
one_cell (n ∷ lengths) zero i zero j h k h' k' e = (refl, omega arith)
one_cell (n ∷ lengths) zero i (suc b) j h k h' k' e = absurd (omega arith)
one_cell (n ∷ lengths) (suc a) i zero j h k h' k' e = absurd (omega arith)
one_cell (n ∷ lengths) (suc a) i (suc b) j h k h' k' e =
    let both : (a ≡ b) × (i ≡ j) = one_cell lengths a i b j (omega arith) k (omega arith) k' (omega arith) in
    (ap suc both.0, both.1)

-- the cell at a position
pub record At (lengths : List ℕ) (k : ℕ) : Type 0 where
  pub array : ℕ
  pub index : ℕ
  pub declared : array < length lengths
  pub inside : index < get_or lengths array 0
  pub position : cell_at lengths array index ≡ k

-- Every position is some cell's.
pub cell_at_lem : (lengths : List ℕ) (k : ℕ) → k < sum lengths → At lengths k
cell_at_lem [] k h = absurd (omega arith)
cell_at_lem (n ∷ lengths) k h = either (below_or_not k n) (λ high. cell_at_lem lengths (k - n) (omega arith))
  where
    either : (k < n) ⊎ (n ≤ k) → (n ≤ k → At lengths (k - n)) → At (n ∷ lengths) k
    either (inl low) later = record { array = 0; index = k; declared = omega arith; inside = low; position = omega arith }
    either (inr high) later =
        let at = later high in
        record { array = suc at.array; index = at.index; declared = omega (arith, at.declared); inside = at.inside; position = omega (arith, at.position) }
