-- Units that fit: each has one, two or four statements, all their statements are in the block, and there are as many of them as the block
-- has.
use mathlib.Core.Path.{◌≡◌, refl, sym, ◌∙◌}
use mathlib.Core.Logic.{◌⊎◌, inl, inr}
use mathlib.Core.List.{List, [], ◌∷◌, map}
use Prim.Native.Nat.{ℕ, zero, suc, ◌≤◌, ◌<◌}
use native.Mathlib.Omega.{arith}
use lib.ListN.{length}
use Rattle.basics.specs.Lists.{sum, flat}
use Rattle.meaning.specs.declared.Statement.{Statement}
use Rattle.theorems.specs.Units.{Every, Fits, Units}
use Rattle.theorems.proofs.Occurs.{every_append}
use Rattle.theorems.proofs.Sums.{over, any_order}

-- one statement, two or four
sized : (k : ℕ) → (k ≡ 1) ⊎ ((k ≡ 2) ⊎ (k ≡ 4)) → (0 < k) × (k ≤ 4) × (k ≡ 3 → ⊥)
sized k (inl e) = omega arith
sized k (inr (inl e)) = omega arith
sized k (inr (inr e)) = omega arith

pub fits_sized : (ss : List Statement) (unit : List ℕ) → Fits ss unit → (0 < length unit) × (length unit ≤ 4) × (length unit ≡ 3 → ⊥)
fits_sized ss unit fits = sized (length unit) fits.lanes

pub fits_filled : (ss : List Statement) (unit : List ℕ) → Fits ss unit → 0 < length unit
fits_filled ss unit fits = (fits_sized ss unit fits).0

pub flat_below : (ss : List Statement) (units : List (List ℕ)) → Every (Fits ss) units → Every (λ s. s < length ss) (flat units)
flat_below ss [] fit = tt
flat_below ss (unit ∷ units) fit = every_append (λ s. s < length ss) unit (flat units) fit.0.in_range (flat_below ss units fit.1)

-- one for each statement, counted over the units and over the block
ones : (order : List ℕ) → sum (map (λ s. 1) order) ≡ length order
ones [] = refl
ones (s ∷ order) = omega (arith, ones order)

over_ones : (n i : ℕ) → over (λ s. 1) n i ≡ n
over_ones zero i = refl
over_ones (suc n) i = omega (arith, over_ones n (suc i))

pub units_size : (ss : List Statement) (units : List (List ℕ)) → Units ss units → length (flat units) ≡ length ss
units_size ss units u =
    sym (ones (flat units)) ∙ any_order (λ s. 1) (length ss) (flat units) (flat_below ss units u.fit) u.once ∙ over_ones (length ss) 0
