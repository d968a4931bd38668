-- What the theorems about runs and about emission need to know of scheduled units: each fits, and every statement of the block is in one.
use Rattle.std.specs.Prelude.{◌≡◌, ◌⊎◌, ℕ, ◌+◌, ◌<◌, true, List, [], ◌∷◌, eqb, length}
use Rattle.basics.specs.Choice.{pick}
use Rattle.basics.specs.Lists.{flat}
use Rattle.meaning.specs.declared.Statement.{Statement}
use Rattle.meaning.specs.Block.{statement}
use Rattle.meaning.specs.Pairs.{alike}
use Rattle.meaning.proofs.Paths.{Apart}

-- every element is of this kind, the first one first; and every two are related, the one in front first
module _ {ℓ} {A : Type ℓ} where
  abbrev pub Every {κ} : (A → Type κ) → List A → Type κ
  Every P [] = Unit
  Every P (x ∷ xs) = P x × Every P xs

  abbrev pub Pairwise {κ} : (A → A → Type κ) → List A → Type κ
  Pairwise R [] = Unit
  Pairwise R (x ∷ xs) = Every (R x) xs × Pairwise R xs

-- how often a number occurs
abbrev pub occurs : ℕ → List ℕ → ℕ
occurs s [] = 0
occurs s (t ∷ rest) = pick (eqb s t) 1 0 + occurs s rest

-- "same operation and same kind of destination"
abbrev pub Alike : List Statement → ℕ → ℕ → Type 0
Alike ss s t = alike (statement ss s) (statement ss t) ≡ true

-- a single statement, or a pack of 2 or 4: statements of the block, pairwise independent, of one operation and one kind of destination
pub record Fits (ss : List Statement) (unit : List ℕ) : Type 0 where
  pub lanes : (length unit ≡ 1) ⊎ ((length unit ≡ 2) ⊎ (length unit ≡ 4))
  pub in_range : Every (λ s. s < length ss) unit
  pub apart : Pairwise (Apart ss) unit
  pub alike : Pairwise (Alike ss) unit

-- each unit fits, and each statement of the block is in one unit, once
pub record Units (ss : List Statement) (units : List (List ℕ)) : Type 0 where
  pub fit : Every (Fits ss) units
  pub once : (s : ℕ) → s < length ss → occurs s (flat units) ≡ 1
