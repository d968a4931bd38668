-- "Combination": pairs joined into chains, and chains cut into packs and singles.
use Rattle.std.specs.Prelude.{ℕ, Bool, true, false, ◌&&◌, List, [], ◌∷◌, ◌++◌, length}
use Rattle.basics.specs.Choice.{pick}
use Rattle.basics.specs.Counting.{count}
use Rattle.basics.specs.Lists.{all}
use Rattle.meaning.specs.declared.Statement.{Statement}
use Rattle.meaning.specs.Dependence.{independent}
use Rattle.meaning.specs.Pairs.{Pair, is_right, chain}

-- "pairwise independent"
abbrev pub pairwise : List Statement → List ℕ → Bool
pairwise ss [] = true
pairwise ss (s ∷ rest) = all (independent ss s) rest && pairwise ss rest

-- A unit, "a pack or a single statement", is the list of its statements, in the order of their lanes.
-- "A chain is cut from its left end: the next four statements if at least four remain and these are pairwise independent, else the next two if
-- at least two remain, else one single."
unfoldable pub cut : List Statement → List ℕ → List (List ℕ)
cut ss [] = []
cut ss (a ∷ []) = (a ∷ []) ∷ []
cut ss (a ∷ b ∷ []) = (a ∷ b ∷ []) ∷ []
cut ss (a ∷ b ∷ c ∷ []) = (a ∷ b ∷ []) ∷ (c ∷ []) ∷ []
cut ss (a ∷ b ∷ c ∷ d ∷ rest) =
    elim (pairwise ss (a ∷ b ∷ c ∷ d ∷ [])) [
      | true ↦ (a ∷ b ∷ c ∷ d ∷ []) ∷ cut ss rest
      | false ↦ (a ∷ b ∷ []) ∷ cut ss (c ∷ d ∷ rest)
    ]

-- "Pairs are joined into longest chains": a longest chain begins at a statement that is right in no pair
unfoldable pub combine : List Statement → List Pair → List (List ℕ)
combine ss pairs = count (length ss) 0 (λ s units. units ++ pick (is_right pairs s) [] (cut ss (chain pairs s))) []
