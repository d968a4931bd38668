-- "Pairs": the admitted pairs, in order of admission, and what may be admitted to them.
use Rattle.std.specs.Prelude.{ℕ, zero, suc, Bool, true, false, ◌&&◌, not, List, [], ◌∷◌, ◌++◌, eqb, length}
use Rattle.std.proofs.Math.Option.{Option, none, some}
use Rattle.basics.specs.Lists.{any}
use Rattle.meaning.specs.declared.Statement.{Statement}
use Rattle.meaning.specs.Block.{statement, cell_place}
use Rattle.meaning.specs.Dependence.{independent}

-- a pair (s, t): s is left in it, t is right
pub record Pair : Type 0 where
  pub left : ℕ
  pub right : ℕ

abbrev pub pair : ℕ → ℕ → Pair
pair s t = record { left = s; right = t }

abbrev pub same_pair : Pair → Pair → Bool
same_pair p q = eqb p.left q.left && eqb p.right q.right

abbrev pub is_admitted : List Pair → Pair → Bool
is_admitted pairs p = any (same_pair p) pairs

abbrev pub is_left : List Pair → ℕ → Bool
is_left pairs s = any (λ p. eqb p.left s) pairs

abbrev pub is_right : List Pair → ℕ → Bool
is_right pairs t = any (λ p. eqb p.right t) pairs

-- the statement that is right in the pair in which s is left
abbrev pub partner : List Pair → ℕ → Option ℕ
partner [] s = none
partner (p ∷ pairs) s = elim (eqb p.left s) [ true ↦ some p.right | false ↦ partner pairs s ]

-- the chain of pairs from s on, along at most so many of them
abbrev pub chain_along : ℕ → List Pair → ℕ → List ℕ
chain_along zero pairs s = s ∷ []
chain_along (suc n) pairs s = s ∷ elim (partner pairs s) [ none ↦ [] | some t ↦ chain_along n pairs t ]

-- no chain has more pairs than are admitted
unfoldable pub chain : List Pair → ℕ → List ℕ
chain pairs s = chain_along (length pairs) pairs s

-- "same operation and same kind of destination"
abbrev pub alike : Statement → Statement → Bool
alike s t = eqb s.operation t.operation && eqb (cell_place s.destination) (cell_place t.destination)

-- "A pair (s, t) may be admitted if: s and t differ; same operation and same kind of destination; independent; s is not yet left in a pair;
-- t is not yet right in one; no chain of admitted pairs leads from t back to s."
unfoldable pub may_be_admitted : List Statement → List Pair → Pair → Bool
may_be_admitted ss pairs p =
    not (eqb p.left p.right)
    && alike (statement ss p.left) (statement ss p.right)
    && independent ss p.left p.right
    && not (is_left pairs p.left)
    && not (is_right pairs p.right)
    && not (any (eqb p.left) (chain pairs p.right))

-- added pairs at the end
abbrev pub admit : List Pair → Pair → List Pair
admit pairs p = pairs ++ p ∷ []
