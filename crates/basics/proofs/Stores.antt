-- A run of stores in one piece and in two, and stores at several places of a table.
use mathlib.Core.Path.{◌≡◌, refl, ◌∙◌}
use mathlib.Core.Logic.{◌≢◌}
use mathlib.Core.List.{List, [], ◌∷◌, ◌++◌}
use Prim.Native.Nat.{ℕ, suc, ◌+◌, ◌≤◌, ◌<◌}
use native.Mathlib.Nat.{add-zero, add-suc, suc-add}
use native.Mathlib.Omega.{arith}
use lib.ListN.{length, get_or, set, drop, length-set}
use lib.Seq.{sets, sets-eq, get_or-set_same, get_or-set_other}

module _ {ℓ} {A : Type ℓ} where
  -- what stands behind is stored from where the first part ends
  pub sets_append : (l : List A) (i : ℕ) (vs ws : List A) → sets l i (vs ++ ws) ≡ sets (sets l i vs) (i + length vs) ws
  sets_append l i [] ws = rw add-zero
  sets_append l i (v ∷ vs) ws = rw (add-suc, ← suc-add i (length vs)) (sets_append (set l i v) (suc i) vs ws)

  -- stored from the front, where they fit: the elements behind them as they were
  pub sets_front : (l vs : List A) → length vs ≤ length l → sets l 0 vs ≡ vs ++ drop (length vs) l
  sets_front l vs fits =
      let e : 0 + length vs ≡ length vs = omega arith in
      rw e at (sets-eq vs l 0 (omega arith))

  -- a place and what is stored there, one after the other
  abbrev pub stored_at : List (ℕ × A) → List A → List A
  stored_at [] l = l
  stored_at (store ∷ stores) l = stored_at stores (set l store.0 store.1)

  -- the place is none of theirs
  abbrev pub Elsewhere : ℕ → List (ℕ × A) → Type 0
  Elsewhere q [] = Unit
  Elsewhere q (store ∷ stores) = (q ≢ store.0) × Elsewhere q stores

  pub stored_length : (stores : List (ℕ × A)) (l : List A) → length (stored_at stores l) ≡ length l
  stored_length [] l = refl
  stored_length (store ∷ stores) l = stored_length stores (set l store.0 store.1) ∙ length-set l store.0 store.1

  pub stored_else : (q : ℕ) (stores : List (ℕ × A)) (l : List A) (d : A) → Elsewhere q stores → get_or (stored_at stores l) q d ≡ get_or l q d
  stored_else q [] l d other = refl
  stored_else q (store ∷ stores) l d other =
      stored_else q stores (set l store.0 store.1) d other.1 ∙ get_or-set_other l store.0 q store.1 d other.0

  -- what is stored there stays where the stores behind it are elsewhere
  pub stored_own : (before : List (ℕ × A)) (q : ℕ) (x : A) (behind : List (ℕ × A)) (l : List A) (d : A) → q < length l → Elsewhere q behind
      → get_or (stored_at (before ++ (q, x) ∷ behind) l) q d ≡ x
  stored_own [] q x behind l d low other = stored_else q behind (set l q x) d other ∙ get_or-set_same l q x d low
  stored_own (store ∷ before) q x behind l d low other =
      stored_own before q x behind (set l store.0 store.1) d (omega (arith, length-set l store.0 store.1)) other
