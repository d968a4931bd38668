-- Reordering: two orders of the same steps come to the same where each step that comes earlier in the one than in the other commutes with
-- all that it overtakes; so an order in which no statement depends on one behind it runs as the block does.
use mathlib.Core.Path.{◌≡◌, refl, sym, ap, ap₂, ◌∙◌, subst}
use mathlib.Core.Logic.{◌⊎◌, inl, inr}
use mathlib.Core.Bool.{Bool, true, false, ◌&&◌}
use mathlib.Core.List.{List, [], ◌∷◌}
use Prim.Native.Nat.{ℕ, zero, suc, ◌+◌, ◌≤◌, ◌<◌}
use native.Mathlib.Numerals.{add-one}
use native.Mathlib.Omega.{arith}
use lib.Dec.{eqb}
use lib.ListN.{length, drop, drop_of_length-le}
use lib.Seq.{drop-cons}
use borrow.Author.Tests.{lt-ltb, eqb-true, eqb-false}
use Rattle.basics.specs.Choice.{pick}
use Rattle.basics.specs.Counting.{numbers}
use Rattle.basics.specs.Lists.{each}
use Rattle.basics.proofs.Parts.{no_elements}
use Rattle.basics.proofs.Tests.{below_or_not}
use Rattle.meaning.specs.declared.Statement.{Statement}
use Rattle.meaning.specs.Block.{blank, statement}
use Rattle.meaning.specs.Dependence.{conflicts, depends_on}
use Rattle.theorems.specs.Memory.{Memory, ran}
use Rattle.theorems.specs.Units.{Every, Pairwise, occurs}
use Rattle.theorems.proofs.Puts.{ran_swap}
use Rattle.theorems.proofs.Occurs.{occurs_own, occurs_other, occurs_range, every_at, every_by, remove, occurs_remove, pairwise_remove, fewer}

-- one step for each number: s may overtake x where x stands before s and s is free of it
module _ {κ} {S : Type κ} (step : ℕ → S → S) (Before Free : ℕ → ℕ → Type 0)
    (overtake : (x s : ℕ) → Before x s → Free s x → (m : S) → step s (step x m) ≡ step x (step s m)) where
  -- a step that is free of all others may go to the front
  to_front : (s : ℕ) (xs : List ℕ) → 0 < occurs s xs → Pairwise Before xs → Every (Free s) (remove s xs) → (m : S)
      → each step xs m ≡ each step (remove s xs) (step s m)
  to_front s [] there before free m = absurd (omega arith)
  to_front s (x ∷ xs) there before free m = either (eqb s x) refl free λ later. to_front s xs later before.1
    where
      either : (test : Bool) → eqb s x ≡ test → Every (Free s) (pick test xs (x ∷ remove s xs))
          → (0 < occurs s xs → Every (Free s) (remove s xs) → (m' : S) → each step xs m' ≡ each step (remove s xs) (step s m'))
          → each step xs (step x m) ≡ each step (pick test xs (x ∷ remove s xs)) (step s m)
      either true e free' later = ap (λ (y : ℕ). each step xs (step y m)) (sym (eqb-true s x e))
      either false e free' later =
          let behind : 0 < occurs s xs = omega (arith, there, occurs_other s x xs (eqb-false s x e)) in
          later behind free'.1 (step x m)
          ∙ ap (each step (remove s xs)) (overtake x s (every_at (Before x) xs before.0 s behind) free'.0 m)

  -- so an order in which each is free of all behind it comes to the same
  pub reorder : (order xs : List ℕ) → ((s : ℕ) → occurs s xs ≡ occurs s order) → Pairwise Before xs → Pairwise Free order → (m : S)
      → each step order m ≡ each step xs m
  reorder [] xs same before free m =
      let none : xs ≡ [] = no_elements xs (omega (arith, fewer xs [] λ s. omega (arith, same s))) in
      rw none
  reorder (s ∷ rest) xs same before free m =
      reorder rest (remove s xs) left (pairwise_remove Before s xs before) free.1 (step s m)
      ∙ sym (to_front s xs there before (every_by (Free s) (remove s xs) λ t h. every_at (Free s) rest free.0 t (omega (arith, h, left t))) m)
    where
      there : 0 < occurs s xs
      there = omega (arith, same s, occurs_own s rest)

      left : (t : ℕ) → occurs t (remove s xs) ≡ occurs t rest
      left t = omega (arith, same t, occurs_remove s xs there t)

-- of n numbers from i on each occurs once, and no other does
numbers_low : (n i s : ℕ) → s < i → occurs s (numbers n i) ≡ 0
numbers_low zero i s h = refl
numbers_low (suc n) i s h = occurs_other s i (numbers n (i + 1)) (λ e. omega arith) ∙ numbers_low n (i + 1) s (omega arith)

pub numbers_high : (n i s : ℕ) → i + n ≤ s → occurs s (numbers n i) ≡ 0
numbers_high zero i s h = refl
numbers_high (suc n) i s h = occurs_other s i (numbers n (i + 1)) (λ e. omega arith) ∙ numbers_high n (i + 1) s (omega arith)

pub numbers_inside : (n i s : ℕ) → i ≤ s → s < i + n → occurs s (numbers n i) ≡ 1
numbers_inside zero i s low high = absurd (omega arith)
numbers_inside (suc n) i s low high = either (below_or_not i s) λ low'. numbers_inside n (i + 1) s low' (omega arith)
  where
    either : (i < s) ⊎ (s ≤ i) → (i + 1 ≤ s → occurs s (numbers n (i + 1)) ≡ 1) → occurs s (i ∷ numbers n (i + 1)) ≡ 1
    either (inl above) later = occurs_other s i (numbers n (i + 1)) (λ e. omega arith) ∙ later (omega arith)
    either (inr here) later =
        let e : s ≡ i = omega arith in
        subst (λ (x : ℕ). occurs x (i ∷ numbers n (i + 1)) ≡ 1) (sym e) (occurs_own i (numbers n (i + 1)) ∙ ap suc (numbers_low n (i + 1) i (omega arith)))

pub numbers_range : (n i s : ℕ) → 0 < occurs s (numbers n i) → (i ≤ s) × (s < i + n)
numbers_range n i s h = (low (below_or_not s i), high (below_or_not s (i + n)))
  where
    low : (s < i) ⊎ (i ≤ s) → i ≤ s
    low (inl k) = absurd (omega (arith, numbers_low n i s k))
    low (inr k) = k

    high : (s < i + n) ⊎ (i + n ≤ s) → s < i + n
    high (inl k) = k
    high (inr k) = absurd (omega (arith, numbers_high n i s k))

length_numbers : (n i : ℕ) → length (numbers n i) ≡ n
length_numbers zero i = refl
length_numbers (suc n) i = ap suc (length_numbers n (i + 1))

-- numbers below n of which none comes twice are at most n
pub few_numbers : (n : ℕ) (xs : List ℕ) → Every (λ s. s < n) xs → ((s : ℕ) → s < n → occurs s xs ≤ 1) → length xs ≤ n
few_numbers n xs range once = omega (arith, fewer xs (numbers n 0) (λ s. within s (below_or_not s n)), length_numbers n 0)
  where
    within : (s : ℕ) → (s < n) ⊎ (n ≤ s) → occurs s xs ≤ occurs s (numbers n 0)
    within s (inl below) = omega (arith, once s below, numbers_inside n 0 s (omega arith) (omega arith))
    within s (inr beyond) = omega (arith, occurs_range n xs range s beyond)

-- they ascend, below any end
abbrev Ascends : ℕ → ℕ → ℕ → Type 0
Ascends end x s = (x < s) × (s < end)

numbers_ascend : (end n i : ℕ) → i + n ≤ end → Pairwise (Ascends end) (numbers n i)
numbers_ascend end zero i h = tt
numbers_ascend end (suc n) i h = (every_by (Ascends end i) (numbers n (i + 1)) above, numbers_ascend end n (i + 1) (omega arith))
  where
    above : (s : ℕ) → 0 < occurs s (numbers n (i + 1)) → Ascends end i s
    above s there =
        let range = numbers_range n (i + 1) s there in
        (omega (arith, range.0), omega (arith, range.1))

module _ (ss : List Statement) where
  -- run statement number s
  abbrev pub ran_at : ℕ → Memory → Memory
  ran_at s m = ran (statement ss s) m

  -- the block is its statements by their numbers
  numbers_run : (n i : ℕ) → i + n ≡ length ss → (m : Memory) → each ran_at (numbers n i) m ≡ each ran (drop i ss) m
  numbers_run zero i e m = rw (drop_of_length-le ss {i = i} (omega arith))
  numbers_run (suc n) i e m =
      let below : i < length ss = omega arith in
      rw (drop-cons ss i blank below, ← add-one i) (numbers_run n (i + 1) (omega arith) (ran_at i m))

  -- a later statement that does not depend on an earlier one may overtake it
  independent_swap : (x s : ℕ) → Ascends (length ss) x s → depends_on ss s x ≡ false → (m : Memory) → ran_at s (ran_at x m) ≡ ran_at x (ran_at s m)
  independent_swap x s ascends free m =
      ran_swap (statement ss s) (statement ss x)
      (sym (ap₂ (λ (a b : Bool). a && b && conflicts (statement ss s) (statement ss x)) (lt-ltb x s ascends.0) (lt-ltb s (length ss) ascends.1)) ∙ free)
      m

  -- An order in which each statement of the block occurs once, and in which none depends on one that comes behind it, runs as the block does.
  pub order_runs : (order : List ℕ) → Every (λ s. s < length ss) order → ((s : ℕ) → s < length ss → occurs s order ≡ 1)
      → Pairwise (λ s t. depends_on ss s t ≡ false) order
      → (m : Memory) → each ran_at order m ≡ each ran ss m
  order_runs order range once free m =
      reorder ran_at (Ascends (length ss)) (λ s t. depends_on ss s t ≡ false) independent_swap order (numbers (length ss) 0)
      (λ s. as_often s (below_or_not s (length ss)))
      (numbers_ascend (length ss) (length ss) 0 (omega arith))
      free m
      ∙ numbers_run (length ss) 0 (omega arith) m
    where
      as_often : (s : ℕ) → (s < length ss) ⊎ (length ss ≤ s) → occurs s (numbers (length ss) 0) ≡ occurs s order
      as_often s (inl below) = numbers_inside (length ss) 0 s (omega arith) (omega arith) ∙ sym (once s below)
      as_often s (inr above) = numbers_high (length ss) 0 s (omega arith) ∙ sym (occurs_range (length ss) order range s above)
