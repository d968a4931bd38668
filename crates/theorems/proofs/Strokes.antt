-- Packs at one stroke: reading all lanes and then writing them is running the members one after the other, in any order in which no later
-- member reads or writes what an earlier one writes.
use mathlib.Core.Path.{◌≡◌, refl, sym, ap, ap₂, ◌∙◌}
use mathlib.Core.Bool.{false}
use mathlib.Core.List.{List, [], ◌∷◌, map}
use Prim.Native.Nat.{ℕ}
use Rattle.basics.specs.Lists.{each}
use Rattle.meaning.specs.declared.Place.{Place}
use Rattle.meaning.specs.declared.Statement.{Statement}
use Rattle.meaning.specs.Block.{statement, same, reads}
use Rattle.meaning.specs.Dependence.{conflicts}
use Rattle.theorems.specs.Memory.{Memory, put, result, put_each, at_one_stroke}
use Rattle.theorems.specs.Units.{Every, Pairwise, occurs}
use Rattle.theorems.proofs.Puts.{put_swap, result_put, second_blind, writes_differ}
use Rattle.theorems.proofs.Occurs.{pairwise_weaker}
use Rattle.theorems.proofs.Orders.{reorder, ran_at}

-- no condition at all
nothing_asked : (xs : List ℕ) → Pairwise (λ (s t : ℕ). Unit {0}) xs
nothing_asked [] = tt
nothing_asked (x ∷ xs) = (every xs, nothing_asked xs)
  where
    every : (ys : List ℕ) → Every (λ (t : ℕ). Unit {0}) ys
    every [] = tt
    every (y ∷ ys) = (tt, every ys)

module _ (ss : List Statement) where
  -- where statement number s writes
  abbrev writes : ℕ → Place
  writes s = (statement ss s).destination

  -- the later statement does not read what the earlier one writes; nor does it write it
  abbrev pub Blind : ℕ → ℕ → Type 0
  Blind earlier later = reads (statement ss later) (writes earlier) ≡ false

  abbrev pub Elsewhere : ℕ → ℕ → Type 0
  Elsewhere earlier later = same (writes earlier) (writes later) ≡ false

  -- one write of a stroke, with what was read in m
  abbrev lane : Memory → ℕ → Memory → Memory
  lane m s after = put after (writes s) (result m (statement ss s))

  stroke_lanes : (m : Memory) (unit : List ℕ) (after : Memory)
      → put_each (map writes unit) (map (λ s. result m (statement ss s)) unit) after ≡ each (lane m) unit after
  stroke_lanes m [] after = refl
  stroke_lanes m (s ∷ unit) after = stroke_lanes m unit (lane m s after)

  -- members that write different places write in any order
  pub stroke_any_order : (unit order : List ℕ) → ((s : ℕ) → occurs s unit ≡ occurs s order) → Pairwise Elsewhere unit → (m : Memory)
      → at_one_stroke ss order m ≡ at_one_stroke ss unit m
  stroke_any_order unit order same-members elsewhere m =
      stroke_lanes m order m
      ∙ reorder (lane m) Elsewhere (λ (s t : ℕ). Unit {0}) overtake order unit same-members elsewhere (nothing_asked order) m
      ∙ sym (stroke_lanes m unit m)
    where
      overtake : (x s : ℕ) → Elsewhere x s → Unit {0} → (after : Memory) → lane m s (lane m x after) ≡ lane m x (lane m s after)
      overtake x s differ free after = put_swap after (writes x) (writes s) (result m (statement ss x)) (result m (statement ss s)) differ

  -- what the others read is as before one member's write
  still_read : (s : ℕ) (unit : List ℕ) → Every (Blind s) unit → (m : Memory)
      → map (λ t. result m (statement ss t)) unit ≡ map (λ t. result (ran_at ss s m) (statement ss t)) unit
  still_read s [] blind m = refl
  still_read s (t ∷ unit) blind m =
      ap₂ ◌∷◌ (sym (result_put m (writes s) (result m (statement ss s)) (statement ss t) blind.0)) (still_read s unit blind.1 m)

  -- one after the other in the order of the lanes
  pub stroke_runs : (unit : List ℕ) → Pairwise Blind unit → (m : Memory) → at_one_stroke ss unit m ≡ each (ran_at ss) unit m
  stroke_runs [] blind m = refl
  stroke_runs (s ∷ unit) blind m =
      ap (λ (values : List ℕ). put_each (map writes unit) values (ran_at ss s m)) (still_read s unit blind.0 m)
      ∙ stroke_runs unit blind.1 (ran_at ss s m)

  -- A pack at one stroke runs as its members one after the other, in any order of them in which no later member reads or writes what an
  -- earlier one writes.
  pub stroke_in_order : (unit order : List ℕ) → ((s : ℕ) → occurs s order ≡ occurs s unit) → Pairwise Blind order → Pairwise Elsewhere order
      → (m : Memory) → at_one_stroke ss unit m ≡ each (ran_at ss) order m
  stroke_in_order unit order same-members blind elsewhere m =
      stroke_any_order order unit same-members elsewhere m ∙ stroke_runs order blind m

  -- Where no two members conflict, any order serves, that of the lanes too.
  pub stroke_free : (unit order : List ℕ) → ((s : ℕ) → occurs s order ≡ occurs s unit)
      → Pairwise (λ s t. conflicts (statement ss s) (statement ss t) ≡ false) order
      → (m : Memory) → at_one_stroke ss unit m ≡ each (ran_at ss) order m
  stroke_free unit order same-members free m =
      stroke_in_order unit order same-members
      (pairwise_weaker (λ s t e. second_blind (statement ss s) (statement ss t) e) order free)
      (pairwise_weaker (λ s t e. writes_differ (statement ss s) (statement ss t) e) order free)
      m
