-- The best readers over the tables are those of "definition to use"; only variables have readers.
use mathlib.Core.Path.{◌≡◌, refl, sym, ap, ap₂, ◌∙◌}
use mathlib.Core.Bool.{Bool, true, false, ◌&&◌, ◌||◌, false≢true}
use mathlib.Core.Option.{Option, none, some}
use mathlib.Core.List.{List}
use Prim.Native.Nat.{ℕ, ◌-◌, ◌≤◌, ◌<◌}
use lib.Dec.{ltb, leb}
use lib.ListN.{length}
use borrow.Author.Tests.{lt-ltb, le-ltb, ne_eqb}
use Rattle.basics.specs.Choice.{pick}
use Rattle.basics.specs.Counting.{count}
use Rattle.basics.specs.Sets.{has}
use Rattle.basics.proofs.Counting.{count_up, count_both}
use Rattle.meaning.specs.declared.Statement.{Statement}
use Rattle.meaning.specs.Block.{statement, is_variable, left, right, operand}
use Rattle.meaning.specs.Pairs.{Pair, pair, may_be_admitted}
use Rattle.meaning.specs.Estimate.{gain, loss, pays, estimate}
use Rattle.meaning.specs.Extension.{is_this, reads_result, is_better, better, best_with, best_readers}
use Rattle.rows.specs.Walk.{walk}
use Rattle.rows.proofs.Walks.{walk_counts}
use Rattle.facts.specs.Facts.{fact_at}
use Rattle.reach.specs.Tied.{Defined}
use Rattle.pairs.specs.Admission.{Tables, may_pair}
use Rattle.estimate.specs.Costs.{loss_of, gain_of}
use Rattle.estimate.proofs.Definitions.{Defines, definition_defines, definition_at}
use Rattle.std.specs.Prelude.{Option as Maybe, Some, None}
use Rattle.extend.specs.declared.Best.{Best as Found}
use Rattle.extend.specs.Visits.{found, is_greater, better_of, best_of_partners, best_of}

-- the best so far, as the tables have it
abbrev pub found_of : List Statement → List Pair → Option Pair → Maybe Found
found_of ss pairs none = None
found_of ss pairs (some p) = Some (found p.left p.right (estimate ss pairs p))

choice : (ss : List Statement) (pairs : List Pair) (p : Pair) (best : Option Pair) (a a' b b' c c' : Bool) (f : Maybe Found)
    → a ≡ a' → b ≡ b' → c ≡ c' → f ≡ found_of ss pairs (some p)
    → pick a (pick b (pick c f (found_of ss pairs best)) (found_of ss pairs best)) (found_of ss pairs best) ≡ found_of ss pairs (pick (a' && b' && c') (some p) best)
choice ss pairs p best a true b true c true f e g h k = rw (e, g, h) k
choice ss pairs p best a true b true c false f e g h k = rw (e, g, h)
choice ss pairs p best a true b false c c' f e g h k = rw (e, g)
choice ss pairs p best a false b b' c c' f e g h k = rw e

-- who writes a cell has no readers
module _ (ss : List Statement) (s : ℕ) (cell : is_variable (statement ss s).destination ≡ false) where
  not_this : (i : ℕ) (o : Option ℕ) → Defines ss i o → is_this s o ≡ false
  not_this i none known = refl
  not_this i (some t) known =
      ne_eqb s t λ e. false≢true (sym cell ∙ ap (λ (k : ℕ). is_variable (statement ss k).destination) e ∙ known.1)

  unread : (t : ℕ) → reads_result ss s t ≡ false
  unread t =
      ap₂ ◌||◌ (not_this t (definition_at ss left t) (definition_defines ss t (operand left (statement ss t))))
      (not_this t (definition_at ss right t) (definition_defines ss t (operand right (statement ss t))))

idle : {A : Type 0} (test : ℕ → Bool) (f : ℕ → A → A) (n : ℕ) (a : A) → ((t : ℕ) (x : A) → x ≡ a → elim (test t) as (λ y. A) [ true ↦ f t x | false ↦ x ] ≡ a)
    → count n 0 (λ t x. elim (test t) [ true ↦ f t x | false ↦ x ]) a ≡ a
idle {A} test f n a same = count_up (λ (i : ℕ) (x : A). x ≡ a) (λ t x. elim (test t) [ true ↦ f t x | false ↦ x ]) n a refl (λ t x below e. same t x e)

no_partners : (ss : List Statement) (pairs : List Pair) (s t : ℕ) (best : Option Pair) → is_variable (statement ss s).destination ≡ false
    → best_with ss pairs s t best ≡ best
no_partners ss pairs s t best cell =
    idle (reads_result ss s) (λ t'. better ss pairs (pair t t')) (length ss) best
    λ t' x e. ap (λ (test : Bool). elim test as (λ y. Option Pair) [ true ↦ better ss pairs (pair t t') x | false ↦ x ]) (unread ss s cell t') ∙ e

module _ (ss : List Statement) (pairs : List Pair) (p : Pair) where
  pub none_left : is_variable (statement ss p.left).destination ≡ false → best_readers ss pairs p ≡ none
  unfolding best_readers
  none_left cell =
      idle (reads_result ss p.left) (best_with ss pairs p.right) (length ss) none
      λ t x e. ap (λ (test : Bool). elim test as (λ y. Option Pair) [ true ↦ best_with ss pairs p.right t x | false ↦ x ]) (unread ss p.left cell t) ∙ e

  pub none_right : is_variable (statement ss p.right).destination ≡ false → best_readers ss pairs p ≡ none
  unfolding best_readers
  none_right cell =
      idle (reads_result ss p.left) (best_with ss pairs p.right) (length ss) none
      λ t x e. by (reads_result ss p.left t) t x e
    where
      by : (test : Bool) (t : ℕ) (x : Option Pair) → x ≡ none
          → ◌≡◌ {A = Option Pair} (elim test [ true ↦ best_with ss pairs p.right t x | false ↦ x ]) none
      by true t x e = no_partners ss pairs p.right t x cell ∙ e
      by false t x e = e

-- What the tables say of a pair of statements of the block: whether it may be admitted, and its estimate.
module _ (ss : List Statement) (facts reached : List ℕ) (few : length ss ≤ 64) (defined : Defined ss facts) (pairs : List Pair) (t : Tables)
    (same-may : (p : Pair) → p.left < length ss → p.right < length ss → may_pair facts reached t p.left p.right ≡ may_be_admitted ss pairs p)
    (same_gain : (p : Pair) → p.left < length ss → p.right < length ss → gain_of facts p ≡ gain ss p)
    (same_loss : (p : Pair) → p.left < length ss → p.right < length ss → loss_of facts t.next p ≡ loss ss pairs p) where
  pub same_pays : (p : Pair) → p.left < length ss → p.right < length ss → leb (loss_of facts t.next p) (gain_of facts p) ≡ pays ss pairs p
  same_pays p low high = ap₂ leb (same_loss p low high) (same_gain p low high)

  same_estimate : (p : Pair) → p.left < length ss → p.right < length ss → gain_of facts p - loss_of facts t.next p ≡ estimate ss pairs p
  same_estimate p low high = ap₂ ◌-◌ (same_gain p low high) (same_loss p low high)

  same_better : (p : Pair) → p.left < length ss → p.right < length ss → (best : Option Pair)
      → is_greater (gain_of facts p - loss_of facts t.next p) (found_of ss pairs best) ≡ is_better ss pairs p best
  same_better p low high none = refl
  same_better p low high (some best) = ap (ltb (estimate ss pairs best)) (same_estimate p low high)

  tracks_better : (p : Pair) → p.left < length ss → p.right < length ss → (f : Maybe Found) (best : Option Pair) → f ≡ found_of ss pairs best
      → better_of facts reached t p f ≡ found_of ss pairs (better ss pairs p best)
  tracks_better p low high f best tracks =
      ap (better_of facts reached t p) tracks
      ∙ choice ss pairs p best (may_pair facts reached t p.left p.right) (may_be_admitted ss pairs p)
      (leb (loss_of facts t.next p) (gain_of facts p)) (pays ss pairs p)
      (is_greater (gain_of facts p - loss_of facts t.next p) (found_of ss pairs best)) (is_better ss pairs p best)
      (Some (found p.left p.right (gain_of facts p - loss_of facts t.next p)))
      (same-may p low high) (same_pays p low high) (same_better p low high best)
      (ap (λ (e : ℕ). Some (found p.left p.right e)) (same_estimate p low high))

  -- a walk over the readers of s's result
  tracks_walk : (s : ℕ) → s < length ss → (f : ℕ → Maybe Found → Maybe Found) (g : ℕ → Option Pair → Option Pair)
      → ((j : ℕ) (x : Maybe Found) (y : Option Pair) → j < length ss → x ≡ found_of ss pairs y → f j x ≡ found_of ss pairs (g j y))
      → (x : Maybe Found) (y : Option Pair) → x ≡ found_of ss pairs y
      → walk 64 (fact_at facts 448 s) f x ≡ found_of ss pairs (count (length ss) 0 (λ j z. elim (reads_result ss s j) [ true ↦ g j z | false ↦ z ]) y)
  tracks_walk s below f g step x y start =
      rw (walk_counts (length ss) (fact_at facts 448 s) f x few (λ j past. defined.readers s j below ∙ ap (λ (test : Bool). test && reads_result ss s j) (le-ltb j (length ss) past)))
      (count_both (λ (j : ℕ) (x : Maybe Found) (y : Option Pair). x ≡ found_of ss pairs y)
      (λ j x. elim (has (fact_at facts 448 s) j) [ true ↦ f j x | false ↦ x ]) (λ j z. elim (reads_result ss s j) [ true ↦ g j z | false ↦ z ])
      (length ss) x y start
      λ j x y below' tracks.
      by j x y below' tracks (has (fact_at facts 448 s) j) (reads_result ss s j)
      (defined.readers s j below ∙ ap (λ (test : Bool). test && reads_result ss s j) (lt-ltb j (length ss) below')))
    where
      by : (j : ℕ) (x : Maybe Found) (y : Option Pair) → j < length ss → x ≡ found_of ss pairs y → (a b : Bool) → a ≡ b
          → elim a as (λ z. Maybe Found) [ true ↦ f j x | false ↦ x ] ≡ found_of ss pairs (elim b as (λ z. Option Pair) [ true ↦ g j y | false ↦ y ])
      by j x y below' tracks true true e = step j x y below' tracks
      by j x y below' tracks true false e = absurd (false≢true (sym e))
      by j x y below' tracks false true e = absurd (false≢true e)
      by j x y below' tracks false false e = tracks

  -- The best readers are the same.
  pub tracks_readers : (p : Pair) → p.left < length ss → p.right < length ss → best_of facts reached t p ≡ found_of ss pairs (best_readers ss pairs p)
  unfolding best_of best_readers
  tracks_readers p low high =
      tracks_walk p.left low (λ reader. best_of_partners facts reached t reader (fact_at facts 448 p.right)) (best_with ss pairs p.right)
      (λ reader x y below.
      tracks_walk p.right high (λ partner. better_of facts reached t (pair reader partner)) (λ partner. better ss pairs (pair reader partner))
      (λ partner x y below'. tracks_better (pair reader partner) below below' x y) x y)
      None none refl
