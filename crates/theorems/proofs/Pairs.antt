-- "Pairs": what holds of the admitted pairs when each was admitted because it may be. Every pair joins statements that are alike and
-- independent, no statement is left in two pairs, and every statement of the block is in one chain, once.
use mathlib.Core.Path.{◌≡◌, refl, sym, ap, ap₂, subst, ◌∙◌}
use mathlib.Core.Logic.{◌⊎◌, inl, inr}
use mathlib.Core.Bool.{Bool, true, false, ◌&&◌, ◌||◌, not, false≢true, or-false, or_assoc}
use mathlib.Core.Option.{none}
use mathlib.Core.List.{List, [], ◌∷◌, ◌++◌}
use Prim.Native.Nat.{ℕ, ◌+◌, ◌*◌, ◌≤◌, ◌<◌}
use native.Mathlib.Omega.{arith}
use lib.Dec.{eqb}
use lib.ListN.{length}
use borrow.Author.Tests.{eqb-true, eqb-false, not-true}
use Rattle.basics.specs.Choice.{pick}
use Rattle.basics.specs.Lists.{any}
use Rattle.basics.proofs.Tests.{and_left, and_right, neither_left, neither_right, below_or_not}
use Rattle.meaning.specs.declared.Statement.{Statement}
use Rattle.meaning.specs.Block.{statement}
use Rattle.meaning.specs.Dependence.{independent}
use Rattle.meaning.specs.Pairs.{Pair, pair, is_left, is_right, partner, chain, alike, may_be_admitted, admit}
use Rattle.meaning.proofs.Paths.{Apart, independent_apart}
use Rattle.theorems.specs.Units.{Every, Pairwise, Alike, occurs}
use Rattle.theorems.proofs.Occurs.{occurs_append, occurs_range, every_append, pairwise_append}
use Rattle.theorems.proofs.Totals.{total, total_term, total_two, total_same, total_plus, total_times, total_one}
use Rattle.theorems.proofs.Chains.{partner_none, partner_related, Chain, ends, goes, chain_whole, chain_kept, chain_joined}

-- two statements that a pair may join
pub record Joined (ss : List Statement) (s t : ℕ) : Type 0 where
  pub like : Alike ss s t
  pub apart : Apart ss s t

-- a list is searched, and so is what is joined to it
none_like : (s : ℕ) (xs : List ℕ) → any (eqb s) xs ≡ false → occurs s xs ≡ 0
none_like s [] e = refl
none_like s (x ∷ xs) e =
    ap₂ (λ (test : Bool) (n : ℕ). pick test 1 0 + n) (neither_left (eqb s x) (any (eqb s) xs) e) (none_like s xs (neither_right (eqb s x) (any (eqb s) xs) e))

one_more : (pairs : List Pair) (p : Pair) (s : ℕ) → is_right (admit pairs p) s ≡ is_right pairs s || eqb p.right s
one_more [] p s = or-false (eqb p.right s)
one_more (q ∷ pairs) p s = ap (λ (test : Bool). eqb q.right s || test) (one_more pairs p s) ∙ sym (or_assoc (eqb q.right s) (is_right pairs s) (eqb p.right s))

-- what it takes to be admitted
record May (ss : List Statement) (pairs : List Pair) (l r : ℕ) : Type 0 where
  joined : Joined ss l r
  left_free : is_left pairs l ≡ false
  right_free : is_right pairs r ≡ false
  no_ring : occurs l (chain pairs r) ≡ 0

all_six : (a b c d e f : Bool) → a && b && c && d && e && f ≡ true → (b ≡ true) × (c ≡ true) × (d ≡ true) × (e ≡ true) × (f ≡ true)
all_six a b c d e f h =
    let five = and_left (a && b && c && d && e) f h in
    let four = and_left (a && b && c && d) e five in
    let three = and_left (a && b && c) d four in (
      and_right a b (and_left (a && b) c three),
      and_right (a && b) c three,
      and_right (a && b && c) d four,
      and_right (a && b && c && d) e five,
      and_right (a && b && c && d && e) f h,
    )

may : (ss : List Statement) (pairs : List Pair) (p : Pair) → may_be_admitted ss pairs p ≡ true → May ss pairs p.left p.right
unfolding may_be_admitted
may ss pairs p e =
    let parts =
    all_six (not (eqb p.left p.right)) (alike (statement ss p.left) (statement ss p.right)) (independent ss p.left p.right)
    (not (is_left pairs p.left)) (not (is_right pairs p.right)) (not (any (eqb p.left) (chain pairs p.right))) e in
    record {
      joined = record { like = parts.0; apart = independent_apart ss p.left p.right parts.1 };
      left_free = not-true (is_left pairs p.left) parts.2;
      right_free = not-true (is_right pairs p.right) parts.3;
      no_ring = none_like p.left (chain pairs p.right) (not-true (any (eqb p.left) (chain pairs p.right)) parts.4);
    }

-- how often t occurs in the chain that begins at s, where a chain does
abbrev pub in_chain : List Pair → ℕ → ℕ → ℕ
in_chain pairs t s = pick (is_right pairs s) 0 (occurs t (chain pairs s))

pub record Admitted (ss : List Statement) (pairs : List Pair) : Type 0 where
  pub sound : Every (λ p. Joined ss p.left p.right) pairs
  pub whole : (s : ℕ) → s < length ss → is_right pairs s ≡ false → Chain pairs s (chain pairs s)
  pub partition : (t : ℕ) → t < length ss → total (length ss) (in_chain pairs t) ≡ 1
  -- no statement is left in two pairs
  pub lefts_differ : Pairwise (λ p q. p.left ≡ q.left → ⊥) pairs

-- who is left in none of them differs from each one's left
left_in_none : (s : ℕ) (r : ℕ) (pairs : List Pair) → is_left pairs s ≡ false → Every (λ p. Every (λ q. p.left ≡ q.left → ⊥) (pair s r ∷ [])) pairs
left_in_none s r [] e = tt
left_in_none s r (p ∷ pairs) e =
    ((eqb-false p.left s (neither_left (eqb p.left s) (is_left pairs s) e), tt), left_in_none s r pairs (neither_right (eqb p.left s) (is_left pairs s) e))

-- a chain from a statement of the block stays in the block
pub chain_range : (ss : List Statement) {pairs : List Pair} {s : ℕ} {c : List ℕ} → Every (λ p. Joined ss p.left p.right) pairs
    → Chain pairs s c → s < length ss → Every (λ t. t < length ss) c
chain_range ss sound (ends e) below = (below, tt)
chain_range ss {pairs} {s} sound (goes {t = t} e rest) below =
    (below, chain_range ss sound rest (partner_related (Joined ss) pairs s t sound e).apart.second)

-- what a factor of 0 and of 1 does
zero_times : (a k x : ℕ) → k ≡ 0 → a ≡ a + k * x
zero_times a k x e = rw e (omega arith)

one_times : (a k x : ℕ) → k ≡ 1 → a + x ≡ a + k * x
one_times a k x e = rw e (omega arith)

-- one chain after a pair was added, by how often its statements occur
sum_term : (own right : Bool) (after before k x : ℕ)
    → (own ≡ true → (right ≡ false) × (before ≡ x) × (k ≡ 0)) → (own ≡ false → right ≡ false → after ≡ before + k * x)
    → pick (right || own) 0 after + pick own x 0 ≡ pick right 0 before + pick right 0 k * x
sum_term true true after before k x h g = absurd (false≢true (sym (h refl).0))
sum_term true false after before k x h g = omega (arith, (h refl).1, zero_times before k x (h refl).2)
sum_term false true after before k x h g = omega arith
sum_term false false after before k x h g = omega (arith, g refl refl)

sum_whole : (a b c d e x : ℕ) → a + b ≡ c + d → b ≡ x → c ≡ 1 → d ≡ e * x → e ≡ 1 → a ≡ 1
sum_whole a b c d e x f g h k one = omega (arith, one_times 0 e x one)

-- the chain from s after (l, r) was added: it comes to l, and goes on with the chain from r, or it stays
record Longer (pairs : List Pair) (l r s : ℕ) : Type 0 where
  chained : Chain (admit pairs (pair l r)) s (chain (admit pairs (pair l r)) s)
  longer : (t : ℕ) → occurs t (chain (admit pairs (pair l r)) s) ≡ occurs t (chain pairs s) + occurs l (chain pairs s) * occurs t (chain pairs r)

module _ (ss : List Statement) (pairs : List Pair) (known : Admitted ss pairs) where
  range : (s : ℕ) → s < length ss → is_right pairs s ≡ false → (t : ℕ) → length ss ≤ t → occurs t (chain pairs s) ≡ 0
  range s below starts = occurs_range (length ss) (chain pairs s) (chain_range ss known.sound (known.whole s below starts) below)

  in_chain_lem : (t s : ℕ) → is_right pairs s ≡ false → in_chain pairs t s ≡ occurs t (chain pairs s)
  in_chain_lem t s starts = rw starts

  -- no statement occurs in two chains, or twice in one
  two_chains : (s r : ℕ) → s < length ss → r < length ss → (s ≡ r → ⊥) → is_right pairs s ≡ false → is_right pairs r ≡ false
      → (t : ℕ) → occurs t (chain pairs s) + occurs t (chain pairs r) ≤ 1
  two_chains s r below below' differ starts starts' t = either (below_or_not t (length ss))
    where
      either : (t < length ss) ⊎ (length ss ≤ t) → occurs t (chain pairs s) + occurs t (chain pairs r) ≤ 1
      either (inl h) =
          omega (arith, total_two (in_chain pairs t) (length ss) s r below below' differ, known.partition t h, in_chain_lem t s starts, in_chain_lem t r starts')
      either (inr h) = omega (arith, range s below starts t h, range r below' starts' t h)

  one_chain : (s : ℕ) → s < length ss → is_right pairs s ≡ false → (t : ℕ) → occurs t (chain pairs s) ≤ 1
  one_chain s below starts t = either (below_or_not t (length ss))
    where
      either : (t < length ss) ⊎ (length ss ≤ t) → occurs t (chain pairs s) ≤ 1
      either (inl h) = omega (arith, total_term (in_chain pairs t) (length ss) s below, known.partition t h, in_chain_lem t s starts)
      either (inr h) = omega (arith, range s below starts t h)

  module _ (l r : ℕ) (admits : May ss pairs l r) where
    below_l : l < length ss
    below_l = admits.joined.apart.first

    below_r : r < length ss
    below_r = admits.joined.apart.second

    free : partner pairs l ≡ none
    free = partner_none pairs l admits.left_free

    onto : Chain (admit pairs (pair l r)) r (chain pairs r)
    onto = chain_kept pairs l r free (known.whole r below_r admits.right_free) admits.no_ring

    chain_longer : (s : ℕ) → s < length ss → is_right pairs s ≡ false → (s ≡ r → ⊥) → Longer pairs l r s
    chain_longer s below starts differ = either (below_or_not 0 (occurs l (chain pairs s)))
      where
        found : (c : List ℕ) → Chain (admit pairs (pair l r)) s c → ((t : ℕ) → occurs t c ≤ 1)
            → ((t : ℕ) → occurs t c ≡ occurs t (chain pairs s) + occurs l (chain pairs s) * occurs t (chain pairs r)) → Longer pairs l r s
        found c chained once counted =
            let same : chain (admit pairs (pair l r)) s ≡ c = chain_whole chained once in
            record { chained = subst (Chain (admit pairs (pair l r)) s) (sym same) chained; longer = λ t. ap (occurs t) same ∙ counted t }

        either : (0 < occurs l (chain pairs s)) ⊎ (occurs l (chain pairs s) ≤ 0) → Longer pairs l r s
        either (inl there) =
            found (chain pairs s ++ chain pairs r)
            (chain_joined pairs l r free (known.whole s below starts) there onto)
            (λ t. omega (arith, occurs_append t (chain pairs s) (chain pairs r), two_chains s r below below_r differ starts admits.right_free t))
            (λ t.
            occurs_append t (chain pairs s) (chain pairs r)
            ∙ one_times (occurs t (chain pairs s)) (occurs l (chain pairs s)) (occurs t (chain pairs r)) (omega (arith, one_chain s below starts l)))
        either (inr none_there) =
            let absent : occurs l (chain pairs s) ≡ 0 = omega arith in
            found (chain pairs s)
            (chain_kept pairs l r free (known.whole s below starts) absent)
            (one_chain s below starts)
            (λ t. zero_times (occurs t (chain pairs s)) (occurs l (chain pairs s)) (occurs t (chain pairs r)) absent)

    -- so every statement is still in one chain
    term : (t s : ℕ) → s < length ss
        → in_chain (admit pairs (pair l r)) t s + pick (eqb r s) (occurs t (chain pairs r)) 0
        ≡ in_chain pairs t s + in_chain pairs l s * occurs t (chain pairs r)
    term t s below =
        ap (λ (right : Bool). pick right 0 (occurs t (chain (admit pairs (pair l r)) s)) + pick (eqb r s) (occurs t (chain pairs r)) 0) (one_more pairs (pair l r) s)
        ∙ sum_term (eqb r s) (is_right pairs s) (occurs t (chain (admit pairs (pair l r)) s)) (occurs t (chain pairs s)) (occurs l (chain pairs s)) (occurs t (chain pairs r))
        (λ own.
        let e : r ≡ s = eqb-true r s own in
        (ap (is_right pairs) (sym e) ∙ admits.right_free, ap (λ (x : ℕ). occurs t (chain pairs x)) (sym e), ap (λ (x : ℕ). occurs l (chain pairs x)) (sym e) ∙ admits.no_ring))
        (λ other starts. (chain_longer s below starts (λ e. eqb-false r s other (sym e))).longer t)

    still_one : (t : ℕ) → t < length ss → total (length ss) (in_chain (admit pairs (pair l r)) t) ≡ 1
    still_one t below =
        sum_whole (total (length ss) (in_chain (admit pairs (pair l r)) t)) (total (length ss) (λ i. pick (eqb r i) (occurs t (chain pairs r)) 0))
        (total (length ss) (in_chain pairs t)) (total (length ss) (λ i. in_chain pairs l i * occurs t (chain pairs r)))
        (total (length ss) (in_chain pairs l)) (occurs t (chain pairs r))
        (sym (total_plus (in_chain (admit pairs (pair l r)) t) (λ i. pick (eqb r i) (occurs t (chain pairs r)) 0) (length ss))
        ∙ total_same _ _ (length ss) (term t)
        ∙ total_plus (in_chain pairs t) (λ i. in_chain pairs l i * occurs t (chain pairs r)) (length ss))
        (total_one r (occurs t (chain pairs r)) (length ss) below_r)
        (known.partition t below)
        (total_times (in_chain pairs l) (occurs t (chain pairs r)) (length ss))
        (known.partition l below_l)

    admits_more : Admitted ss (admit pairs (pair l r))
    admits_more =
        record {
          sound = every_append (λ p. Joined ss p.left p.right) pairs (pair l r ∷ []) known.sound (admits.joined, tt);
          whole = λ s below starts.
              let apart : is_right pairs s || eqb r s ≡ false = sym (one_more pairs (pair l r) s) ∙ starts in
              (chain_longer s below (neither_left (is_right pairs s) (eqb r s) apart) (λ e. eqb-false r s (neither_right (is_right pairs s) (eqb r s) apart) (sym e))).chained;
          partition = still_one;
          lefts_differ = pairwise_append (λ p q. p.left ≡ q.left → ⊥) pairs (pair l r ∷ []) known.lefts_differ (tt, tt) (left_in_none l r pairs admits.left_free);
        }

-- Before the first pair each statement is a chain of its own.
pub none_admitted : (ss : List Statement) → Admitted ss []
unfolding chain
none_admitted ss =
    record {
      sound = tt;
      whole = λ s below starts. ends refl;
      partition = λ t below. total_same _ _ (length ss) (λ s h. alone t s) ∙ total_one t 1 (length ss) below;
      lefts_differ = tt;
    }
  where
    alone : (t s : ℕ) → pick (eqb t s) 1 0 + 0 ≡ pick (eqb t s) 1 0
    alone t s = omega arith

-- A pair that may be admitted keeps all this.
pub admit_keeps : (ss : List Statement) (pairs : List Pair) (p : Pair) → Admitted ss pairs → may_be_admitted ss pairs p ≡ true → Admitted ss (admit pairs p)
admit_keeps ss pairs p known e = admits_more ss pairs known p.left p.right (may ss pairs p e)
