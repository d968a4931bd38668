-- Chains of pairs: a chain goes from a statement to its partner as long as there is one; what it comes to when a pair is added, and that
-- one without repetition is not longer than the pairs allow.
use mathlib.Core.Path.{◌≡◌, refl, sym, ap, subst, ◌∙◌}
use mathlib.Core.Logic.{◌⊎◌, inl, inr}
use mathlib.Core.Bool.{Bool, true, false}
use mathlib.Core.Option.{Option, none, some, some-ne-none}
use mathlib.Core.List.{List, [], ◌∷◌, ◌++◌, map}
use Prim.Native.Nat.{ℕ, zero, suc, ◌≤◌, ◌<◌}
use native.Mathlib.Omega.{arith}
use lib.Dec.{eqb}
use lib.ListN.{length, length-map}
use borrow.Author.Tests.{eqb-true, eq-eqb, ne_eqb}
use Rattle.basics.proofs.Tests.{neither_left, neither_right, below_or_not}
use Rattle.meaning.specs.Pairs.{Pair, pair, is_left, partner, chain_along, chain, admit}
use Rattle.theorems.specs.Units.{Every, occurs}
use Rattle.theorems.proofs.Occurs.{occurs_own, occurs_cons, occurs_behind, fewer}

-- the choice that finds a partner
abbrev pub chosen : Bool → Pair → Option ℕ → Option ℕ
chosen test p other = elim test [ true ↦ some p.right | false ↦ other ]

-- who is left in no pair has no partner
pub partner_none : (pairs : List Pair) (s : ℕ) → is_left pairs s ≡ false → partner pairs s ≡ none
partner_none [] s e = refl
partner_none (p ∷ pairs) s e =
    ap (λ (test : Bool). chosen test p (partner pairs s)) (neither_left (eqb p.left s) (is_left pairs s) e) ∙ partner_none pairs s (neither_right (eqb p.left s) _ e)

-- a partner is found in a pair, of which all that is known of pairs holds
pub partner_related : (R : ℕ → ℕ → Type 0) (pairs : List Pair) (s t : ℕ) → Every (λ p. R p.left p.right) pairs → partner pairs s ≡ some t → R s t
partner_related R [] s t every e = absurd (some-ne-none t (sym e))
partner_related R (p ∷ pairs) s t every e = either (eqb p.left s) refl e (λ f. partner_related R pairs s t every.1 f)
  where
    either : (test : Bool) → eqb p.left s ≡ test → chosen test p (partner pairs s) ≡ some t → (partner pairs s ≡ some t → R s t) → R s t
    either true own f later =
        let found : p.right ≡ t = cc in
        subst (λ (x : ℕ). R x t) (eqb-true p.left s own) (subst (R p.left) found every.0)
    either false other f later = later f

-- and it is right in one
abbrev pub rights : List Pair → List ℕ
rights pairs = map (λ p. p.right) pairs

pub partner_right : (pairs : List Pair) (s t : ℕ) → partner pairs s ≡ some t → 0 < occurs t (rights pairs)
partner_right [] s t e = absurd (some-ne-none t (sym e))
partner_right (p ∷ pairs) s t e = either (eqb p.left s) e (λ f. partner_right pairs s t f)
  where
    either : (test : Bool) → chosen test p (partner pairs s) ≡ some t → (partner pairs s ≡ some t → 0 < occurs t (rights pairs))
        → 0 < occurs t (p.right ∷ rights pairs)
    either true f later =
        let found : p.right ≡ t = cc in
        rw found (omega (arith, occurs_own t (rights pairs)))
    either false f later = omega (arith, later f, occurs_behind t p.right (rights pairs))

-- a partner among the first pairs, and none there
pub partner_ahead : (pairs more : List Pair) (s t : ℕ) → partner pairs s ≡ some t → partner (pairs ++ more) s ≡ some t
partner_ahead [] more s t e = absurd (some-ne-none t (sym e))
partner_ahead (p ∷ pairs) more s t e = either (eqb p.left s) e (λ f. partner_ahead pairs more s t f)
  where
    either : (test : Bool) → chosen test p (partner pairs s) ≡ some t → (partner pairs s ≡ some t → partner (pairs ++ more) s ≡ some t)
        → chosen test p (partner (pairs ++ more) s) ≡ some t
    either true f later = f
    either false f later = later f

pub partner_behind : (pairs more : List Pair) (s : ℕ) → partner pairs s ≡ none → partner (pairs ++ more) s ≡ partner more s
partner_behind [] more s e = refl
partner_behind (p ∷ pairs) more s e = either (eqb p.left s) e (λ f. partner_behind pairs more s f)
  where
    either : (test : Bool) → chosen test p (partner pairs s) ≡ none → (partner pairs s ≡ none → partner (pairs ++ more) s ≡ partner more s)
        → chosen test p (partner (pairs ++ more) s) ≡ partner more s
    either true f later = absurd (some-ne-none p.right f)
    either false f later = later f

-- a chain, to its end
pub data Chain (pairs : List Pair) : ℕ → List ℕ → Type 0 where
  ends : {s : ℕ} → partner pairs s ≡ none → Chain pairs s (s ∷ [])
  goes : {s t : ℕ} {c : List ℕ} → partner pairs s ≡ some t → Chain pairs t c → Chain pairs s (s ∷ c)

pub chain_long : {pairs : List Pair} {s : ℕ} {c : List ℕ} → Chain pairs s c → 0 < length c
chain_long (ends e) = omega arith
chain_long (goes e rest) = omega arith

-- with as many steps as it has, the definition finds it
abbrev onward : ℕ → List Pair → Option ℕ → List ℕ
onward n pairs o = elim o [ none ↦ [] | some t ↦ chain_along n pairs t ]

pub chain_found : (n : ℕ) {pairs : List Pair} {s : ℕ} {c : List ℕ} → Chain pairs s c → length c ≤ suc n → chain_along n pairs s ≡ c
chain_found zero (ends e) h = refl
chain_found zero (goes e rest) h = absurd (omega (arith, chain_long rest))
chain_found (suc n) {pairs} {s} (ends e) h = ap {B = List ℕ} (λ (o : Option ℕ). s ∷ onward n pairs o) e
chain_found (suc n) {pairs} {s} (goes e rest) h =
    ap {B = List ℕ} (λ (o : Option ℕ). s ∷ onward n pairs o) e ∙ ap {B = List ℕ} (λ (c : List ℕ). s ∷ c) (chain_found n rest (omega arith))

-- all but its first statement are right in pairs, so without repetition it has at most one statement more than there are pairs
chain_rights : {pairs : List Pair} {s : ℕ} {c : List ℕ} → Chain pairs s c → (t : ℕ) → 0 < occurs t c → (t ≡ s) ⊎ (0 < occurs t (rights pairs))
chain_rights {pairs} {s = s} (ends e) t h = either (occurs_cons t s [] h)
  where
    either : (t ≡ s) ⊎ (0 < occurs t []) → (t ≡ s) ⊎ (0 < occurs t (rights pairs))
    either (inl f) = inl f
    either (inr k) = absurd (omega arith)
chain_rights {pairs} {s = s} (goes {t = next} {c = c} e rest) t h = either (occurs_cons t s c h) (λ k. chain_rights rest t k)
  where
    either : (t ≡ s) ⊎ (0 < occurs t c) → (0 < occurs t c → (t ≡ next) ⊎ (0 < occurs t (rights pairs))) → (t ≡ s) ⊎ (0 < occurs t (rights pairs))
    either (inl f) later = inl f
    either (inr k) later = inr (onto (later k))
      where
        onto : (t ≡ next) ⊎ (0 < occurs t (rights pairs)) → 0 < occurs t (rights pairs)
        onto (inl f) = rw f (partner_right pairs s next e)
        onto (inr g) = g

chain_short : {pairs : List Pair} {s : ℕ} {c : List ℕ} → Chain pairs s c → ((t : ℕ) → occurs t c ≤ 1) → length c ≤ suc (length pairs)
chain_short {pairs} {s} {c} chained once =
    omega (arith, fewer c (s ∷ rights pairs) (λ t. within t (below_or_not 0 (occurs t c))), length-map pairs (λ p. p.right))
  where
    there : (t : ℕ) → (t ≡ s) ⊎ (0 < occurs t (rights pairs)) → 0 < occurs t (s ∷ rights pairs)
    there t (inl e) = rw e (omega (arith, occurs_own s (rights pairs)))
    there t (inr h) = omega (arith, occurs_behind t s (rights pairs))

    within : (t : ℕ) → (0 < occurs t c) ⊎ (occurs t c ≤ 0) → occurs t c ≤ occurs t (s ∷ rights pairs)
    within t (inl h) = omega (arith, once t, there t (chain_rights chained t h))
    within t (inr h) = omega arith

-- A chain without repetition is the one that the definition finds.
pub chain_whole : {pairs : List Pair} {s : ℕ} {c : List ℕ} → Chain pairs s c → ((t : ℕ) → occurs t c ≤ 1) → chain pairs s ≡ c
unfolding chain
chain_whole {pairs} chained once = chain_found (length pairs) chained (chain_short chained once)

-- one pair (l, r) more, where l has no partner yet
module _ (pairs : List Pair) (l r : ℕ) (free : partner pairs l ≡ none) where
  pub partner_new : partner (admit pairs (pair l r)) l ≡ some r
  partner_new = partner_behind pairs (pair l r ∷ []) l free ∙ ap (λ (test : Bool). chosen test (pair l r) none) (eq-eqb l l refl)

  pub partner_old_none : (s : ℕ) → (l ≡ s → ⊥) → partner pairs s ≡ none → partner (admit pairs (pair l r)) s ≡ none
  partner_old_none s differ e =
      partner_behind pairs (pair l r ∷ []) s e ∙ ap (λ (test : Bool). chosen test (pair l r) none) (ne_eqb l s differ)

  -- a chain that does not come to l stays
  pub chain_kept : {s : ℕ} {c : List ℕ} → Chain pairs s c → occurs l c ≡ 0 → Chain (admit pairs (pair l r)) s c
  chain_kept {s} (ends e) absent = ends (partner_old_none s (λ f. omega (arith, absent, occurs_own l [], ap (λ (x : ℕ). occurs l (x ∷ [])) f)) e)
  chain_kept {s} (goes {t = t} {c = c} e rest) absent =
      goes (partner_ahead pairs (pair l r ∷ []) s t e) (chain_kept rest (omega (arith, absent, occurs_behind l s c)))

  -- one that does ends there, and goes on with the chain from r
  pub chain_joined : {s : ℕ} {c d : List ℕ} → Chain pairs s c → 0 < occurs l c → Chain (admit pairs (pair l r)) r d → Chain (admit pairs (pair l r)) s (c ++ d)
  chain_joined {s} {d = d} (ends e) there onto = either (occurs_cons l s [] there)
    where
      either : (l ≡ s) ⊎ (0 < occurs l []) → Chain (admit pairs (pair l r)) s (s ∷ d)
      either (inl f) = goes (subst (λ (x : ℕ). partner (admit pairs (pair l r)) x ≡ some r) f partner_new) onto
      either (inr k) = absurd (omega arith)
  chain_joined {s} (goes {t = t} {c = c} e rest) there onto =
      goes (partner_ahead pairs (pair l r ∷ []) s t e) (chain_joined rest (behind (occurs_cons l s c there)) onto)
    where
      behind : (l ≡ s) ⊎ (0 < occurs l c) → 0 < occurs l c
      behind (inl f) = absurd (some-ne-none t (sym (sym free ∙ ap (partner pairs) f ∙ e)))
      behind (inr k) = k
