-- Chains, partners and pairs, looked up in the table that has for each left statement the right one.
use mathlib.Core.Path.{◌≡◌, refl, sym, ap, ◌∙◌}
use mathlib.Core.Logic.{◌⊎◌, inl, inr}
use mathlib.Core.Bool.{Bool, true, false, ◌&&◌, ◌||◌, not, and-false, or-false}
use mathlib.Core.Option.{Option, none, some}
use mathlib.Core.List.{List, [], ◌∷◌}
use Prim.Native.Nat.{ℕ, zero, suc, ◌<◌, ◌≤◌}
use native.Mathlib.Omega.{arith}
use lib.Dec.{eqb, ltb}
use lib.ListN.{length, get_or}
use borrow.Author.Tests.{lt-ltb, le-ltb, eqb-true, ne_eqb}
use Rattle.basics.specs.Lists.{any}
use Rattle.basics.proofs.Tests.{below_or_not, eqb_back}
use Rattle.meaning.specs.Pairs.{Pair, pair, is_admitted, is_left, partner, chain_along, chain}
use Rattle.meaning.specs.Extension.{is_this}
use Rattle.theorems.specs.Units.{Every, Pairwise}
use Rattle.theorems.proofs.Chains.{chosen, partner_related}
use Rattle.reach.specs.Tied.{number_of}
use Rattle.pairs.specs.Admission.{leads_to, admitted_in}
use Rattle.pairs.proofs.Tables.{no_partner}

-- a statement has a partner where it is left in a pair
abbrev is_some : Option ℕ → Bool
is_some none = false
is_some (some t) = true

left_partner : (pairs : List Pair) (s : ℕ) → is_left pairs s ≡ is_some (partner pairs s)
left_partner [] s = refl
left_partner (p ∷ pairs) s = either (eqb p.left s) (left_partner pairs s)
  where
    either : (test : Bool) → is_left pairs s ≡ is_some (partner pairs s) → test || is_left pairs s ≡ is_some (chosen test p (partner pairs s))
    either true later = refl
    either false later = later

-- (s, t) is a pair where t is the partner of s
pair_partner : (pairs : List Pair) (s t : ℕ) → Pairwise (λ p q. p.left ≡ q.left → ⊥) pairs → is_admitted pairs (pair s t) ≡ is_this t (partner pairs s)
pair_partner [] s t differ = refl
pair_partner (p ∷ pairs) s t differ =
    ap (λ (test : Bool). test && eqb t p.right || is_admitted pairs (pair s t)) (eqb_back s p.left)
    ∙ either (eqb p.left s) refl (pair_partner pairs s t differ.1)
  where
    either : (test : Bool) → eqb p.left s ≡ test → is_admitted pairs (pair s t) ≡ is_this t (partner pairs s)
        → test && eqb t p.right || is_admitted pairs (pair s t) ≡ is_this t (chosen test p (partner pairs s))
    either true own later =
        let e : s ≡ p.left = sym (eqb-true p.left s own) in
        let alone : partner pairs s ≡ none = rw e (no_partner p.left pairs differ.0) in
        ap (λ (test : Bool). eqb t p.right || test) (later ∙ ap (is_this t) alone)
        ∙ or-false (eqb t p.right)
    either false other later = later

-- the chain behind its first statement
abbrev behind : ℕ → List Pair → ℕ → List ℕ
behind zero pairs s = []
behind (suc n) pairs s = elim (partner pairs s) [ none ↦ [] | some t ↦ chain_along n pairs t ]

first_behind : (n : ℕ) (pairs : List Pair) (s : ℕ) → chain_along n pairs s ≡ s ∷ behind n pairs s
first_behind zero pairs s = refl
first_behind (suc n) pairs s = refl

-- one step along the table
abbrev led : ℕ → List ℕ → ℕ → ℕ → Bool
led n next at to = elim (eqb at to) [ true ↦ true | false ↦ elim (eqb at 64) [ true ↦ false | false ↦ leads_to n next at to ] ]

module _ (pairs : List Pair) (next : List ℕ) (partners : (s : ℕ) → get_or next s 64 ≡ number_of (partner pairs s)) (below : Every (λ p. p.right < 64) pairs) where
  right_below : (s t : ℕ) → partner pairs s ≡ some t → t < 64
  right_below s t e = partner_related (λ l r. r < 64) pairs s t below e

  -- "s is not yet left in a pair"
  pub left_free : (s : ℕ) → eqb (get_or next s 64) 64 ≡ not (is_left pairs s)
  left_free s = ap (λ (u : ℕ). eqb u 64) (partners s) ∙ either (partner pairs s) refl ∙ ap not (sym (left_partner pairs s))
    where
      either : (o : Option ℕ) → partner pairs s ≡ o → eqb (number_of o) 64 ≡ not (is_some o)
      either none e = refl
      either (some t) e = ne_eqb t 64 (λ f. omega (arith, right_below s t e))

  leads_behind : (n from to : ℕ) → to < 64 → leads_to n next from to ≡ any (eqb to) (behind n pairs from)
  unfolding leads_to
  leads_behind zero from to small = refl
  leads_behind (suc n) from to small =
      ap (λ (u : ℕ). led n next u to) (partners from) ∙ either (partner pairs from) refl (λ t. leads_behind n t to small)
    where
      onward : (t : ℕ) → t < 64 → (test : Bool) → eqb t to ≡ test → leads_to n next t to ≡ any (eqb to) (behind n pairs t)
          → elim test [ true ↦ true | false ↦ elim (eqb t 64) [ true ↦ false | false ↦ leads_to n next t to ] ] ≡ test || any (eqb to) (behind n pairs t)
      onward t h true e later = refl
      onward t h false e later = rw (ne_eqb t 64 (λ f. omega arith)) later

      either : (o : Option ℕ) → partner pairs from ≡ o → ((t : ℕ) → leads_to n next t to ≡ any (eqb to) (behind n pairs t))
          → led n next (number_of o) to ≡ any (eqb to) (elim o [ none ↦ [] | some t ↦ chain_along n pairs t ])
      either none e later = rw (ne_eqb 64 to (λ f. omega arith), led)
      either (some t) e later =
          onward t (right_below from t e) (eqb t to) refl (later t)
          ∙ ap (λ (test : Bool). test || any (eqb to) (behind n pairs t)) (eqb_back t to)
          ∙ ap (any (eqb to)) (sym (first_behind n pairs t))

  -- "no chain of admitted pairs leads from t back to s"
  pub leads_chain : (s t : ℕ) → s < 64 → (s ≡ t → ⊥) → leads_to (length pairs) next t s ≡ any (eqb s) (chain pairs t)
  unfolding chain
  leads_chain s t small differ =
      leads_behind (length pairs) t s small
      ∙ ap (λ (test : Bool). test || any (eqb s) (behind (length pairs) pairs t)) (sym (ne_eqb s t differ))
      ∙ ap (any (eqb s)) (sym (first_behind (length pairs) pairs t))

  pub admitted_tied : Pairwise (λ p q. p.left ≡ q.left → ⊥) pairs → Every (λ p. p.left < 64) pairs → (s t : ℕ)
      → admitted_in next s t ≡ is_admitted pairs (pair s t)
  admitted_tied differ left_below s t =
      ap (λ (u : ℕ). ltb s 64 && (ltb t 64 && eqb u t)) (partners s) ∙ either (partner pairs s) refl ∙ sym (pair_partner pairs s t differ)
    where
      both_below : (u : ℕ) → u < 64 → ltb t 64 && eqb u t ≡ eqb u t
      both_below u h = by (eqb u t) refl
        where
          by : (test : Bool) → eqb u t ≡ test → ltb t 64 && test ≡ test
          by true e = rw (lt-ltb t 64 (omega (arith, eqb-true u t e)))
          by false e = and-false (ltb t 64)

      none_there : (t < 64) ⊎ (64 ≤ t) → ltb t 64 && eqb 64 t ≡ false
      none_there (inl h) = rw (ne_eqb 64 t (λ f. omega arith)) (and-false (ltb t 64))
      none_there (inr h) = rw (le-ltb t 64 h)

      either : (o : Option ℕ) → partner pairs s ≡ o → ltb s 64 && (ltb t 64 && eqb (number_of o) t) ≡ is_this t o
      either none e = ap (λ (test : Bool). ltb s 64 && test) (none_there (below_or_not t 64)) ∙ and-false (ltb s 64)
      either (some u) e =
          let here : s < 64 = partner_related (λ l r. l < 64) pairs s u left_below e in
          rw (lt-ltb s 64 here) (both_below u (right_below s u e) ∙ eqb_back u t)
