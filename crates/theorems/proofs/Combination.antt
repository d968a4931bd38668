-- "Combination": chains are cut into units that fit, and every statement of the block is in one of them, once.
use mathlib.Core.Path.{◌≡◌, refl, sym, ap, ◌∙◌}
use mathlib.Core.Logic.{inl, inr}
use mathlib.Core.Bool.{Bool, true, false}
use mathlib.Core.List.{List, [], ◌∷◌, ◌++◌}
use Prim.Native.Nat.{ℕ, ◌+◌, ◌<◌}
use native.Mathlib.Numerals.{add-one}
use native.Mathlib.Omega.{arith}
use lib.Dec.{eqb}
use lib.ListN.{length}
use borrow.Author.Tests.{eqb-true, eq-eqb}
use Rattle.basics.specs.Choice.{pick}
use Rattle.basics.specs.Lists.{all, flat}
use Rattle.basics.proofs.Tests.{and_left, and_right, and_both}
use Rattle.basics.proofs.Counting.{count_up}
use Rattle.basics.proofs.Parts.{pick_holds}
use Rattle.meaning.specs.declared.Statement.{Statement}
use Rattle.meaning.specs.Block.{statement, cell_place}
use Rattle.meaning.specs.Dependence.{independent}
use Rattle.meaning.specs.Pairs.{Pair, is_right, chain, alike}
use Rattle.meaning.specs.Combination.{pairwise, cut, combine}
use Rattle.meaning.proofs.Paths.{Apart, independent_apart}
use Rattle.theorems.specs.Units.{Every, Pairwise, occurs, Alike, Fits, Units}
use Rattle.theorems.proofs.Occurs.{every_append, flat_append}
use Rattle.theorems.proofs.Totals.{total}
use Rattle.theorems.proofs.Chains.{partner_related, Chain, ends, goes}
use Rattle.theorems.proofs.Pairs.{Joined, in_chain, Admitted, chain_range}

-- each element is related to the next one
abbrev Linked : (ℕ → ℕ → Type 0) → List ℕ → Type 0
Linked R [] = Unit
Linked R (x ∷ []) = Unit
Linked R (x ∷ y ∷ ys) = R x y × Linked R (y ∷ ys)

linked_tail : (R : ℕ → ℕ → Type 0) (x : ℕ) (xs : List ℕ) → Linked R (x ∷ xs) → Linked R xs
linked_tail R x [] l = tt
linked_tail R x (y ∷ ys) l = l.1

linked_cons : (R : ℕ → ℕ → Type 0) {pairs : List Pair} {s t : ℕ} {c : List ℕ} → Chain pairs t c → R s t → Linked R c → Linked R (s ∷ c)
linked_cons R (ends e) related l = (related, tt)
linked_cons R (goes e rest) related l = (related, l)

-- "same operation and same kind of destination" goes along a chain
alike_onward : (s t u : Statement) → alike s t ≡ true → alike t u ≡ true → alike s u ≡ true
alike_onward s t u e f =
    and_both _ _
    (eq-eqb s.operation u.operation (eqb-true s.operation t.operation (and_left _ _ e) ∙ eqb-true t.operation u.operation (and_left _ _ f)))
    (eq-eqb (cell_place s.destination) (cell_place u.destination)
    (eqb-true _ _ (and_right (eqb s.operation t.operation) (eqb (cell_place s.destination) (cell_place t.destination)) e)
    ∙ eqb-true _ _ (and_right (eqb t.operation u.operation) (eqb (cell_place t.destination) (cell_place u.destination)) f)))

module _ (ss : List Statement) where
  -- statements tested pairwise are pairwise apart
  all_apart : (s : ℕ) (xs : List ℕ) → all (independent ss s) xs ≡ true → Every (Apart ss s) xs
  all_apart s [] e = tt
  all_apart s (x ∷ xs) e =
      (independent_apart ss s x (and_left (independent ss s x) (all (independent ss s) xs) e), all_apart s xs (and_right (independent ss s x) (all (independent ss s) xs) e))

  pairwise_apart : (xs : List ℕ) → pairwise ss xs ≡ true → Pairwise (Apart ss) xs
  pairwise_apart [] e = tt
  pairwise_apart (x ∷ xs) e =
      (all_apart x xs (and_left (all (independent ss x) xs) (pairwise ss xs) e), pairwise_apart xs (and_right (all (independent ss x) xs) (pairwise ss xs) e))

  -- a single, a pack of two and a pack of four
  pub one_fits : (a : ℕ) → a < length ss → Fits ss (a ∷ [])
  one_fits a below = record { lanes = inl refl; in_range = (below, tt); apart = (tt, tt); alike = (tt, tt) }

  two_fit : (a b : ℕ) → Joined ss a b → Fits ss (a ∷ b ∷ [])
  two_fit a b joined =
      record {
        lanes = inr (inl refl);
        in_range = (joined.apart.first, (joined.apart.second, tt));
        apart = ((joined.apart, tt), (tt, tt));
        alike = ((joined.like, tt), (tt, tt));
      }

  four_fit : (a b c d : ℕ) → pairwise ss (a ∷ b ∷ c ∷ d ∷ []) ≡ true → Joined ss a b → Joined ss b c → Joined ss c d → Fits ss (a ∷ b ∷ c ∷ d ∷ [])
  four_fit a b c d tested ab bc cd =
      record {
        lanes = inr (inr refl);
        in_range = (ab.apart.first, (bc.apart.first, (cd.apart.first, (cd.apart.second, tt))));
        apart = pairwise_apart (a ∷ b ∷ c ∷ d ∷ []) tested;
        alike = ((ab.like, (ac, (ad, tt))), ((bc.like, (bd, tt)), ((cd.like, tt), (tt, tt))));
      }
    where
      ac : Alike ss a c
      ac = alike_onward (statement ss a) (statement ss b) (statement ss c) ab.like bc.like

      bd : Alike ss b d
      bd = alike_onward (statement ss b) (statement ss c) (statement ss d) bc.like cd.like

      ad : Alike ss a d
      ad = alike_onward (statement ss a) (statement ss b) (statement ss d) ab.like bd

  -- a chain is cut into units that fit
  cut_fits : (c : List ℕ) → Every (λ s. s < length ss) c → Linked (Joined ss) c → Every (Fits ss) (cut ss c)
  unfolding cut
  cut_fits [] range linked = tt
  cut_fits (a ∷ []) range linked = (one_fits a range.0, tt)
  cut_fits (a ∷ b ∷ []) range linked = (two_fit a b linked.0, tt)
  cut_fits (a ∷ b ∷ c ∷ []) range linked = (two_fit a b linked.0, (one_fits c range.1.1.0, tt))
  cut_fits (a ∷ b ∷ c ∷ d ∷ rest) range linked =
      either (pairwise ss (a ∷ b ∷ c ∷ d ∷ [])) refl
      (cut_fits rest range.1.1.1.1 (linked_tail (Joined ss) d rest linked.1.1.1))
      (cut_fits (c ∷ d ∷ rest) range.1.1 linked.1.1)
    where
      either : (test : Bool) → pairwise ss (a ∷ b ∷ c ∷ d ∷ []) ≡ test → Every (Fits ss) (cut ss rest) → Every (Fits ss) (cut ss (c ∷ d ∷ rest))
          → Every (Fits ss) (elim test [ true ↦ (a ∷ b ∷ c ∷ d ∷ []) ∷ cut ss rest | false ↦ (a ∷ b ∷ []) ∷ cut ss (c ∷ d ∷ rest) ])
      either true e after-four after_two = (four_fit a b c d e linked.0 linked.1.0 linked.1.1.0, after-four)
      either false e after-four after_two = (two_fit a b linked.0, after_two)

  -- and has its statements in them
  cut_often : (t : ℕ) (c : List ℕ) → occurs t (flat (cut ss c)) ≡ occurs t c
  unfolding cut
  cut_often t [] = refl
  cut_often t (a ∷ []) = refl
  cut_often t (a ∷ b ∷ []) = refl
  cut_often t (a ∷ b ∷ c ∷ []) = refl
  cut_often t (a ∷ b ∷ c ∷ d ∷ rest) = either (pairwise ss (a ∷ b ∷ c ∷ d ∷ [])) (cut_often t rest) (cut_often t (c ∷ d ∷ rest))
    where
      either : (test : Bool) → occurs t (flat (cut ss rest)) ≡ occurs t rest → occurs t (flat (cut ss (c ∷ d ∷ rest))) ≡ occurs t (c ∷ d ∷ rest)
          → occurs t (flat (elim test [ true ↦ (a ∷ b ∷ c ∷ d ∷ []) ∷ cut ss rest | false ↦ (a ∷ b ∷ []) ∷ cut ss (c ∷ d ∷ rest) ])) ≡ occurs t (a ∷ b ∷ c ∷ d ∷ rest)
      either true after-four after_two = omega arith
      either false after-four after_two = omega arith

  module _ (pairs : List Pair) (known : Admitted ss pairs) where
    chain_linked : {s : ℕ} {c : List ℕ} → Chain pairs s c → Linked (Joined ss) c
    chain_linked (ends e) = tt
    chain_linked {s} (goes {t = t} e rest) = linked_cons (Joined ss) rest (partner_related (Joined ss) pairs s t known.sound e) (chain_linked rest)

    -- the units so far
    record Made (j : ℕ) (units : List (List ℕ)) : Type 0 where
      fit : Every (Fits ss) units
      often : (t : ℕ) → occurs t (flat units) ≡ total j (in_chain pairs t)

    -- the units of one chain
    abbrev of_chain : ℕ → List (List ℕ)
    of_chain s = pick (is_right pairs s) [] (cut ss (chain pairs s))

    chain_fits : (s : ℕ) → s < length ss → Every (Fits ss) (of_chain s)
    chain_fits s below =
        pick_holds (Every (Fits ss)) (is_right pairs s) [] (cut ss (chain pairs s))
        (λ e. tt)
        (λ starts.
        let whole = known.whole s below starts in
        cut_fits (chain pairs s) (chain_range ss known.sound whole below) (chain_linked whole))

    chain_often : (t s : ℕ) → occurs t (flat (of_chain s)) ≡ in_chain pairs t s
    chain_often t s = either (is_right pairs s)
      where
        either : (test : Bool) → occurs t (flat (pick test [] (cut ss (chain pairs s)))) ≡ pick test 0 (occurs t (chain pairs s))
        either true = refl
        either false = cut_often t (chain pairs s)

    one_chain_more : (j : ℕ) (units : List (List ℕ)) → j < length ss → Made j units → Made (j + 1) (units ++ of_chain j)
    one_chain_more j units below made =
        record {
          fit = every_append (Fits ss) units (of_chain j) made.fit (chain_fits j below);
          often = λ t.
              flat_append units (of_chain j) t
              ∙ omega (arith, made.often t, chain_often t j)
              ∙ ap (λ (n : ℕ). total n (in_chain pairs t)) (sym (add-one j));
        }

  -- Combination makes units that fit, and each statement of the block is in one of them, once.
  pub combined_units : (pairs : List Pair) → Admitted ss pairs → Units ss (combine ss pairs)
  unfolding combine
  combined_units pairs known =
      let made : Made pairs known (length ss) _ =
      count_up (Made pairs known) (λ s units. units ++ of_chain pairs known s) (length ss) [] (record { fit = tt; often = λ t. refl }) (one_chain_more pairs known) in
      record { fit = made.fit; once = λ s below. made.often s ∙ known.partition s below }
