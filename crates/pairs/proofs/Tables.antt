-- The tables of pairs say what the list of pairs says: each pair by the number of its admission, each partner by the left statement, and
-- who is right in one.
use mathlib.Core.Path.{◌≡◌, refl, sym, ap, ◌∙◌}
use mathlib.Core.Bool.{Bool, true, false, ◌||◌, or-false, or_assoc}
use mathlib.Core.Option.{Option, none, some}
use mathlib.Core.List.{List, [], ◌∷◌, map}
use Prim.Native.Nat.{ℕ, zero, suc, ◌+◌, ◌≤◌, ◌<◌}
use native.Mathlib.Omega.{arith}
use lib.Dec.{eqb}
use lib.ListN.{length, get_or, set, replicate, length-set, length-map}
use lib.Seq.{get_or-set_same, get_or-set_other}
use borrow.Author.Tests.{eqb-true, eqb-false, eq-eqb, ne_eqb}
use Rattle.basics.specs.Choice.{pick}
use Rattle.basics.specs.Lists.{each}
use Rattle.basics.specs.Sets.{only, has}
use Rattle.basics.proofs.Lists.{replicate_at}
use Rattle.basics.proofs.Finding.{each_append}
use Rattle.basics.proofs.Sets.{has_nobody, has_only, has_join}
use Rattle.meaning.specs.declared.Statement.{Statement}
use Rattle.meaning.specs.Pairs.{Pair, is_right, partner, admit}
use Rattle.theorems.specs.Units.{Every, Pairwise, occurs}
use Rattle.theorems.proofs.Occurs.{every_weaker, occurs_other}
use Rattle.theorems.proofs.Orders.{few_numbers}
use Rattle.theorems.proofs.Chains.{chosen}
use Rattle.theorems.proofs.Pairs.{Admitted}
use Rattle.reach.specs.Tied.{number_of}
use Rattle.pairs.specs.Admission.{Tables, empty, admit_to, tables_of}
use Rattle.pairs.specs.Tied.{Paired}

-- One pair more in the list is one more in the tables.
pub admit_tables : (pairs : List Pair) (p : Pair) → tables_of (admit pairs p) ≡ admit_to p (tables_of pairs)
unfolding tables_of
admit_tables pairs p = each_append admit_to pairs (p ∷ []) empty

-- the tables from others on
abbrev onto : List Pair → Tables → Tables
onto pairs t = each admit_to pairs t

onto_size : (pairs : List Pair) (t : Tables) → (onto pairs t).size ≡ t.size + length pairs
onto_size [] t = omega arith
onto_size (p ∷ pairs) t = omega (arith, onto_size pairs (admit_to p t))

-- what was there before stays in order
onto_before : (pairs : List Pair) (t : Tables) (i : ℕ) → i < t.size → get_or (onto pairs t).order i 64 ≡ get_or t.order i 64
onto_before [] t i h = refl
onto_before (p ∷ pairs) t i h =
    onto_before pairs (admit_to p t) i (omega arith) ∙ get_or-set_other t.order t.size i p.left 64 (λ e. omega arith)

onto_at : (pairs : List Pair) (t : Tables) (i : ℕ) (d : Pair) → i < length pairs → t.size + length pairs ≤ length t.order
    → get_or (onto pairs t).order (t.size + i) 64 ≡ (get_or pairs i d).left
onto_at [] t i d h room = absurd (omega arith)
onto_at (p ∷ pairs) t zero d h room =
    let e : t.size + 0 ≡ t.size = omega arith in
    rw e (onto_before pairs (admit_to p t) t.size (omega arith) ∙ get_or-set_same t.order t.size p.left 64 (omega arith))
onto_at (p ∷ pairs) t (suc i) d h room =
    let e : t.size + suc i ≡ t.size + 1 + i = omega arith in
    rw e (onto_at pairs (admit_to p t) i d (omega arith) (omega (arith, length-set t.order t.size p.left)))

-- who is right in one
onto_rights : (pairs : List Pair) (t : Tables) (s : ℕ) → has (onto pairs t).rights s ≡ has t.rights s || is_right pairs s
onto_rights [] t s = sym (or-false (has t.rights s))
onto_rights (p ∷ pairs) t s =
    onto_rights pairs (admit_to p t) s
    ∙ ap (λ (test : Bool). test || is_right pairs s) (has_join t.rights (only p.right) s ∙ ap (λ (test : Bool). has t.rights s || test) (has_only p.right s))
    ∙ or_assoc (has t.rights s) (eqb p.right s) (is_right pairs s)

-- the partner in these pairs, or else what was there before
abbrev or_else : Option ℕ → ℕ → ℕ
or_else none other = other
or_else (some s) other = s

-- a statement from which all these lefts differ has no partner in them
pub no_partner : (s : ℕ) (pairs : List Pair) → Every (λ p. s ≡ p.left → ⊥) pairs → partner pairs s ≡ none
no_partner s [] e = refl
no_partner s (p ∷ pairs) e = ap (λ (test : Bool). chosen test p (partner pairs s)) (ne_eqb p.left s (λ f. e.0 (sym f))) ∙ no_partner s pairs e.1

onto_partner : (pairs : List Pair) (t : Tables) (s : ℕ) → Pairwise (λ p q. p.left ≡ q.left → ⊥) pairs → Every (λ p. p.left < length t.next) pairs
    → get_or (onto pairs t).next s 64 ≡ or_else (partner pairs s) (get_or t.next s 64)
onto_partner [] t s differ below = refl
onto_partner (p ∷ pairs) t s differ below = onto_partner pairs (admit_to p t) s differ.1 still ∙ either (eqb p.left s) refl
  where
    still : Every (λ q. q.left < length (set t.next p.left p.right)) pairs
    still = rw (length-set t.next p.left p.right) below.1

    either : (test : Bool) → eqb p.left s ≡ test
        → or_else (partner pairs s) (get_or (set t.next p.left p.right) s 64) ≡ or_else (chosen test p (partner pairs s)) (get_or t.next s 64)
    either true own =
        let e : s ≡ p.left = sym (eqb-true p.left s own) in
        rw (e, no_partner p.left pairs differ.0) (get_or-set_same t.next p.left p.right 64 below.0)
    either false other = ap (or_else (partner pairs s)) (get_or-set_other t.next p.left s p.right 64 (λ e. eqb-false p.left s other (sym e)))

-- no table has anything before the first pair
or_none_lem : (o : Option ℕ) (n : ℕ) → n ≡ 64 → or_else o n ≡ number_of o
or_none_lem none n e = e
or_none_lem (some s) n e = refl

-- what holds of every pair holds of each by its number, and its partner is found by its left
pub every_number : (P : Pair → Type 0) (pairs : List Pair) (i : ℕ) (d : Pair) → Every P pairs → i < length pairs → P (get_or pairs i d)
every_number P [] i d e h = absurd (omega arith)
every_number P (p ∷ pairs) zero d e h = e.0
every_number P (p ∷ pairs) (suc i) d e h = every_number P pairs i d e.1 (omega arith)

pub partner_of : (pairs : List Pair) (i : ℕ) (d : Pair) → Pairwise (λ p q. p.left ≡ q.left → ⊥) pairs → i < length pairs
    → partner pairs (get_or pairs i d).left ≡ some (get_or pairs i d).right
partner_of [] i d differ h = absurd (omega arith)
partner_of (p ∷ pairs) zero d differ h = ap (λ (test : Bool). chosen test p (partner pairs p.left)) (eq-eqb p.left p.left refl)
partner_of (p ∷ pairs) (suc i) d differ h =
    ap (λ (test : Bool). chosen test p (partner pairs (get_or pairs i d).left))
    (ne_eqb p.left (get_or pairs i d).left (every_number (λ q. p.left ≡ q.left → ⊥) pairs i d differ.0 (omega arith)))
    ∙ partner_of pairs i d differ.1 (omega arith)

-- the statements that are left in pairs
abbrev lefts : List Pair → List ℕ
lefts pairs = map (λ p. p.left) pairs

left_once : (s : ℕ) (pairs : List Pair) → Pairwise (λ p q. p.left ≡ q.left → ⊥) pairs → occurs s (lefts pairs) ≤ 1
left_once s [] differ = omega arith
left_once s (p ∷ pairs) differ = either (eqb s p.left) refl (left_once s pairs differ.1)
  where
    absent : (qs : List Pair) → Every (λ q. s ≡ q.left → ⊥) qs → occurs s (lefts qs) ≡ 0
    absent [] e = refl
    absent (q ∷ qs) e = occurs_other s q.left (lefts qs) e.0 ∙ absent qs e.1

    either : (test : Bool) → eqb s p.left ≡ test → occurs s (lefts pairs) ≤ 1 → pick test 1 0 + occurs s (lefts pairs) ≤ 1
    either true own later =
        let e : s ≡ p.left = eqb-true s p.left own in
        let none_other : occurs s (lefts pairs) ≡ 0 = absent pairs (rw e differ.0) in
        omega arith
    either false other later = omega arith

-- What needs nothing of the pairs: how many there are, and who is right in one.
pub tables_size : (pairs : List Pair) → (tables_of pairs).size ≡ length pairs
unfolding tables_of
tables_size pairs = onto_size pairs empty ∙ omega arith

pub rights_tied : (pairs : List Pair) (s : ℕ) → has (tables_of pairs).rights s ≡ is_right pairs s
unfolding tables_of
rights_tied pairs s = onto_rights pairs empty s ∙ ap (λ (test : Bool). test || is_right pairs s) (has_nobody s)

-- What rests on the pairs being admitted.
module _ (ss : List Statement) (pairs : List Pair) (known : Admitted ss pairs) where
  pub lefts_below : Every (λ p. p.left < length ss) pairs
  lefts_below = every_weaker (λ p j. j.apart.first) pairs known.sound

  pub rights_below : Every (λ p. p.right < length ss) pairs
  rights_below = every_weaker (λ p j. j.apart.second) pairs known.sound

  -- so there are no more pairs than statements
  pub pairs_few : length pairs ≤ length ss
  pairs_few =
      omega (
        arith,
        few_numbers (length ss) (lefts pairs) (lefts_in pairs lefts_below) (λ s h. left_once s pairs known.lefts_differ),
        length-map pairs (λ p. p.left),
      )
    where
      lefts_in : (qs : List Pair) → Every (λ p. p.left < length ss) qs → Every (λ s. s < length ss) (lefts qs)
      lefts_in [] e = tt
      lefts_in (q ∷ qs) e = (e.0, lefts_in qs e.1)

  module _ (few : length ss ≤ 64) where
    pub partners_tied : (s : ℕ) → get_or (tables_of pairs).next s 64 ≡ number_of (partner pairs s)
    unfolding tables_of
    partners_tied s =
        onto_partner pairs empty s known.lefts_differ (every_weaker (λ p h. omega (arith, h)) pairs lefts_below)
        ∙ or_none_lem (partner pairs s) (get_or (replicate 64 64) s 64) (replicate_at 64 s 64)

    pub tables_paired : Paired pairs (tables_of pairs).next (tables_of pairs).rights
    tables_paired = record { partners = partners_tied; are_right = rights_tied pairs }

    pub order_at : (i : ℕ) (d : Pair) → i < length pairs → get_or (tables_of pairs).order i 64 ≡ (get_or pairs i d).left
    unfolding tables_of
    order_at i d h = ap (λ (k : ℕ). get_or (onto pairs empty).order k 64) (omega arith) ∙ onto_at pairs empty i d h (omega (arith, pairs_few))

    pub next_at : (i : ℕ) (d : Pair) → i < length pairs → get_or (tables_of pairs).next (get_or (tables_of pairs).order i 64) 64 ≡ (get_or pairs i d).right
    next_at i d h = rw (order_at i d h) (partners_tied (get_or pairs i d).left ∙ ap number_of (partner_of pairs i d known.lefts_differ h))
