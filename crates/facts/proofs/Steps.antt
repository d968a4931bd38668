-- One place named, case by case, as the tables are left; and a column before its first statement, and with one statement more.
use mathlib.Core.Path.{◌≡◌, refl, ap, ◌∙◌}
use mathlib.Core.List.{List}
use Prim.Native.Nat.{ℕ, suc, ◌+◌, ◌≤◌, ◌<◌}
use native.Mathlib.Nat.{zero-add}
use native.Mathlib.Omega.{arith}
use lib.Dec.{eqb, leb}
use lib.ListN.{length, get_or, set}
use borrow.Author.Tests.{le-leb, lt-leb, eq-eqb, ne_eqb}
use Rattle.basics.specs.Sets.{only}
use Rattle.basics.proofs.Counting.{count_last}
use Rattle.basics.proofs.Tests.{or_right}
use Rattle.basics.specs.Counting.{count}
use Rattle.meaning.specs.declared.Statement.{Statement}
use Rattle.meaning.specs.Block.{statement}
use Rattle.facts.specs.Facts.{fact_at, state_facts, stated_facts}
use Rattle.facts.specs.Places.{Named, named_tables, join_at, name_place, name_places}

-- a count with one number more
pub one_more : {A : Type 0} (f : ℕ → A → A) (n : ℕ) (a : A) → count (n + 1) 0 f a ≡ f n (count n 0 f a)
one_more f n a = let e : n + 1 ≡ suc n = omega arith in rw e (count_last f n 0 a ∙ ap (λ (k : ℕ). f k (count n 0 f a)) (zero-add n))

module _ (code i : ℕ) (numbers named : List ℕ) (given : ℕ) where
  -- what is no place changes nothing
  pub names_nothing : code ≡ 0 → name_place code i (named_tables numbers named given) ≡ named_tables numbers named given
  names_nothing none = rw (eq-eqb code 0 none)

  pub names_beyond : length numbers ≤ code → name_place code i (named_tables numbers named given) ≡ named_tables numbers named given
  names_beyond beyond = rw (or_right (eqb code 0) (leb (length numbers) code) (le-leb (length numbers) code beyond))

  module _ (some : code ≡ 0 → ⊥) (within : code < length numbers) where
    -- a place that has a number
    pub names_again : (get_or numbers code 0 ≡ 0 → ⊥)
        → name_place code i (named_tables numbers named given) ≡ named_tables numbers (join_at named (get_or numbers code 0) (only i)) given
    names_again known = rw (ne_eqb code 0 some, lt-leb (length numbers) code within, ne_eqb (get_or numbers code 0) 0 known)

    -- a place that has none yet
    pub names_first : get_or numbers code 0 ≡ 0
        → name_place code i (named_tables numbers named given) ≡ named_tables (set numbers code (given + 1)) (join_at named (given + 1) (only i)) (given + 1)
    names_first new = rw (ne_eqb code 0 some, lt-leb (length numbers) code within, eq-eqb (get_or numbers code 0) 0 new)

-- a column before its first statement, and with one statement more
pub stated_none : (ss : List Statement) (facts : List ℕ) → stated_facts ss 0 facts ≡ facts
unfolding stated_facts
stated_none ss facts = refl

pub stated_more : (ss : List Statement) (n : ℕ) (facts : List ℕ) → stated_facts ss (n + 1) facts ≡ state_facts n (statement ss n) (stated_facts ss n facts)
unfolding stated_facts
stated_more ss n facts = one_more (λ i. state_facts i (statement ss i)) n facts

pub named_none : (facts : List ℕ) (column : ℕ) (t : Named) → name_places facts column 0 t ≡ t
unfolding name_places
named_none facts column t = refl

pub named_more : (facts : List ℕ) (column n : ℕ) (t : Named) → name_places facts column (n + 1) t ≡ name_place (fact_at facts column n) n (name_places facts column n t)
unfolding name_places
named_more facts column n t = one_more (λ i. name_place (fact_at facts column i) i) n t
