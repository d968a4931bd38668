-- The lines of pairs and chains over the tables of the admitted pairs are those of the list of pairs.
use mathlib.Core.Path.{◌≡◌, refl, ap, ap₂, ◌∙◌}
use mathlib.Core.Bool.{Bool, true, false, ◌&&◌, not}
use mathlib.Core.Option.{Option, none, some}
use mathlib.Core.List.{List, [], ◌∷◌}
use Prim.Native.Nat.{ℕ, zero, suc, ◌≤◌, ◌<◌}
use native.Mathlib.Nat.{zero-add}
use native.Mathlib.Omega.{arith}
use lib.Dec.{eqb}
use lib.ListN.{length, get_or}
use borrow.Author.Tests.{ne_eqb}
use Rattle.basics.specs.Choice.{pick}
use Rattle.basics.specs.Sets.{has}
use Rattle.meaning.specs.declared.Statement.{Statement}
use Rattle.meaning.specs.Pairs.{Pair, pair, is_left, is_right, partner, chain_along, chain}
use Rattle.theorems.specs.Units.{Every}
use Rattle.theorems.proofs.Occurs.{every_weaker}
use Rattle.theorems.proofs.Pairs.{Admitted}
use Rattle.theorems.proofs.Chains.{partner_related}
use Rattle.reach.specs.Tied.{number_of}
use Rattle.pairs.specs.Admission.{Tables, tables_of}
use Rattle.pairs.specs.Tied.{Paired}
use Rattle.pairs.proofs.Tables.{tables_size, order_at, next_at, rights_below, tables_paired}
use Rattle.pairs.proofs.Leading.{left_free}
use Rattle.account_units.specs.Lines.{numbers_line}
use Rattle.account_units.specs.Sections.{pair_lines, chain_lines}
use Rattle.account_units.specs.InTables.{pair_line, pair_lines_in, chain_in, chain_line, chain_lines_in}
use Rattle.account_units.proofs.Listing.{each_same, each_listed}

-- the chain along the table is the chain of pairs, also where it is cut short
module _ (pairs : List Pair) (table : List ℕ) (partners : (s : ℕ) → get_or table s 64 ≡ number_of (partner pairs s)) (below : Every (λ p. p.right < 64) pairs) where
  abbrev onward : ℕ → ℕ → List ℕ
  onward n at = elim (eqb at 64) [ true ↦ [] | false ↦ chain_in n table at ]

  chain_tied : (n s : ℕ) → chain_in n table s ≡ chain_along n pairs s
  unfolding chain_in
  chain_tied zero s = refl
  chain_tied (suc n) s = ap {B = List ℕ} (λ rest. s ∷ rest) (ap (onward n) (partners s) ∙ either (partner pairs s) refl (λ t. chain_tied n t))
    where
      either : (o : Option ℕ) → partner pairs s ≡ o → ((t : ℕ) → chain_in n table t ≡ chain_along n pairs t)
          → onward n (number_of o) ≡ elim o [ none ↦ [] | some t ↦ chain_along n pairs t ]
      either none e later = refl
      either (some t) e later =
          rw (ne_eqb t 64 (λ f. omega (arith, partner_related (λ l r. r < 64) pairs s t below e)), onward) (later t)

  whole_chain : (s : ℕ) → chain_in (length pairs) table s ≡ chain pairs s
  unfolding chain
  whole_chain s = chain_tied (length pairs) s

  tests : (left right : Bool) (line : List ℕ) → pick right [] (pick (not left) [] line) ≡ pick (left && not right) line []
  tests true true line = refl
  tests true false line = refl
  tests false true line = refl
  tests false false line = refl

  chain_line_lem : (rights : ℕ) → ((s : ℕ) → has rights s ≡ is_right pairs s) → (s : ℕ)
      → chain_line table rights (length pairs) s ≡ pick (is_left pairs s && not (is_right pairs s)) (numbers_line (chain pairs s)) []
  chain_line_lem rights are_right s =
      ap₂ (λ (right free : Bool). pick right [] (pick free [] (numbers_line (chain_in (length pairs) table s)))) (are_right s)
      (left_free pairs table partners below s)
      ∙ ap (λ (ns : List ℕ). pick (is_right pairs s) [] (pick (not (is_left pairs s)) [] (numbers_line ns))) (whole_chain s)
      ∙ tests (is_left pairs s) (is_right pairs s) (numbers_line (chain pairs s))

module _ (ss : List Statement) (pairs : List Pair) (known : Admitted ss pairs) (few : length ss ≤ 64) (t : Tables) (tied : t ≡ tables_of pairs) where
  -- The pairs, in order of admission.
  pub pairs_told : pair_lines_in t.order t.next t.size ≡ pair_lines pairs
  pairs_told =
      let of = tables_of pairs in
      ap (λ (u : Tables). pair_lines_in u.order u.next u.size) tied
      ∙ ap (λ (k : ℕ). pair_lines_in of.order of.next k) (tables_size pairs)
      ∙ each_listed (pair_line of.order of.next) (λ p. numbers_line (p.left ∷ p.right ∷ [])) (pair 0 0) pairs 0
      (λ j h.
      ap (pair_line of.order of.next) (zero-add j)
      ∙ ap₂ (λ (s t : ℕ). numbers_line (s ∷ t ∷ [])) (order_at ss pairs known few j (pair 0 0) h) (next_at ss pairs known few j (pair 0 0) h))

  -- The chains of a block of n statements, by their first one.
  pub chains_told : (n : ℕ) → chain_lines_in t.next t.rights t.size n ≡ chain_lines n pairs
  unfolding chain_lines
  chains_told n =
      let of = tables_of pairs in
      let paired : Paired pairs of.next of.rights = tables_paired ss pairs known few in
      let below : Every (λ p. p.right < 64) pairs = every_weaker (λ p h. omega (arith, h)) pairs (rights_below ss pairs known) in
      ap (λ (u : Tables). chain_lines_in u.next u.rights u.size n) tied
      ∙ ap (λ (k : ℕ). chain_lines_in of.next of.rights k n) (tables_size pairs)
      ∙ each_same (chain_line of.next of.rights (length pairs)) _ n 0
      (λ s low high. chain_line_lem pairs of.next paired.partners below of.rights paired.are_right s)
