-- The admitted pairs as tables. They are a function of the list of pairs (`tables_of`), so that what a phase answers is said of the list.
use Rattle.std.specs.Prelude.{ℕ, zero, suc, ◌+◌, Bool, true, false, ◌&&◌, not, List, eqb, ltb, get_or, set, replicate}
use Rattle.basics.specs.Choice.{pick}
use Rattle.basics.specs.Counting.{count}
use Rattle.basics.specs.Lists.{each}
use Rattle.basics.specs.Sets.{nobody, only, join, has}
use Rattle.meaning.specs.declared.Statement.{Statement}
use Rattle.meaning.specs.Block.{statement}
use Rattle.meaning.specs.Pairs.{Pair}
use Rattle.rows.specs.Walk.{walk}
use Rattle.codes.specs.Codes.{place_code, operand_code, is_cell_code}
use Rattle.facts.specs.Facts.{fact_at}
use Rattle.facts.specs.Places.{naming}
use Rattle.reach.specs.Rows.{no_path}
use Rattle.pairs.specs.declared.Admitted.{Admitted}

-- those that are left in a pair, in order of admission; for each of them the one that is right in it, else 64; how many pairs; all that are right in one
pub record Tables : Type 0 where
  pub order : List ℕ
  pub next : List ℕ
  pub size : ℕ
  pub rights : ℕ

abbrev pub tables : List ℕ → List ℕ → ℕ → ℕ → Tables
tables order next size rights = record { order = order; next = next; size = size; rights = rights }

-- and as the code has them
abbrev pub admitted_tables : Admitted → Tables
admitted_tables a = tables a.order a.next a.count a.rights

abbrev pub empty : Tables
empty = record { order = replicate 64 64; next = replicate 64 64; size = 0; rights = nobody }

abbrev pub admit_to : Pair → Tables → Tables
admit_to p t =
    record {
      order = set t.order t.size p.left;
      next = set t.next p.left p.right;
      size = t.size + 1;
      rights = join t.rights (only p.right);
    }

unfoldable pub tables_of : List Pair → Tables
tables_of pairs = each admit_to pairs empty

-- a chain of admitted pairs leads from one statement to another
unfoldable pub leads_to : ℕ → List ℕ → ℕ → ℕ → Bool
leads_to zero next from to = false
leads_to (suc n) next from to =
    elim (eqb (get_or next from 64) to) [
      | true ↦ true
      | false ↦ elim (eqb (get_or next from 64) 64) [ true ↦ false | false ↦ leads_to n next (get_or next from 64) to ]
    ]

abbrev pub may_join : Tables → ℕ → ℕ → Bool
may_join t s u = eqb (get_or t.next s 64) 64 && (not (has t.rights u) && not (leads_to t.size t.next u s))

-- `is_admitted`
abbrev pub admitted_in : List ℕ → ℕ → ℕ → Bool
admitted_in next s t = ltb s 64 && (ltb t 64 && eqb (get_or next s 64) t)

-- "A pair (s, t) may be admitted if .."
abbrev pub may_pair : List ℕ → List ℕ → Tables → ℕ → ℕ → Bool
may_pair facts reached t s u = eqb (fact_at facts 192 s) (fact_at facts 192 u) && (no_path reached s u && may_join t s u)

-- the first of a set with which s may be paired, or 64
abbrev pub first_admitted : List ℕ → List ℕ → Tables → ℕ → ℕ → ℕ
first_admitted facts reached t s candidates =
    walk 64 candidates (λ u found. pick (eqb found 64 && may_pair facts reached t s u) u found) 64

-- the statements that have in a position the cell one above this code's, and that have one in some position
abbrev pub cells_above : List ℕ → List ℕ → ℕ → ℕ
cells_above numbers named code = pick (is_cell_code code) (naming numbers named (code + 1)) nobody

abbrev pub neighbours_of : Statement → List ℕ → List ℕ → List ℕ → List ℕ → ℕ
neighbours_of s numbers writers lefts rights =
    join (join (cells_above numbers writers (place_code s.destination)) (cells_above numbers lefts (operand_code s.left)))
    (cells_above numbers rights (operand_code s.right))

abbrev pub seed_tables : List ℕ → List ℕ → ℕ → ℕ → Tables → Tables
seed_tables facts reached s candidates t =
    let u = first_admitted facts reached t s candidates in
    pick (eqb u 64) t (admit_to (record { left = s; right = u }) t)

unfoldable pub seeded_tables : List Statement → ℕ → List ℕ → List ℕ → List ℕ → List ℕ → List ℕ → List ℕ → Tables → Tables
seeded_tables ss n facts reached numbers writers lefts rights t =
    count n 0 (λ s. seed_tables facts reached s (neighbours_of (statement ss s) numbers writers lefts rights)) t
