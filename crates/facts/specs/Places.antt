-- Places by number, and for each place the statements that name it.
use Rattle.std.specs.Prelude.{ℕ, ◌+◌, ◌||◌, List, eqb, leb, length, get_or, set}
use Rattle.basics.specs.Choice.{pick}
use Rattle.basics.specs.Counting.{count}
use Rattle.basics.specs.Sets.{only, join}
use Rattle.facts.specs.Facts.{fact_at}

-- the numbers by code, the statements that name each place by number, and how many numbers are given
pub record Named : Type 0 where
  pub numbers : List ℕ
  pub named : List ℕ
  pub given : ℕ

abbrev pub named_tables : List ℕ → List ℕ → ℕ → Named
named_tables numbers named given = record { numbers = numbers; named = named; given = given }

abbrev pub join_at : List ℕ → ℕ → ℕ → List ℕ
join_at table i s = set table i (join (get_or table i 0) s)

-- statement i names the place: a number for it if it has none yet
abbrev pub name_place : ℕ → ℕ → Named → Named
name_place code i t =
    pick (eqb code 0 || leb (length t.numbers) code) t
    (pick (eqb (get_or t.numbers code 0) 0)
    (record { numbers = set t.numbers code (t.given + 1); named = join_at t.named (t.given + 1) (only i); given = t.given + 1 })
    (record { numbers = t.numbers; named = join_at t.named (get_or t.numbers code 0) (only i); given = t.given }))

unfoldable pub name_places : List ℕ → ℕ → ℕ → Named → Named
name_places facts column n t = count n 0 (λ i. name_place (fact_at facts column i) i) t

-- the statements that name what the code stands for
abbrev pub naming : List ℕ → List ℕ → ℕ → ℕ
naming numbers named code = get_or named (get_or numbers code 0) 0
