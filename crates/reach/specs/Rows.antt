-- What each statement depends on, all that paths lead to, last definitions and readers, read from the tables of places.
use Rattle.std.specs.Prelude.{ℕ, ◌+◌, ◌-◌, ◌^◌, List, Bool, ◌&&◌, not, eqb, ltb, length, get_or, set, replicate}
use Rattle.std.specs.Int.Bits.{bit_and}
use Rattle.basics.specs.Choice.{pick}
use Rattle.basics.specs.Counting.{count}
use Rattle.basics.specs.Sets.{only, join, has}
use Rattle.meaning.specs.declared.Statement.{Statement}
use Rattle.meaning.specs.Block.{statement}
use Rattle.rows.specs.Walk.{walk, highest}
use Rattle.codes.specs.Codes.{place_code, operand_code, is_variable_code}
use Rattle.facts.specs.declared.Tables.{Tables}
use Rattle.facts.specs.Facts.{fact_at}
use Rattle.facts.specs.Filled.{with_facts, with_places}
use Rattle.facts.specs.Places.{naming}

-- what a statement depends on: of those before it, the ones that write what it reads, read what it writes, or write the same place
abbrev pub direct_row : Statement → ℕ → List ℕ → List ℕ → List ℕ → List ℕ → ℕ
direct_row s i numbers writers lefts rights =
    bit_and
    (join (join (naming numbers writers (operand_code s.left)) (naming numbers writers (operand_code s.right)))
    (join (join (naming numbers lefts (place_code s.destination)) (naming numbers rights (place_code s.destination)))
    (naming numbers writers (place_code s.destination))))
    (2 ^ i - 1)

unfoldable pub direct_rows : List Statement → ℕ → List ℕ → List ℕ → List ℕ → List ℕ → List ℕ
direct_rows ss n numbers writers lefts rights =
    count n 0 (λ i rows. set rows i (direct_row (statement ss i) i numbers writers lefts rights)) (replicate 64 0)

-- and all that paths lead to from it
abbrev pub reached_from : ℕ → List ℕ → ℕ
reached_from direct reached = walk 64 direct (λ e row. join row (get_or reached e 0)) direct

unfoldable pub reached_rows : List ℕ → ℕ → List ℕ
reached_rows direct n = count n 0 (λ i reached. set reached i (reached_from (get_or direct i 0) reached)) (replicate 64 0)

-- no path joins the two, which differ
abbrev pub no_path : List ℕ → ℕ → ℕ → Bool
no_path reached s t = not (eqb s t) && (not (has (get_or reached s 0) t) && not (has (get_or reached t 0) s))

-- the last definition before the reader, 64 where there is none
abbrev pub last_definition : ℕ → ℕ → List ℕ → List ℕ → ℕ
last_definition code reader numbers writers =
    pick (is_variable_code code) (highest (bit_and (naming numbers writers code) (2 ^ reader - 1))) 64

abbrev pub define_operands : List ℕ → List ℕ → ℕ → List ℕ → List ℕ
define_operands numbers writers i facts =
    set (set facts (320 + i) (last_definition (fact_at facts 64 i) i numbers writers)) (384 + i)
    (last_definition (fact_at facts 128 i) i numbers writers)

unfoldable pub with_definitions : ℕ → List ℕ → List ℕ → List ℕ → List ℕ
with_definitions n numbers writers facts = count n 0 (define_operands numbers writers) facts

-- the readers of each statement's result, from the columns of definitions
abbrev pub add_reader : ℕ → ℕ → List ℕ → List ℕ
add_reader defined reader facts =
    pick (ltb defined 64) (set facts (448 + defined) (join (get_or facts (448 + defined) 0) (only reader))) facts

abbrev pub add_readers : ℕ → List ℕ → List ℕ
add_readers i facts =
    let after = add_reader (fact_at facts 320 i) i facts in
    add_reader (fact_at after 384 i) i after

unfoldable pub with_readers : ℕ → List ℕ → List ℕ
with_readers n facts = count n 0 add_readers facts

-- the tables with those columns filled, the rest of them as it was
abbrev pub tables_with_definitions : ℕ → Tables → Tables
tables_with_definitions n t = record t { facts = with_definitions n t.numbers t.writers t.facts }

abbrev pub tables_with_readers : ℕ → Tables → Tables
tables_with_readers n t = record t { facts = with_readers n t.facts }

-- all that is filled in from the statements, one after the other
abbrev pub filled_tables : List Statement → Tables → Tables
filled_tables ss t = tables_with_readers (length ss) (tables_with_definitions (length ss) (with_places (length ss) (with_facts ss t)))
