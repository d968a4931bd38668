-- The same lines over the tables that the phases leave, step for step as the code puts them.
use Rattle.std.specs.Prelude.{ℕ, zero, suc, ◌+◌, Bool, true, false, List, [], ◌∷◌, eqb, ltb, get_or, take}
use Rattle.basics.specs.Choice.{pick}
use Rattle.basics.specs.Sets.{has}
use Rattle.units.specs.declared.Unit.{Unit as Lanes}
use Rattle.units.specs.Lanes.{word_lanes}
use Rattle.account_units.specs.Lines.{numbers_line, each_from}

-- pair number i: who is left in it, and the partner
abbrev pub pair_line : List ℕ → List ℕ → ℕ → List ℕ
pair_line order next i = numbers_line (get_or order i 64 ∷ get_or next (get_or order i 64) 64 ∷ [])

abbrev pub pair_lines_in : List ℕ → List ℕ → ℕ → List ℕ
pair_lines_in order next size = each_from size 0 (pair_line order next)

-- the chain from s on, along at most so many pairs
unfoldable pub chain_in : ℕ → List ℕ → ℕ → List ℕ
chain_in zero next s = s ∷ []
chain_in (suc k) next s = s ∷ elim (eqb (get_or next s 64) 64) [ true ↦ [] | false ↦ chain_in k next (get_or next s 64) ]

-- a longest chain begins at s if s is right in no pair and has a partner
abbrev pub chain_line : List ℕ → ℕ → ℕ → ℕ → List ℕ
chain_line next rights size s = pick (has rights s) [] (pick (eqb (get_or next s 64) 64) [] (numbers_line (chain_in size next s)))

abbrev pub chain_lines_in : List ℕ → ℕ → ℕ → ℕ → List ℕ
chain_lines_in next rights size n = each_from n 0 (chain_line next rights size)

-- a unit by value, and by its word
abbrev pub unit_numbers : Lanes → List ℕ
unit_numbers unit = take unit.count unit.lanes

abbrev pub word_line : ℕ → List ℕ
word_line word = numbers_line (unit_numbers (word_lanes word))

-- the unit that goes by s, if one waits there and is a pack
abbrev pub pack_line : List ℕ → ℕ → ℕ → List ℕ
pack_line table waiting s = pick (has waiting s) (pick (ltb 1 (word_lanes (get_or table s 0)).count) (word_line (get_or table s 0)) []) []

abbrev pub pack_lines_in : List ℕ → ℕ → List ℕ
pack_lines_in table waiting = each_from 64 0 (pack_line table waiting)

abbrev pub schedule_lines_in : List ℕ → ℕ → List ℕ
schedule_lines_in scheduled size = each_from size 0 (λ i. word_line (get_or scheduled i 0))

-- a word is among k of a table, from number i on
unfoldable pub among_from : ℕ → ℕ → List ℕ → ℕ → Bool
among_from zero i scheduled word = false
among_from (suc k) i scheduled word = elim (eqb (get_or scheduled i 0) word) [ true ↦ true | false ↦ among_from k (i + 1) scheduled word ]

-- that unit, if it is not in the schedule
abbrev pub dissolved_line : List ℕ → ℕ → List ℕ → ℕ → ℕ → List ℕ
dissolved_line table waiting scheduled size s = pick (among_from size 0 scheduled (get_or table s 0)) [] (pack_line table waiting s)

abbrev pub dissolved_lines_in : List ℕ → ℕ → List ℕ → ℕ → List ℕ
dissolved_lines_in table waiting scheduled size = each_from 64 0 (dissolved_line table waiting scheduled size)
