-- What is told of the pairs, the chains, the packs and the schedule of a block: a section each.
use Rattle.std.specs.Prelude.{ℕ, Bool, true, false, ◌&&◌, not, List, [], ◌∷◌, map, eqb}
use Rattle.basics.specs.Choice.{pick}
use Rattle.basics.specs.Lists.{any, keep, flat}
use Rattle.meaning.specs.Pairs.{Pair, is_left, is_right, chain}
use Rattle.meaning.specs.Schedule.{lowest, is_pack}
use Rattle.text.specs.Text.{words}
use Rattle.account_units.specs.Lines.{numbers_line, each_from, section}

-- units, a line each
abbrev pub unit_lines : List (List ℕ) → List ℕ
unit_lines units = flat (map numbers_line units)

-- the admitted pairs, in order of admission
abbrev pub pair_lines : List Pair → List ℕ
pair_lines pairs = flat (map (λ p. numbers_line (p.left ∷ p.right ∷ [])) pairs)

-- the longest chains of two statements or more, of a block of n statements, by their first statement
unfoldable pub chain_lines : ℕ → List Pair → List ℕ
chain_lines n pairs = each_from n 0 (λ s. pick (is_left pairs s && not (is_right pairs s)) (numbers_line (chain pairs s)) [])

-- the packs among some units, by lowest statement number
unfoldable pub pack_lines : List (List ℕ) → List ℕ
pack_lines units = each_from 64 0 (λ s. unit_lines (keep (λ unit. eqb (lowest unit) s && is_pack unit) units))

-- the units of the schedule, in order
abbrev pub schedule_lines : List (List ℕ) → List ℕ
schedule_lines scheduled = unit_lines scheduled

-- the packs that were dissolved: those that combination made and that are not in the schedule
abbrev pub same_unit : List ℕ → List ℕ → Bool
same_unit [] [] = true
same_unit [] (t ∷ ts) = false
same_unit (s ∷ ss) [] = false
same_unit (s ∷ ss) (t ∷ ts) = eqb s t && same_unit ss ts

abbrev pub dissolved_lines : List (List ℕ) → List (List ℕ) → List ℕ
dissolved_lines units scheduled = pack_lines (keep (λ unit. not (any (same_unit unit) scheduled)) units)

-- the sections, with their headings
abbrev pub pairs_heading : List ℕ
pairs_heading = words "Admitted pairs, in order:\n"

abbrev pub chains_heading : List ℕ
chains_heading = words "Chains:\n"

abbrev pub packs_heading : List ℕ
packs_heading = words "Packs:\n"

abbrev pub schedule_heading : List ℕ
schedule_heading = words "Schedule:\n"

abbrev pub dissolved_heading : List ℕ
dissolved_heading = words "Dissolved packs:\n"

abbrev pub pair_section : List Pair → List ℕ
pair_section pairs = section pairs_heading (pair_lines pairs)

abbrev pub chain_section : ℕ → List Pair → List ℕ
chain_section n pairs = section chains_heading (chain_lines n pairs)

abbrev pub pack_section : List (List ℕ) → List ℕ
pack_section units = section packs_heading (pack_lines units)

abbrev pub schedule_section : List (List ℕ) → List ℕ
schedule_section scheduled = section schedule_heading (schedule_lines scheduled)

abbrev pub dissolved_section : List (List ℕ) → List (List ℕ) → List ℕ
dissolved_section units scheduled = section dissolved_heading (dissolved_lines units scheduled)
