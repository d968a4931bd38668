-- The line of a place: its name, its start, the block's end and the list's end, and "a mark where they differ".
use Rattle.std.specs.Prelude.{ℕ, ◌-◌, List, ◌++◌, eqb, length}
use Rattle.basics.specs.Choice.{pick}
use Rattle.meaning.specs.declared.Place.{Place}
use Rattle.meaning.specs.Machine.{Contents, fetch_place}
use Rattle.text.specs.Text.{words, spaces, column}
use Rattle.named.specs.Names.{place_text}

-- a place's name at the left end of a column
unfoldable pub name_text : Place → List ℕ
name_text p = place_text p ++ spaces (7 - length (place_text p))

-- its start, the block's end and the list's end
unfoldable pub numbers_text : ℕ → ℕ → ℕ → List ℕ
numbers_text start block list = column 12 start ++ column 12 block ++ column 12 list

-- "a mark where they differ"
unfoldable pub line_end : ℕ → ℕ → List ℕ
line_end block list = pick (eqb block list) (words "\n") (words "  *\n")

unfoldable pub line : Place → ℕ → ℕ → ℕ → List ℕ
line p start block list = name_text p ++ numbers_text start block list ++ line_end block list

-- the line of a place, from the contents at the start and at both ends
unfoldable pub place_line : List ℕ → Contents → Contents → Contents → Place → List ℕ
place_line lengths start block list p = line p (fetch_place lengths start p) (fetch_place lengths block p) (fetch_place lengths list p)
