-- Lines of statement numbers, and sections of lines under a heading.
use Rattle.std.specs.Prelude.{ℕ, zero, suc, ◌+◌, List, [], ◌∷◌, ◌++◌, map}
use Rattle.basics.specs.Lists.{flat}
use Rattle.text.specs.Text.{words, decimal, no_line}

abbrev pub number_text : ℕ → List ℕ
number_text n = words " " ++ decimal n

abbrev pub numbers_text : List ℕ → List ℕ
numbers_text ns = flat (map number_text ns)

-- statement numbers in a line: two spaces, then a space between two of them
abbrev pub numbers_line : List ℕ → List ℕ
numbers_line ns = words " " ++ numbers_text ns ++ words "\n"

-- what is said at i, i + 1, .. , k of them, one behind the other
unfoldable pub each_from : ℕ → ℕ → (ℕ → List ℕ) → List ℕ
each_from zero i said = []
each_from (suc k) i said = said i ++ each_from k (i + 1) said

-- lines, or the line that says that there is none
abbrev pub or_none : List ℕ → List ℕ
or_none [] = no_line
or_none (byte ∷ bytes) = byte ∷ bytes

abbrev pub section : List ℕ → List ℕ → List ℕ
section heading lines = heading ++ or_none lines
