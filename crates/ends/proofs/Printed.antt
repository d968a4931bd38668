-- Lines as they are printed: a place whose ends are the same, and one whose ends differ.
use mathlib.Core.Path.{◌≡◌, refl}
use Rattle.meaning.specs.declared.Place.TheVariants.{Variable, Cell}
use Rattle.text.specs.Text.{words, spelled, column}
use Rattle.named.specs.Names.{place_text}
use Rattle.ends.specs.Line.{name_text, numbers_text, line_end, line}

pub printed_lines :
    (line (Cell 0 3) 1 12 12 ≡ words "A0[3]             1          12          12\n")
    × (line (Variable 31) 4294967295 0 1 ≡ words "V31      4294967295           0           1  *\n")
unfolding line name_text numbers_text line_end place_text column spelled
printed_lines = (refl, refl)
