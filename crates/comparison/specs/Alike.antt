-- The comparison of runs that end alike: the same end in both columns, no mark, and the words that say so.
use Rattle.std.specs.Prelude.{ℕ, List, ◌++◌}
use Rattle.meaning.specs.declared.Place.{Place}
use Rattle.meaning.specs.Machine.{Contents, fetch_place}
use Rattle.text.specs.Text.{words}
use Rattle.ends.specs.Line.{name_text, numbers_text}
use Rattle.ends.specs.Places.{cell_lines, variable_lines}
use Rattle.comparison.specs.Lines.{run_line, heading}

unfoldable pub plain_line : List ℕ → Contents → Contents → Place → List ℕ
plain_line lengths start end p =
    name_text p ++ numbers_text (fetch_place lengths start p) (fetch_place lengths end p) (fetch_place lengths end p) ++ words "\n"

unfoldable pub alike_text : List ℕ → ℕ → Contents → ℕ → ℕ → Contents → List ℕ
alike_text lengths live start block_price list_price end =
    run_line (words "block: status ") 0 block_price
    ++ run_line (words "list: status ") 0 list_price
    ++ heading
    ++ cell_lines (plain_line lengths start end) 0 lengths
    ++ variable_lines (plain_line lengths start end) live
    ++ words "Every cell and every live-out variable ends alike.\n"
