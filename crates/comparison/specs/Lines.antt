-- The comparison as text: status and price of each run, a line for each cell and each live-out variable, and what they come to in words.
use Rattle.std.specs.Prelude.{ℕ, Bool, List, ◌++◌}
use Rattle.basics.specs.Choice.{pick}
use Rattle.meaning.specs.Machine.{Contents}
use Rattle.beside.specs.Beside.{SideBySide, side_by_side}
use Rattle.text.specs.Text.{words, decimal, field}
use Rattle.ends.specs.Line.{place_line}
use Rattle.ends.specs.Places.{cell_lines, variable_lines}

unfoldable pub run_line : List ℕ → ℕ → ℕ → List ℕ
run_line whose status price = whose ++ decimal status ++ words ", price " ++ field price 10

abbrev pub heading : List ℕ
heading = words "              start       block        list\n"

-- "a last line that says the same in words"
unfoldable pub verdict : Bool → List ℕ
verdict same = pick same (words "Every cell and every live-out variable ends alike.\n") (words "They differ where a line is marked.\n")

-- the whole of it, for arrays of these lengths and so many live-out variables
unfoldable pub beside_text : List ℕ → ℕ → Contents → SideBySide → List ℕ
beside_text lengths live start s =
    run_line (words "block: status ") s.block s.block_paid
    ++ run_line (words "list: status ") s.list s.list_paid
    ++ heading
    ++ cell_lines (place_line lengths start s.block_left s.list_left) 0 lengths
    ++ variable_lines (place_line lengths start s.block_left s.list_left) live
    ++ verdict s.same

-- of block and list on the same contents; the list is made in this room
unfoldable pub compared_on : List ℕ → ℕ → List ℕ → List ℕ → Contents → List ℕ
compared_on lengths live bytes room start = beside_text lengths live start (side_by_side bytes room start start)
