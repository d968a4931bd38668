-- A comparison as it is printed, computed from its definition: worked block 5 with both variables live out, and contents. No line is marked.
use mathlib.Core.Path.{◌≡◌, refl}
use mathlib.Core.List.{List, ◌++◌}
use Prim.Native.Nat.{ℕ}
use Rattle.meaning.specs.Format.{bytes_of}
use Rattle.meaning.proofs.Computes.{everything}
use Rattle.beside.specs.Same.{same_numbers, same_ends}
use Rattle.beside.specs.Beside.{list_run, side_by_side}
use Rattle.text.specs.Text.{words, spelled, column}
use Rattle.named.specs.Names.{place_text}
use Rattle.ends.specs.Line.{name_text, numbers_text, line_end, line, place_line}
use Rattle.ends.specs.Places.{in_turn, cell_lines, variable_lines}
use Rattle.comparison.specs.Input.{numbers_in}
use Rattle.comparison.specs.Lines.{run_line, verdict, beside_text, compared_on}
use Rattle.comparison.specs.Compared.{room, sized_text, compared}

-- the block's bytes, then two variables and six cells
abbrev block_five : List ℕ
block_five = bytes_of 89 0x01003902020304_000200020002_09010100020000020100090101010200010201010b07020200010000000000010b0702020101010000000001_00000007_00000008_00000001_00000002_0000000a_00000015_00000064_ffffffff

pub worked_comparison :
    compared block_five
    ≡ words "block: status 0, price 10\n"
    ++ words "list: status 0, price 8\n"
    ++ words "              start       block        list\n"
    ++ words "A0[0]             1           1           1\n"
    ++ words "A0[1]             2           2           2\n"
    ++ words "A1[0]            10          10          10\n"
    ++ words "A1[1]            21          21          21\n"
    ++ words "A2[0]           100           5           5\n"
    ++ words "A2[1]    4294967295          11          11\n"
    ++ words "V0                7          11          11\n"
    ++ words "V1                8          23          23\n"
    ++ words "Every cell and every live-out variable ends alike.\n"
unfolding
    everything
    same_numbers same_ends list_run side_by_side
    spelled column place_text
    name_text numbers_text line_end line place_line
    in_turn cell_lines variable_lines
    numbers_in
    run_line verdict beside_text compared_on
    room sized_text compared
worked_comparison = refl
