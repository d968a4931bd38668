-- How long the text is at most, so that the buffer of the program is large enough: 107 bytes a line, and 2,080 lines.
use mathlib.Core.Path.{◌≡◌, refl}
use mathlib.Core.Bool.{Bool, true, false}
use mathlib.Core.List.{List, [], ◌∷◌, ◌++◌}
use Prim.Native.Nat.{ℕ, zero, suc, ◌+◌, ◌*◌, ◌-◌, ◌≤◌}
use native.Mathlib.Omega.{arith}
use borrow.Author.Tests.{leb-true}
use lib.Dec.{eqb, ltb}
use lib.ListN.{length, length-append, length-replicate}
use Rattle.basics.specs.Choice.{pick}
use Rattle.basics.specs.Lists.{sum}
use Rattle.basics.proofs.Parts.{pick_holds}
use Rattle.meaning.specs.declared.Place.{Place}
use Rattle.meaning.specs.declared.Place.TheVariants.{Variable, Cell}
use Rattle.meaning.specs.Numbers.{Answer, refused, done}
use Rattle.meaning.specs.Block.{Block}
use Rattle.meaning.specs.Format.{read_block}
use Rattle.meaning.specs.Machine.{Contents, fetch_place}
use Rattle.theorems.proofs.Readable.{done_readable}
use Rattle.beside.specs.Beside.{SideBySide, side_by_side}
use Rattle.text.specs.Text.{words, decimal, field, spaces, column}
use Rattle.text.proofs.Spelling.{length_decimal}
use Rattle.named.specs.Names.{place_text}
use Rattle.answers.specs.Sentences.{refusal}
use Rattle.answers.proofs.Lengths.{length_field, length_refusal}
use Rattle.ends.specs.Line.{name_text, numbers_text, line_end, line, place_line}
use Rattle.ends.specs.Places.{in_turn, cell_lines, variable_lines}
use Rattle.comparison.specs.Input.{block_in, contents_in, contents, contents_size}
use Rattle.comparison.specs.Lines.{run_line, heading, verdict, beside_text, compared_on}
use Rattle.comparison.specs.Compared.{listed, wrong_size, too_long, usage, refusal_text, room, sized_text, answer_text, compared}
use Rattle.comparison.proofs.Parts.{few_in_all}

-- a name and the numbers beside it
length_place : (p : Place) → length (place_text p) ≤ 43
unfolding place_text
length_place (Variable v) = omega (arith, length-append (words "V") (decimal v), length_decimal v)
length_place (Cell a i) =
    omega (
      arith,
      length-append (words "A" ++ decimal a ++ words "[" ++ decimal i) (words "]"),
      length-append (words "A" ++ decimal a ++ words "[") (decimal i),
      length-append (words "A" ++ decimal a) (words "["),
      length-append (words "A") (decimal a),
      length_decimal a,
      length_decimal i,
    )

length_name : (p : Place) → length (name_text p) ≤ 43
unfolding name_text
length_name p =
    let empty : ℕ = 7 - length (place_text p) in
    let size : length (spaces empty) ≡ empty = length-replicate {A = ℕ} empty 32 in
    omega (arith, length-append (place_text p) (spaces empty), size, length_place p)

length_column : (n : ℕ) → length (column 12 n) ≤ 20
unfolding column
length_column n =
    let empty : ℕ = 12 - length (decimal n) in
    let size : length (spaces empty) ≡ empty = length-replicate {A = ℕ} empty 32 in
    omega (arith, length-append (spaces empty) (decimal n), size, length_decimal n)

length_numbers : (start block list : ℕ) → length (numbers_text start block list) ≤ 60
unfolding numbers_text
length_numbers start block list =
    omega (
      arith,
      length-append (column 12 start ++ column 12 block) (column 12 list),
      length-append (column 12 start) (column 12 block),
      length_column start,
      length_column block,
      length_column list,
    )

length_end : (block list : ℕ) → length (line_end block list) ≤ 4
unfolding line_end
length_end block list = pick_holds (λ (text : List ℕ). length text ≤ 4) (eqb block list) (words "\n") (words "  *\n") (λ e. leb-true 1 4 refl) (λ e. leb-true 4 4 refl)

length_line : (lengths : List ℕ) (start block list : Contents) (p : Place) → length (place_line lengths start block list p) ≤ 107
unfolding place_line line
length_line lengths start block list p =
    let s : ℕ = fetch_place lengths start p in
    let b : ℕ = fetch_place lengths block p in
    let l : ℕ = fetch_place lengths list p in
    omega (
      arith,
      length-append (name_text p ++ numbers_text s b l) (line_end b l),
      length-append (name_text p) (numbers_text s b l),
      length_name p,
      length_numbers s b l,
      length_end b l,
    )

-- so many lines of at most so many bytes
module _ (most : ℕ) where
  length_turns : (text : ℕ → List ℕ) → ((i : ℕ) → length (text i) ≤ most) → (k i : ℕ) → length (in_turn text k i) ≤ most * k
  unfolding in_turn
  length_turns text short zero i = omega arith
  length_turns text short (suc k) i = omega (arith, length-append (text i) (in_turn text k (i + 1)), short i, length_turns text short k (i + 1))

  length_cells : (text : Place → List ℕ) → ((p : Place) → length (text p) ≤ most) → (a : ℕ) (lengths : List ℕ) → length (cell_lines text a lengths) ≤ most * sum lengths
  unfolding cell_lines
  length_cells text short a [] = omega arith
  length_cells text short a (n ∷ ns) =
      let one : List ℕ = in_turn (λ i. text (Cell a i)) n 0 in
      omega (
        arith,
        length-append one (cell_lines text (a + 1) ns),
        length_turns (λ i. text (Cell a i)) (λ i. short (Cell a i)) n 0,
        length_cells text short (a + 1) ns,
      )

length_run : (whose : List ℕ) (status price : ℕ) → length (run_line whose status price) ≤ length whose + 49
unfolding run_line
length_run whose status price =
    omega (
      arith,
      length-append (whose ++ decimal status ++ words ", price ") (field price 10),
      length-append (whose ++ decimal status) (words ", price "),
      length-append whose (decimal status),
      length_decimal status,
      length_field price 10,
    )

length_verdict : (same : Bool) → length (verdict same) ≤ 51
unfolding verdict
length_verdict true = leb-true 51 51 refl
length_verdict false = leb-true 36 51 refl

length_beside : (lengths : List ℕ) (live : ℕ) (start : Contents) (s : SideBySide) → length (beside_text lengths live start s) ≤ 107 * sum lengths + 107 * live + 300
unfolding beside_text variable_lines
length_beside lengths live start s =
    let one : List ℕ = run_line (words "block: status ") s.block s.block_paid in
    let two : List ℕ = run_line (words "list: status ") s.list s.list_paid in
    let text : Place → List ℕ = place_line lengths start s.block_left s.list_left in
    let cells : List ℕ = cell_lines text 0 lengths in
    let variables : List ℕ = variable_lines text live in
    omega (
      arith,
      length-append (one ++ two ++ heading ++ cells ++ variables) (verdict s.same),
      length-append (one ++ two ++ heading ++ cells) variables,
      length-append (one ++ two ++ heading) cells,
      length-append (one ++ two) heading,
      length-append one two,
      length_run (words "block: status ") s.block s.block_paid,
      length_run (words "list: status ") s.list s.list_paid,
      length_cells 107 text (length_line lengths start s.block_left s.list_left) 0 lengths,
      length_turns 107 (λ v. text (Variable v)) (λ v. length_line lengths start s.block_left s.list_left (Variable v)) live 0,
      length_verdict s.same,
    )

length_wrong : (given needed : ℕ) → length (wrong_size given needed) ≤ 240000
unfolding wrong_size
length_wrong given needed =
    let said : List ℕ = words "refused with 6: " in
    let follow : List ℕ = words " bytes follow the block, and its variables and cells take " in
    let end : List ℕ = words ".\n" ++ listed in
    omega (
      arith,
      length-append (said ++ decimal given ++ follow ++ decimal needed) end,
      length-append (said ++ decimal given ++ follow) (decimal needed),
      length-append (said ++ decimal given) follow,
      length-append said (decimal given),
      length_decimal given,
      length_decimal needed,
    )

length_refused : (number given : ℕ) → length (refusal_text number given) ≤ 240000
unfolding refusal_text
length_refused number given =
    let more : length (pick (eqb given 0) usage []) ≤ 200 =
    pick_holds (λ (text : List ℕ). length text ≤ 200) (eqb given 0) usage [] (λ e. leb-true (length usage) 200 refl) (λ e. leb-true 0 200 refl) in
    omega (arith, length-append (refusal number) (pick (eqb given 0) usage []), length_refusal number, more)

length_answer : (bytes rest : List ℕ) (given : ℕ) (answer : Answer Block) → read_block bytes ≡ answer → length (answer_text bytes rest given answer) ≤ 240000
unfolding sized_text compared_on
length_answer bytes rest given (refused number) read = length_refused number given
length_answer bytes rest given (done b) read =
    let readable = done_readable bytes b read in
    let m : Contents = contents b.variables (sum b.lengths) rest in
    let few : sum b.lengths ≤ 2048 = few_in_all b.lengths readable.arrays readable.lengths in
    let lines = length_beside b.lengths b.live m (side_by_side bytes room m m) in
    pick_holds (λ (text : List ℕ). length text ≤ 240000) (eqb (length rest) (contents_size b.variables b.lengths)) _ _
    (λ e. omega (arith, lines, few, readable.live, readable.variables))
    (λ e. length_wrong (length rest) (contents_size b.variables b.lengths))

-- The text for every input has at most 240,000 bytes.
pub length_compared : (input : List ℕ) → length (compared input) ≤ 240000
unfolding compared
length_compared input =
    pick_holds (λ (text : List ℕ). length text ≤ 240000) (ltb 9303 (length input)) too_long _
    (λ e. leb-true (length too_long) 240000 refl)
    (λ e. length_answer (block_in input) (contents_in input) (length input) (read_block (block_in input)) refl)
