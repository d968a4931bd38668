-- What is shown to a laboratory, for every block that reads and all contents of its size: no line is marked. The text has the end of the
-- block's run in both columns, says in words that all ends alike, and the list's price is what its instructions cost, and no more than the block's.
use mathlib.Core.Path.{◌≡◌, refl, sym, ap, ◌∙◌}
use mathlib.Core.Bool.{Bool, true, false}
use mathlib.Core.List.{List}
use Prim.Native.Nat.{ℕ, zero, suc, ◌*◌, ◌+◌, ◌≤◌, ◌<◌}
use native.Mathlib.Omega.{arith}
use borrow.Author.Tests.{eq-eqb, le-ltb}
use lib.Dec.{leb}
use lib.ListN.{length, get_or, drop, length-append, length-replicate, take-append-drop}
use Rattle.basics.specs.Choice.{pick}
use Rattle.basics.specs.Lists.{all, sum}
use Rattle.basics.proofs.Tests.{and_both}
use Rattle.basics.proofs.Parts.{all_take}
use Rattle.meaning.specs.Numbers.{Answer, done, demand, and_then}
use Rattle.meaning.specs.Block.{Block, block_price}
use Rattle.meaning.specs.Format.{read_block, block_bytes}
use Rattle.meaning.specs.Machine.{Contents, right_size, run_block}
use Rattle.meaning.specs.List.{list_price, list_bytes}
use Rattle.meaning.specs.Choice.{chosen_list}
use Rattle.meaning.specs.Calls.{ListMade, list_made, make_list_call, Ran, ran, sized, run_block_call, run_list_call}
use Rattle.theorems.proofs.Bytes.{is_byte}
use Rattle.theorems.proofs.Readable.{done_readable, done_written}
use Rattle.theorems.proofs.BlockRoundTrip.{block_length}
use Rattle.theorems.proofs.Demand.{left_in}
use Rattle.theorems.proofs.Alike.{Alike, alike}
use Rattle.beside.specs.Beside.{SideBySide, list_run, side_by_side}
use Rattle.beside.proofs.Running.{is_run}
use Rattle.beside.proofs.Shown.{Shown, shown}
use Rattle.comparison.specs.Input.{stated, block_in, contents_in, numbers_in, contents, contents_size}
use Rattle.comparison.specs.Lines.{compared_on}
use Rattle.comparison.specs.Compared.{room, sized_text, answer_text, compared}
use Rattle.comparison.specs.Alike.{alike_text}
use Rattle.comparison.proofs.Parts.{few_in_all}
use Rattle.comparison.proofs.SameLines.{ends_alike}

room_large : 3844 ≤ length room
unfolding room
room_large = omega (arith, length-replicate {A = ℕ} 4096 0)

numbers_long : (n : ℕ) (bytes : List ℕ) → length (numbers_in n bytes) ≡ n
unfolding numbers_in
numbers_long zero bytes = refl
numbers_long (suc n) bytes = ap suc (numbers_long n (drop 4 bytes))

-- the contents that the bytes behind a block are
abbrev pub start_in : Block → List ℕ → Contents
start_in b input = contents b.variables (sum b.lengths) (contents_in input)

right_size_lem : (b : Block) (input : List ℕ) → right_size b (start_in b input) ≡ true
right_size_lem b input =
    and_both _ _ (eq-eqb _ b.variables (numbers_long b.variables (contents_in input)))
    (eq-eqb _ (sum b.lengths) (numbers_long (sum b.lengths) (drop (4 * b.variables) (contents_in input))))

-- a block that reads, run on contents of its size
block_ran : (bytes : List ℕ) (b : Block) (m : Contents) → read_block bytes ≡ done b → right_size b m ≡ true
    → run_block_call bytes m ≡ record { status = 0; price = block_price b.statements; contents = run_block b m }
unfolding run_block_call
block_ran bytes b m read size =
    ap (λ (answer : Answer Block). ran m (and_then (sized m answer) (λ x. done (block_price x.statements, run_block x m)))) read
    ∙ ap (λ (test : Bool). ran m (and_then (demand test 6 (done b)) (λ x. done (block_price x.statements, run_block x m)))) size

-- the price that is reported of a list that was made
list_cost_lem : (bytes lent-room : List ℕ) (b : Block) → read_block bytes ≡ done b → (make_list_call bytes lent-room).status ≡ 0
    → (make_list_call bytes lent-room).list_cost ≡ list_price b.statements (chosen_list b)
unfolding make_list_call
list_cost_lem bytes lent-room b read status =
    ap (λ (answer : Answer Block). (list_made lent-room answer).list_cost) read
    ∙ by (leb (length (list_bytes (chosen_list b))) (length lent-room)) _ _ refl (sym (ap (λ (answer : Answer Block). (list_made lent-room answer).status) read) ∙ status)
  where
    by : (test : Bool) (fits short : ListMade) → short.status ≡ 7 → (pick test fits short).status ≡ 0 → (pick test fits short).list_cost ≡ fits.list_cost
    by true fits short seven status' = refl
    by false fits short seven status' = absurd (omega (arith, seven, status'))

live_stated : (bytes : List ℕ) (b : Block) → all is_byte bytes ≡ true → read_block bytes ≡ done b → get_or bytes 4 0 ≡ b.live
unfolding block_bytes
live_stated bytes b are e = ap (λ (written : List ℕ). get_or written 4 0) (sym (done_written bytes b are e))

-- block and list, side by side
module _ (bytes : List ℕ) (b : Block) (m : Contents) (are : all is_byte bytes ≡ true) (read : read_block bytes ≡ done b) (size : right_size b m ≡ true) where
  abbrev sides : SideBySide
  sides = side_by_side bytes room m m

  block_run : run_block_call bytes m ≡ record { status = 0; price = block_price b.statements; contents = run_block b m }
  block_run = block_ran bytes b m read size

  sides_shown : Shown sides
  sides_shown = shown bytes room m are room_large (ap (λ (r : Ran). r.status) block_run)

  made_status : (make_list_call bytes room).status ≡ 0
  unfolding side_by_side
  made_status = sides_shown.list_made_lem

  runs_alike : Alike (get_or bytes 4 0) (make_list_call bytes room) (run_list_call bytes (left_in (make_list_call bytes room)) m) (run_block_call bytes m)
  runs_alike = alike bytes room m are made_status (ap (λ (r : Ran). r.status) block_run)

  list_run_lem : list_run bytes (make_list_call bytes room).status (left_in (make_list_call bytes room)) m ≡ run_list_call bytes (left_in (make_list_call bytes room)) m
  list_run_lem = is_run bytes (make_list_call bytes room).status (left_in (make_list_call bytes room)) m made_status

  block_price_lem : sides.block_paid ≡ block_price b.statements
  unfolding side_by_side
  block_price_lem = ap (λ (r : Ran). r.price) block_run

  list_price_lem : sides.list_paid ≡ list_price b.statements (chosen_list b)
  unfolding side_by_side
  list_price_lem = sides_shown.paid ∙ list_cost_lem bytes room b read made_status

  block_left_lem : sides.block_left ≡ run_block b m
  unfolding side_by_side
  block_left_lem = ap (λ (r : Ran). r.contents) block_run

  list_cells : sides.list_left.cells ≡ (run_block b m).cells
  unfolding side_by_side
  list_cells = ap (λ (r : Ran). r.contents.cells) list_run_lem ∙ runs_alike.same_cells ∙ ap (λ (r : Ran). r.contents.cells) block_run

  list_variables : (v : ℕ) → v < b.live → get_or sides.list_left.variables v 0 ≡ get_or (run_block b m).variables v 0
  unfolding side_by_side
  list_variables v low =
      ap (λ (r : Ran). get_or r.contents.variables v 0) list_run_lem
      ∙ runs_alike.same_live v (omega (arith, low, live_stated bytes b are read))
      ∙ ap (λ (r : Ran). get_or r.contents.variables v 0) block_run

  alike_there : compared_on b.lengths b.live bytes room m
      ≡ alike_text b.lengths b.live m (block_price b.statements) (list_price b.statements (chosen_list b)) (run_block b m)
  unfolding compared_on
  alike_there =
      ends_alike b.lengths b.live m sides (block_price b.statements) (list_price b.statements (chosen_list b)) (run_block b m)
      sides_shown.block_done sides_shown.list_done block_price_lem list_price_lem sides_shown.alike block_left_lem list_cells list_variables

  no_dearer : list_price b.statements (chosen_list b) ≤ block_price b.statements
  no_dearer = omega (arith, sides_shown.at_most, list_price_lem, block_price_lem)

-- by the input: a block that reads, and as many bytes behind it as its variables and cells take
in_short : (input : List ℕ) (b : Block) → length input ≤ 9303 → read_block (block_in input) ≡ done b
    → length (contents_in input) ≡ contents_size b.variables b.lengths
    → compared input ≡ compared_on b.lengths b.live (block_in input) room (start_in b input)
unfolding compared sized_text
in_short input b short read size =
    rw (le-ltb 9303 (length input) short)
    (ap (answer_text (block_in input) (contents_in input) (length input)) read
    ∙ rw (eq-eqb (length (contents_in input)) (contents_size b.variables b.lengths) size))

-- no such input is too long
short_enough : (input : List ℕ) (b : Block) → all is_byte (block_in input) ≡ true → read_block (block_in input) ≡ done b
    → length (contents_in input) ≡ contents_size b.variables b.lengths → length input ≤ 9303
short_enough input b are read size =
    let readable = done_readable (block_in input) b read in
    let written : length (block_bytes b) ≡ length (block_in input) = ap length (done_written (block_in input) b are read) in
    let whole : length (block_in input) + length (contents_in input) ≡ length input =
    sym (length-append (block_in input) (contents_in input)) ∙ ap length (take-append-drop (stated input) input) in
    omega (arith, whole, written, block_length b readable, size, few_in_all b.lengths readable.arrays readable.lengths, readable.variables)

pub no_mark : (input : List ℕ) (b : Block) → all is_byte input ≡ true → read_block (block_in input) ≡ done b
    → length (contents_in input) ≡ contents_size b.variables b.lengths
    → (compared input
    ≡ alike_text b.lengths b.live (start_in b input) (block_price b.statements) (list_price b.statements (chosen_list b)) (run_block b (start_in b input)))
    × (list_price b.statements (chosen_list b) ≤ block_price b.statements)
no_mark input b are read size =
    let bytes_are : all is_byte (block_in input) ≡ true = all_take is_byte (stated input) input are in
    let alike-here = alike_there (block_in input) b (start_in b input) bytes_are read (right_size_lem b input) in (
      in_short input b (short_enough input b bytes_are read size) read size ∙ alike-here,
      no_dearer (block_in input) b (start_in b input) bytes_are read (right_size_lem b input),
    )
