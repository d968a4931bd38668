-- Demand 3 for a caller, in the words of the calls alone: a list that was made runs as its block does; and a room of 3,844 bytes is large
-- enough for every list, so there making one is refused only where reading the block is.
use mathlib.Core.Path.{◌≡◌, refl, sym, ap, ◌∙◌}
use mathlib.Core.Bool.{Bool, true, false}
use mathlib.Core.List.{List}
use Prim.Native.Nat.{ℕ, ◌≤◌, ◌<◌}
use native.Mathlib.Omega.{arith}
use lib.Dec.{leb}
use lib.ListN.{length, get_or}
use borrow.Author.Tests.{leb-true, le-leb}
use Rattle.basics.specs.Choice.{pick}
use Rattle.basics.specs.Lists.{all}
use Rattle.meaning.specs.Numbers.{Answer, refused, done, demand as demanded, and_then}
use Rattle.meaning.specs.Block.{Block, block_price}
use Rattle.meaning.specs.Format.{read_block, block_bytes}
use Rattle.meaning.specs.Machine.{Contents, right_size, run_block}
use Rattle.meaning.specs.List.{list_bytes}
use Rattle.meaning.specs.Choice.{chosen_list}
use Rattle.meaning.specs.Calls.{block_read, read_block_call, ListMade, list_made, make_list_call, Ran, ran, sized, run_block_call, run_list_call}
use Rattle.theorems.proofs.Bytes.{is_byte}
use Rattle.theorems.proofs.Readable.{refused_number, done_readable, done_written, done_fits}
use Rattle.theorems.proofs.ListRoundTrip.{list_length}
use Rattle.theorems.proofs.Chosen.{chosen_lawful}
use Rattle.theorems.proofs.ScheduleRuns.{units_of_lem}
use Rattle.theorems.proofs.Demand.{left_in, Kept, demand}

-- The list runs without refusal and ends as the block does, in every cell and in the first `live` variables, the live-out ones; each pays
-- what making the list reported of it, and the list pays no more than the block.
pub record Alike (live : ℕ) (made : ListMade) (list_run block_run : Ran) : Type 0 where
  pub list_done : list_run.status ≡ 0
  pub same_cells : list_run.contents.cells ≡ block_run.contents.cells
  pub same_live : (v : ℕ) → v < live → get_or list_run.contents.variables v 0 ≡ get_or block_run.contents.variables v 0
  pub as_many : length list_run.contents.variables ≡ length block_run.contents.variables
  pub list_paid_lem : list_run.price ≡ made.list_cost
  pub block_paid_lem : block_run.price ≡ made.block_cost
  pub at_most : made.list_cost ≤ made.block_cost

-- the live-out count stands in a block's fifth byte
live_stated : (bytes : List ℕ) (b : Block) → all is_byte bytes ≡ true → read_block bytes ≡ done b → get_or bytes 4 0 ≡ b.live
unfolding block_bytes
live_stated bytes b are e = ap (λ (written : List ℕ). get_or written 4 0) (sym (done_written bytes b are e))

-- a list that was made was fitted into the room, and a block that ran had its size
fitted : (bytes room : List ℕ) (b : Block) → read_block bytes ≡ done b → (make_list_call bytes room).status ≡ 0 → length (list_bytes (chosen_list b)) ≤ length room
unfolding make_list_call
fitted bytes room b e made = leb-true _ _ (by (leb (length (list_bytes (chosen_list b))) (length room)) _ _ refl (sym (ap (λ (answer : Answer Block). (list_made room answer).status) e) ∙ made))
  where
    by : (test : Bool) (fits short : ListMade) → short.status ≡ 7 → (pick test fits short).status ≡ 0 → test ≡ true
    by true fits short seven status = refl
    by false fits short seven status = absurd (omega (arith, seven))

had_size : (bytes : List ℕ) (b : Block) (m : Contents) → read_block bytes ≡ done b → (run_block_call bytes m).status ≡ 0 → right_size b m ≡ true
unfolding run_block_call
had_size bytes b m e status =
    by (right_size b m)
    (sym (ap (λ (answer : Answer Block). (ran m (and_then (sized m answer) (λ x. done (block_price x.statements, run_block x m)))).status) e) ∙ status)
  where
    by : (test : Bool) → (ran m (and_then (demanded test 6 (done b)) (λ x. done (block_price x.statements, run_block x m)))).status ≡ 0 → test ≡ true
    by true status = refl
    by false status = absurd (omega arith)

made_done : (bytes room : List ℕ) (b : Block) → read_block bytes ≡ done b → length (list_bytes (chosen_list b)) ≤ length room → (make_list_call bytes room).status ≡ 0
unfolding make_list_call
made_done bytes room b e fits =
    ap (λ (answer : Answer Block). (list_made room answer).status) e ∙ rw (le-leb (length (list_bytes (chosen_list b))) (length room) fits)

-- where the block is refused, each call answers its number
made_refused : (bytes room : List ℕ) (n : ℕ) → read_block bytes ≡ refused n → (make_list_call bytes room).status ≡ n
unfolding make_list_call
made_refused bytes room n e = ap (λ (answer : Answer Block). (list_made room answer).status) e

read_status : (bytes : List ℕ) (answer : Answer Block) → read_block bytes ≡ answer → (read_block_call bytes).status ≡ (block_read answer).status
unfolding read_block_call
read_status bytes answer e = ap (λ (given : Answer Block). (block_read given).status) e

ran_refused : (bytes : List ℕ) (m : Contents) (n : ℕ) → read_block bytes ≡ refused n → (run_block_call bytes m).status ≡ n
unfolding run_block_call
ran_refused bytes m n e =
    ap (λ (answer : Answer Block). (ran m (and_then (sized m answer) (λ x. done (block_price x.statements, run_block x m)))).status) e

-- For all bytes lent, every room and all contents: if the list was made and the block ran, then the list that is left in the room runs
-- as the block ran.
pub alike : (bytes room : List ℕ) (m : Contents) → all is_byte bytes ≡ true → (make_list_call bytes room).status ≡ 0 → (run_block_call bytes m).status ≡ 0
    → Alike (get_or bytes 4 0) (make_list_call bytes room) (run_list_call bytes (left_in (make_list_call bytes room)) m) (run_block_call bytes m)
alike bytes room m are made_status block-status = by (read_block bytes) refl
  where
    from : (b : Block) (made : ListMade) (list_run block_run : Ran) → get_or bytes 4 0 ≡ b.live → Kept b made list_run block_run
        → Alike (get_or bytes 4 0) made list_run block_run
    from b made list_run block_run stated kept =
        record {
          list_done = kept.list_done;
          same_cells = kept.cells;
          same_live = λ v below. kept.live v (omega (arith, stated));
          as_many = kept.as_many;
          list_paid_lem = kept.paid;
          block_paid_lem = kept.block_paid_lem;
          at_most = kept.at_most;
        }

    by : (answer : Answer Block) → read_block bytes ≡ answer
        → Alike (get_or bytes 4 0) (make_list_call bytes room) (run_list_call bytes (left_in (make_list_call bytes room)) m) (run_block_call bytes m)
    by (refused n) e = absurd (omega (arith, refused_number bytes n e, made_refused bytes room n e, made_status))
    by (done b) e =
        from b (make_list_call bytes room) (run_list_call bytes (left_in (make_list_call bytes room)) m) (run_block_call bytes m)
        (live_stated bytes b are e) (demand bytes room b m are e (had_size bytes b m e block-status) (fitted bytes room b e made_status))

-- A room of 3,844 bytes is enough for every list: making one answers the number that reading the block answers, 0 exactly where it reads.
pub room_enough : (bytes room : List ℕ) → all is_byte bytes ≡ true → 3844 ≤ length room → (make_list_call bytes room).status ≡ (read_block_call bytes).status
room_enough bytes room are large = by (read_block bytes) refl
  where
    by : (answer : Answer Block) → read_block bytes ≡ answer → (make_list_call bytes room).status ≡ (read_block_call bytes).status
    by (refused n) e = made_refused bytes room n e ∙ sym (read_status bytes (refused n) e)
    by (done b) e =
        let lawful = chosen_lawful b (done_readable bytes b e) (done_fits bytes b are e) (units_of_lem b.statements) in
        made_done bytes room b e (omega (arith, large, list_length (chosen_list b) lawful.fits)) ∙ sym (read_status bytes (done b) e)

-- So in such a room the list is made for every block that runs.
pub ran_made : (bytes room : List ℕ) (m : Contents) → all is_byte bytes ≡ true → 3844 ≤ length room → (run_block_call bytes m).status ≡ 0
    → (make_list_call bytes room).status ≡ 0
ran_made bytes room m are large status = room_enough bytes room are large ∙ by (read_block bytes) refl
  where
    by : (answer : Answer Block) → read_block bytes ≡ answer → (read_block_call bytes).status ≡ 0
    by (refused n) e = read_status bytes (refused n) e ∙ sym (ran_refused bytes m n e) ∙ status
    by (done b) e = read_status bytes (done b) e
