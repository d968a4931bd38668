-- Demand 3: the list that is made for a block that reads, run beside it on contents of the right size, is not refused, leaves every cell and
-- every live-out variable as running the block leaves them, pays the price that was reported, costs no more than the block, and less
-- exactly where it has a vector instruction; and it reads and writes only cells that the block reads and writes.
use mathlib.Core.Path.{◌≡◌, refl, sym, ap, subst, ◌∙◌}
use mathlib.Core.Bool.{Bool, true}
use mathlib.Core.List.{List}
use Prim.Native.Nat.{ℕ, ◌≤◌, ◌<◌}
use lib.ListN.{length, get_or, take, drop}
use lib.Seq.{take-append_seam}
use borrow.Author.Tests.{le-leb}
use Rattle.basics.specs.Choice.{pick}
use Rattle.basics.specs.Lists.{all, any}
use Rattle.meaning.specs.Numbers.{done}
use Rattle.meaning.specs.Block.{Block, block_price}
use Rattle.meaning.specs.Format.{read_block}
use Rattle.meaning.specs.Machine.{Contents, right_size, run_block}
use Rattle.meaning.specs.List.{list_price, list_bytes, is_vector}
use Rattle.meaning.specs.Card.{run_list}
use Rattle.meaning.specs.Choice.{chosen_list}
use Rattle.meaning.specs.Calls.{in_room, ListMade, list_made, make_list_call, Ran, run_block_call, run_list_call}
use Rattle.theorems.proofs.Bytes.{is_byte}
use Rattle.theorems.proofs.Footprint.{Inside}
use Rattle.theorems.proofs.Lawful.{Lawful}
use Rattle.theorems.proofs.Faithful.{Faithful, chosen_faithful, block_called}
use Rattle.theorems.proofs.ScheduleRuns.{units_of_lem, schedule_runs}

-- the bytes of the list that making it leaves in the room
abbrev pub left_in : ListMade → List ℕ
left_in made = take made.size made.room

made_of : List ℕ → Block → ListMade
made_of room b =
    record {
      status = 0;
      size = length (list_bytes (chosen_list b));
      block_cost = block_price b.statements;
      list_cost = list_price b.statements (chosen_list b);
      room = in_room (list_bytes (chosen_list b)) room;
    }

make_called : (bytes room : List ℕ) (b : Block) → read_block bytes ≡ done b → length (list_bytes (chosen_list b)) ≤ length room → make_list_call bytes room ≡ made_of room b
unfolding make_list_call made_of
make_called bytes room b e fits =
    ap (list_made room) e
    ∙ ap
    (λ (test : Bool). pick test (made_of room b) (record { status = 7; size = length (list_bytes (chosen_list b)); block_cost = 0; list_cost = 0; room = room }))
    (le-leb (length (list_bytes (chosen_list b))) (length room) fits)

-- what making the list, running it and running the block have to do with each other
pub record Kept (b : Block) (made : ListMade) (list_run block_run : Ran) : Type 0 where
  pub list_made_lem : made.status ≡ 0
  pub list_done : list_run.status ≡ 0
  pub block_done : block_run.status ≡ 0
  pub cells : list_run.contents.cells ≡ block_run.contents.cells
  pub live : (v : ℕ) → v < b.live → get_or list_run.contents.variables v 0 ≡ get_or block_run.contents.variables v 0
  pub as_many : length list_run.contents.variables ≡ length block_run.contents.variables
  pub paid : list_run.price ≡ made.list_cost
  pub block_paid_lem : block_run.price ≡ made.block_cost
  pub at_most : made.list_cost ≤ made.block_cost
  pub below_vector : made.list_cost < made.block_cost → any is_vector (chosen_list b) ≡ true
  pub vector_below : any is_vector (chosen_list b) ≡ true → made.list_cost < made.block_cost
  pub inside : Inside b (chosen_list b)
  pub lawful : Lawful b (chosen_list b)

kept_of : (bytes room : List ℕ) (b : Block) (m : Contents) → Faithful bytes b m (chosen_list b)
    → (list_run block_run : Ran)
    → list_run ≡ record { status = 0; price = list_price b.statements (chosen_list b); contents = run_list b (chosen_list b) m }
    → block_run ≡ record { status = 0; price = block_price b.statements; contents = run_block b m }
    → Kept b (made_of room b) list_run block_run
unfolding made_of
kept_of bytes room b m f list_run block_run e h =
    record {
      list_made_lem = refl;
      list_done = ap (λ (r : Ran). r.status) e;
      block_done = ap (λ (r : Ran). r.status) h;
      cells = ap (λ (r : Ran). r.contents.cells) e ∙ f.outcome.cells ∙ sym (ap (λ (r : Ran). r.contents.cells) h);
      live = λ v below.
          ap (λ (r : Ran). get_or r.contents.variables v 0) e ∙ f.outcome.live v below ∙ sym (ap (λ (r : Ran). get_or r.contents.variables v 0) h);
      as_many =
          ap (λ (r : Ran). length r.contents.variables) e ∙ f.outcome.as_many ∙ sym (ap (λ (r : Ran). length r.contents.variables) h);
      paid = ap (λ (r : Ran). r.price) e;
      block_paid_lem = ap (λ (r : Ran). r.price) h;
      at_most = f.priced.at_most;
      below_vector = f.priced.below_vector;
      vector_below = f.priced.vector_below;
      inside = f.inside;
      lawful = f.lawful;
    }

left_bytes : (room : List ℕ) (b : Block) → left_in (made_of room b) ≡ list_bytes (chosen_list b)
unfolding made_of
left_bytes room b = take-append_seam (list_bytes (chosen_list b)) (drop (length (list_bytes (chosen_list b))) room)

-- For every block that reads, all contents of the right size, and every room that the list fits in.
pub demand : (bytes room : List ℕ) (b : Block) (m : Contents) → all is_byte bytes ≡ true → read_block bytes ≡ done b → right_size b m ≡ true
    → length (list_bytes (chosen_list b)) ≤ length room
    → Kept b (make_list_call bytes room) (run_list_call bytes (left_in (make_list_call bytes room)) m) (run_block_call bytes m)
demand bytes room b m are e right fits =
    let f = chosen_faithful bytes b m are e right (units_of_lem b.statements) (schedule_runs b.statements) in
    let called = make_called bytes room b e fits in
    subst
    (λ (made : ListMade). Kept b made (run_list_call bytes (left_in made) m) (run_block_call bytes m))
    (sym called)
    (kept_of bytes room b m f (run_list_call bytes (left_in (made_of room b)) m) (run_block_call bytes m)
    (ap (λ (list : List ℕ). run_list_call bytes list m) (left_bytes room b) ∙ f.not_refused) (block_called bytes b m e right))
