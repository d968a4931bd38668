-- A block and the list made for it, run side by side, each on contents of its own: all that comes back, and all that was lent, afterwards.
use Rattle.std.specs.Prelude.{ℕ, Bool, ◌&&◌, List, eqb, get_or, take}
use Rattle.basics.specs.Choice.{pick}
use Rattle.meaning.specs.Machine.{Contents}
use Rattle.meaning.specs.Calls.{ListMade, make_list_call, Ran, run_block_call, run_list_call}
use Rattle.beside.specs.Same.{same_ends}
use Rattle.beside.specs.declared.Beside.{Beside as Returned}

-- A list that was made is run; one that was not is not run, and the number of making it is given.
unfoldable pub list_run : List ℕ → ℕ → List ℕ → Contents → Ran
list_run bytes status list m = pick (eqb status 0) (run_list_call bytes list m) (record { status = status; price = 0; contents = m })

-- The statuses of making the list, of running the block and of running the list; the size of the list; its price as it was reported, and
-- what each run paid; and whether both ran and ended alike.
pub record SideBySide : Type 0 where
  pub made : ℕ
  pub block : ℕ
  pub list : ℕ
  pub size : ℕ
  pub reported : ℕ
  pub block_paid : ℕ
  pub list_paid : ℕ
  pub same : Bool
  pub room : List ℕ
  pub block_left : Contents
  pub list_left : Contents

-- three answers and the outcome of the comparison, as one answer
abbrev pub compared : Bool → ListMade → Ran → Ran → SideBySide
compared same made block list =
    record {
      made = made.status;
      block = block.status;
      list = list.status;
      size = made.size;
      reported = made.list_cost;
      block_paid = block.price;
      list_paid = list.price;
      same = same;
      room = made.room;
      block_left = block.contents;
      list_left = list.contents;
    }

-- both ran, and ended alike
abbrev pub both_alike : ℕ → Ran → Ran → Bool
both_alike live block list = eqb block.status 0 && eqb list.status 0 && same_ends live block.contents list.contents

abbrev pub beside : ℕ → ListMade → Ran → Ran → SideBySide
beside live made block list = compared (both_alike live block list) made block list

-- the list is what making it left in the room; a block's fifth byte is its live-out count
unfoldable pub side_by_side : List ℕ → List ℕ → Contents → Contents → SideBySide
side_by_side bytes room m n =
    beside (get_or bytes 4 0) (make_list_call bytes room) (run_block_call bytes m)
    (list_run bytes (make_list_call bytes room).status (take (make_list_call bytes room).size (make_list_call bytes room).room) n)

-- what the code returns and leaves
abbrev pub answer : Returned → List ℕ → Contents → Contents → SideBySide
answer r room m n =
    record {
      made = r.made;
      block = r.block;
      list = r.list;
      size = r.size;
      reported = r.reported;
      block_paid = r.block_paid;
      list_paid = r.list_paid;
      same = r.same;
      room = room;
      block_left = m;
      list_left = n;
    }
