-- One row of a table of made lists, and what it says: all that comes back, and every byte of a room that has one byte more than the answer.
use Prim.Native.Nat.{ℕ, ◌+◌}
use mathlib.Core.List.{List, [], ◌∷◌, ◌++◌}
use lib.ListN.{length, replicate}
use Rattle.meaning.specs.Calls.{ListMade, make_list_call}

pub record Row : Type 0 where
  pub block : List ℕ
  pub block_cost : ℕ
  pub list_cost : ℕ
  pub list : List ℕ

-- the call at the row's block
abbrev pub made : Row → ListMade
made row = make_list_call row.block (replicate (length row.list + 1) 7)

-- the row's answer: the byte behind the list is as it was
abbrev pub expected : Row → ListMade
expected row =
    record { status = 0; size = length row.list; block_cost = row.block_cost; list_cost = row.list_cost; room = row.list ++ 7 ∷ [] }
