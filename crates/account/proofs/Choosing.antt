-- Which sentence the prices choose, and that what it says of the answer is so.
use mathlib.Core.Path.{◌≡◌, sym}
use Prim.Native.Nat.{ℕ, ◌≤◌, ◌<◌}
use borrow.Author.Tests.{lt-ltb, le-ltb}
use Rattle.meaning.specs.Block.{Block, block_price}
use Rattle.meaning.specs.List.{list_price}
use Rattle.meaning.specs.Choice.{packed_list, plain_list, chosen_list}
use Rattle.account.specs.Prices.{is_answer, is_not_below, verdict}

module _ (block packed : ℕ) where
  pub below : packed < block → is_answer ≡ verdict block packed
  below less = rw (lt-ltb packed block less)

  pub not_below : block ≤ packed → is_not_below ≡ verdict block packed
  not_below least = rw (le-ltb packed block least)

module _ (b : Block) where
  -- Where the sentence says that the packed list is the answer, the instructions behind it are those of the packed list.
  pub answer_packed :
      list_price b.statements (packed_list b) < block_price b.statements
      → (verdict (block_price b.statements) (list_price b.statements (packed_list b)) ≡ is_answer) × (chosen_list b ≡ packed_list b)
  unfolding chosen_list
  answer_packed less = (
    sym (below (block_price b.statements) (list_price b.statements (packed_list b)) less),
    rw (lt-ltb (list_price b.statements (packed_list b)) (block_price b.statements) less),
  )

  -- Where it says S for every statement, they are S for every statement.
  pub answer_plain :
      block_price b.statements ≤ list_price b.statements (packed_list b)
      → (verdict (block_price b.statements) (list_price b.statements (packed_list b)) ≡ is_not_below) × (chosen_list b ≡ plain_list b)
  unfolding chosen_list
  answer_plain least = (
    sym (not_below (block_price b.statements) (list_price b.statements (packed_list b)) least),
    rw (le-ltb (list_price b.statements (packed_list b)) (block_price b.statements) least),
  )
