-- "Seeding": the first pairs, from cells that stand in a row.
use Rattle.std.specs.Prelude.{Bool, ◌&&◌, ◌||◌, List, [], length}
use Rattle.basics.specs.Choice.{pick}
use Rattle.basics.specs.Counting.{count}
use Rattle.meaning.specs.declared.Statement.{Statement}
use Rattle.meaning.specs.Block.{statement, in_row, operands_in_row}
use Rattle.meaning.specs.Pairs.{Pair, pair, may_be_admitted, admit}

-- "in some position (destination, left, right) both have cells of one array, t's index one above s's"
abbrev pub row_in_some_position : Statement → Statement → Bool
row_in_some_position s t =
    in_row s.destination t.destination || operands_in_row s.left t.left || operands_in_row s.right t.right

abbrev pub seed_one : List Statement → Pair → List Pair → List Pair
seed_one ss p pairs =
    pick (row_in_some_position (statement ss p.left) (statement ss p.right) && may_be_admitted ss pairs p) (admit pairs p) pairs

-- "For s in order, for t in order: admit (s, t) if it may be and in some position .."
unfoldable pub seed : List Statement → List Pair
seed ss = count (length ss) 0 (λ s. count (length ss) 0 (λ t. seed_one ss (pair s t))) []
