-- What is told of the prices: the choice, and the sums at the end.
use Rattle.std.specs.Prelude.{ℕ, List, ◌++◌, ltb}
use Rattle.basics.specs.Choice.{pick}
use Rattle.text.specs.Text.{words, decimal}

-- "This list is the answer if its price is below the block's; else S for every statement in block order."
abbrev pub is_answer : List ℕ
is_answer = words "The packed list is the answer.\n"

abbrev pub is_not_below : List ℕ
is_not_below = words "The packed list is not below, so the answer is S for every statement.\n"

abbrev pub verdict : ℕ → ℕ → List ℕ
verdict block packed = pick (ltb packed block) is_answer is_not_below

unfoldable pub choice_line : ℕ → ℕ → List ℕ
choice_line block packed =
    words "The block costs " ++ decimal block ++ words ", the packed list " ++ decimal packed ++ words ". " ++ verdict block packed

unfoldable pub sums_line : ℕ → ℕ → List ℕ
sums_line block list = words "Sums: the block costs " ++ decimal block ++ words ", the list " ++ decimal list ++ words ".\n"
