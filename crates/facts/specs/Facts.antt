-- The facts of each statement, in columns of 64, as the phases look them up.
use Rattle.std.specs.Prelude.{ℕ, ◌+◌, ◌*◌, List, ltb, get_or, set}
use Rattle.basics.specs.Choice.{pick}
use Rattle.basics.specs.Counting.{count}
use Rattle.meaning.specs.declared.Statement.{Statement}
use Rattle.meaning.specs.Block.{statement}
use Rattle.codes.specs.Codes.{place_code, operand_code, cell_code}

abbrev pub fact_at : List ℕ → ℕ → ℕ → ℕ
fact_at facts column s = pick (ltb s 64) (get_or facts (column + s) 0) 0

-- the columns that a statement fills by itself: destination, left, right, sort, price
abbrev pub state_facts : ℕ → Statement → List ℕ → List ℕ
state_facts i s facts =
    let d = place_code s.destination in
    let l = operand_code s.left in
    let r = operand_code s.right in
    set (set (set (set (set facts i d) (64 + i) l) (128 + i) r) (192 + i) (2 * s.operation + cell_code d)) (256 + i)
    (cell_code l + cell_code r + 1 + cell_code d)

unfoldable pub stated_facts : List Statement → ℕ → List ℕ → List ℕ
stated_facts ss n facts = count n 0 (λ i. state_facts i (statement ss i)) facts
