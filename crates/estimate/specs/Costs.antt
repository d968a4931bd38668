-- The estimate over the tables: each is what `meaning` says of the statements and the list of pairs.
use Rattle.std.specs.Prelude.{ℕ, ◌+◌, ◌≤◌, Bool, false, ◌&&◌, ◌||◌, not, List, eqb, ltb, get_or}
use Rattle.basics.specs.Choice.{pick}
use Rattle.meaning.specs.Pairs.{Pair}
use Rattle.rows.specs.Walk.{walk}
use Rattle.codes.specs.Codes.{codes_in_row, is_cell_code, is_constant_code, cell_code}
use Rattle.facts.specs.Facts.{fact_at}
use Rattle.pairs.specs.Admission.{admitted_in}

-- `operands_cost`
abbrev pub codes_cost : ℕ → ℕ → Bool → ℕ
codes_cost code other defined =
    pick (codes_in_row code other || (is_constant_code code && is_constant_code other)) 1 (pick defined 0 (2 + cell_code code + cell_code other))

-- `position_cost`, from a column of operands and its column of definitions
abbrev pub position_loss : List ℕ → List ℕ → ℕ → ℕ → Pair → ℕ
position_loss facts next operand definition p =
    codes_cost (fact_at facts operand p.left) (fact_at facts operand p.right)
    (admitted_in next (fact_at facts definition p.left) (fact_at facts definition p.right))

-- `reads_together`, of the pair in which a is left
abbrev pub reads_at : List ℕ → ℕ → Pair → ℕ → ℕ → Bool
reads_at facts definition p a b = eqb (fact_at facts definition a) p.left && eqb (fact_at facts definition b) p.right

abbrev pub reads_pair : List ℕ → List ℕ → Pair → ℕ → Bool
reads_pair facts next p a =
    not (eqb (get_or next a 64) 64) && (reads_at facts 320 p a (get_or next a 64) || reads_at facts 384 p a (get_or next a 64))

abbrev pub are_read : List ℕ → List ℕ → Pair → Bool
are_read facts next p = walk 64 (fact_at facts 448 p.left) (λ a found. found || reads_pair facts next p a) false

-- `destination_cost`
abbrev pub destination_loss : List ℕ → List ℕ → Pair → ℕ
destination_loss facts next p =
    pick (is_cell_code (fact_at facts 0 p.left)) (pick (codes_in_row (fact_at facts 0 p.left) (fact_at facts 0 p.right)) 1 4)
    (pick (are_read facts next p) 0 2)

-- a copy, whose sort is 0 or 1, has no right position
abbrev pub right_loss : List ℕ → List ℕ → Pair → ℕ
right_loss facts next p = pick (ltb (fact_at facts 192 p.left) 2) 0 (position_loss facts next 128 384 p)

-- the column of prices has prices: a statement's is at most 4
abbrev pub priced : List ℕ → Type 0
priced facts = (s : ℕ) → fact_at facts 256 s ≤ 4

-- `loss` and `gain`
unfoldable pub loss_of : List ℕ → List ℕ → Pair → ℕ
loss_of facts next p = 1 + position_loss facts next 64 320 p + right_loss facts next p + destination_loss facts next p

abbrev pub gain_of : List ℕ → Pair → ℕ
gain_of facts p = fact_at facts 256 p.left + fact_at facts 256 p.right
