-- The first two sections of a block's account: what the block declares, and its statements, each with its number and its price.
use Rattle.std.specs.Prelude.{ℕ, ◌+◌, List, [], ◌∷◌, ◌++◌, length}
use Rattle.meaning.specs.declared.Statement.{Statement}
use Rattle.meaning.specs.Block.{Block, statement_price}
use Rattle.text.specs.Text.{words, decimal, no_line}
use Rattle.named.specs.Names.{statement_text}

abbrev pub variables_text : ℕ → ℕ → List ℕ
variables_text variables live = words "Block: variables " ++ decimal variables ++ words ", live out " ++ decimal live ++ words ", arrays "

abbrev pub counts_text : ℕ → ℕ → List ℕ
counts_text arrays statements = decimal arrays ++ words ", statements " ++ decimal statements ++ words ".\n"

unfoldable pub head_line : Block → List ℕ
head_line b = variables_text b.variables b.live ++ counts_text (length b.lengths) (length b.statements)

-- as in: two spaces, then 0: V0 = A0[0] + 3 (price 2)
unfoldable pub statement_line : ℕ → Statement → List ℕ
statement_line number s =
    words "  " ++ decimal number ++ words ": " ++ statement_text s ++ words " (price " ++ decimal (statement_price s) ++ words ")\n"

-- a line for each statement, numbered on from the first one's number
unfoldable pub numbered_lines : ℕ → List Statement → List ℕ
numbered_lines number [] = []
numbered_lines number (s ∷ ss) = statement_line number s ++ numbered_lines (number + 1) ss

abbrev pub lines_or_none : List Statement → List ℕ
lines_or_none [] = no_line
lines_or_none (s ∷ ss) = numbered_lines 0 (s ∷ ss)

unfoldable pub statement_lines : List Statement → List ℕ
statement_lines ss = words "Statements, with the price of each:\n" ++ lines_or_none ss
