-- What a block declares, and its statements: how long the two sections are at most.
use mathlib.Core.List.{List, [], ◌∷◌}
use Prim.Native.Nat.{ℕ, ◌+◌, ◌*◌, ◌≤◌}
use native.Mathlib.Omega.{arith}
use lib.ListN.{length}
use Rattle.meaning.specs.declared.Statement.{Statement}
use Rattle.meaning.specs.Block.{Block, statement_price}
use Rattle.text.specs.Text.{words, no_line}
use Rattle.account_statements.specs.Statements.{head_line, statement_line, numbered_lines, statement_lines}
use Rattle.account_lengths.proofs.Short.{Short, said, number, ◌then◌, at_most}
use Rattle.account_lengths.proofs.Names.{statement}

pub head : (b : Block) → Short (head_line b) 132
unfolding head_line
head b =
    (said (words "Block: variables ") then number b.variables then said (words ", live out ") then number b.live then said (words ", arrays "))
    then (number (length b.lengths) then said (words ", statements ") then number (length b.statements) then said (words ".\n"))

line : (i : ℕ) (s : Statement) → Short (statement_line i s) 190
unfolding statement_line
line i s =
    said (words "  ")
    then number i
    then said (words ": ")
    then statement s
    then said (words " (price ")
    then number (statement_price s)
    then said (words ")\n")

lines : (i : ℕ) (ss : List Statement) → Short (numbered_lines i ss) (190 * length ss)
unfolding numbered_lines
lines i [] = said []
lines i (s ∷ ss) = at_most _ (line i s then lines (i + 1) ss) (omega arith)

pub statements : (ss : List Statement) → length ss ≤ 64 → Short (statement_lines ss) 12196
unfolding statement_lines
statements [] few = at_most 12196 (said (words "Statements, with the price of each:\n") then said no_line) (omega arith)
statements (s ∷ ss) few = at_most 12196 (said (words "Statements, with the price of each:\n") then lines 0 (s ∷ ss)) (omega arith)
