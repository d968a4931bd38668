-- The instructions of a list as a person reads them, a line each, with the price of each: O R2 = R0 + R1 (price 1).
use Rattle.std.specs.Prelude.{ℕ, List, [], ◌∷◌, ◌++◌, map}
use Rattle.std.proofs.Math.Option.{Option, none, some}
use Rattle.basics.specs.Lists.{flat}
use Rattle.meaning.specs.declared.Place.TheVariants.{Variable, Cell}
use Rattle.meaning.specs.declared.Statement.{Statement}
use Rattle.meaning.specs.Block.{statement}
use Rattle.meaning.specs.List.{Instruction, S, L, C, G, O, W, D, X, instruction_price}
use Rattle.meaning.specs.Card.{row}
use Rattle.text.specs.Text.{words, decimal, no_line}
use Rattle.named.specs.Names.{place_text, operand_text, operation_text, statement_text}

abbrev pub register_text : ℕ → List ℕ
register_text r = words "R" ++ decimal r

-- one lane of a register: R3.1
abbrev pub lane_text : ℕ → ℕ → List ℕ
lane_text r lane = register_text r ++ words "." ++ decimal lane

-- the second register of O; "copy: no rb"
abbrev pub second_text : Option ℕ → List ℕ
second_text none = []
second_text (some rb) = register_text rb

-- the texts, a space before each
unfoldable pub spaced : List (List ℕ) → List ℕ
spaced [] = []
spaced (text ∷ texts) = words " " ++ text ++ spaced texts

-- "k cells in a row"
abbrev pub row_text : ℕ → ℕ → ℕ → List ℕ
row_text k array index = spaced (map place_text (row k array index))

-- The letter of the code, then what is written, then from what; an S by its number, with the statement that it runs.
unfoldable pub instruction_text : List Statement → Instruction → List ℕ
instruction_text ss (S s) = words "S " ++ decimal s ++ words ": " ++ statement_text (statement ss s)
instruction_text ss (L r k a i) = words "L " ++ register_text r ++ words " =" ++ row_text k a i
instruction_text ss (C r cs) = words "C " ++ register_text r ++ words " =" ++ spaced (map decimal cs)
instruction_text ss (G r os) = words "G " ++ register_text r ++ words " =" ++ spaced (map operand_text os)
instruction_text ss (O r operation k ra rb) =
    words "O " ++ register_text r ++ words " = " ++ register_text ra ++ operation_text operation ++ second_text rb
instruction_text ss (W r k a i) = words "W" ++ row_text k a i ++ words " = " ++ register_text r
instruction_text ss (D r lane a i) = words "D " ++ place_text (Cell a i) ++ words " = " ++ lane_text r lane
instruction_text ss (X r lane v) = words "X " ++ place_text (Variable v) ++ words " = " ++ lane_text r lane

-- a text and its price, as a line of a section
unfoldable pub priced_line : List ℕ → ℕ → List ℕ
priced_line text price = words "  " ++ text ++ words " (price " ++ decimal price ++ words ")\n"

abbrev pub instruction_line : List Statement → Instruction → List ℕ
instruction_line ss i = priced_line (instruction_text ss i) (instruction_price ss i)

-- The section of a list beside the statements of its block.
unfoldable pub instruction_lines : List Statement → List Instruction → List ℕ
instruction_lines ss [] = no_line
instruction_lines ss (i ∷ list) = flat (map (instruction_line ss) (i ∷ list))
