-- What the list program prints: "one line of status, list length, block price, list price, then, if status is 0, a second line with the list
-- in lower-case hex, two digits a byte. Input over 4,096 bytes prints 2 0 0 0."
use Rattle.std.specs.Prelude.{ℕ, List, [], ◌∷◌, ◌++◌, eqb, ltb, length, take}
use Rattle.basics.specs.Choice.{pick}
use Rattle.meaning.specs.Calls.{ListMade, make_list_call}
use Rattle.text.specs.Text.{field, hex}

-- the bytes of a space and of a line feed
abbrev pub space : ℕ
space = 32

abbrev pub line_feed : ℕ
line_feed = 10

abbrev pub first_line : ℕ → ℕ → ℕ → ℕ → List ℕ
first_line status size block_cost list_cost = field status space ++ field size space ++ field block_cost space ++ field list_cost line_feed

-- the list stands in the first bytes of the room
abbrev pub second_line : ℕ → List ℕ → List ℕ
second_line size room = hex (take size room) ++ line_feed ∷ []

unfoldable pub list_lines : ListMade → List ℕ
list_lines made =
    pick (eqb made.status 0)
    (first_line made.status made.size made.block_cost made.list_cost ++ second_line made.size made.room)
    (first_line made.status made.size made.block_cost made.list_cost)

-- the answer to input over 4,096 bytes: a refusal, whatever the bytes are
abbrev pub overlong : List ℕ → ListMade
overlong room = record { status = 2; size = 0; block_cost = 0; list_cost = 0; room = room }

-- what is made of the input, and what is printed for it
abbrev pub made_of : List ℕ → List ℕ → ListMade
made_of input room = pick (ltb 4096 (length input)) (overlong room) (make_list_call input room)

abbrev pub printed : List ℕ → List ℕ → List ℕ
printed input room = list_lines (made_of input room)
