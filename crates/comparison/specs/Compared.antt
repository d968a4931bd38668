-- What `compare` prints for its input: the comparison, or with which number the input is refused and why.
use Rattle.std.specs.Prelude.{ℕ, List, [], ◌++◌, eqb, ltb, length, replicate}
use Rattle.basics.specs.Choice.{pick}
use Rattle.basics.specs.Lists.{sum}
use Rattle.meaning.specs.Numbers.{Answer, refused, done}
use Rattle.meaning.specs.Block.{Block}
use Rattle.meaning.specs.Format.{read_block}
use Rattle.text.specs.Text.{words, decimal}
use Rattle.answers.specs.Sentences.{refusal}
use Rattle.comparison.specs.Input.{block_in, contents_in, contents, contents_size}
use Rattle.comparison.specs.Lines.{compared_on}

abbrev pub listed : List ℕ
listed = words "The numbers are listed in docs/PROMISES.md under \"Numbers returned\".\n"

-- "too few or too many bytes": so many follow the block, and so many are needed
unfoldable pub wrong_size : ℕ → ℕ → List ℕ
wrong_size given needed =
    words "refused with 6: " ++ decimal given ++ words " bytes follow the block, and its variables and cells take " ++ decimal needed ++ (words ".\n" ++ listed)

-- no block with its contents has more than 9,303 bytes: 983 of the block, and 4 for each of 32 variables and 2,048 cells
abbrev pub too_long : List ℕ
too_long = words "refused with 6: The input has over 9303 bytes, which no block has with its variables and cells.\n" ++ listed

abbrev pub usage : List ℕ
usage = words "usage: compare < FILE\nFILE has the bytes of one block, then each variable and each cell as four bytes, big-endian.\n"

-- a block that is refused; no input at all also has how the program is used
unfoldable pub refusal_text : ℕ → ℕ → List ℕ
refusal_text number given = refusal number ++ pick (eqb given 0) usage []

-- the room in which the list is made: 4,096 bytes are enough for every list
unfoldable pub room : List ℕ
room = replicate 4096 0

-- the comparison for a block that declares these arrays, variables and live-out variables, where its contents are as many bytes as they take
unfoldable pub sized_text : List ℕ → List ℕ → ℕ → ℕ → List ℕ → List ℕ
sized_text bytes lengths variables live rest =
    pick (eqb (length rest) (contents_size variables lengths))
    (compared_on lengths live bytes room (contents variables (sum lengths) rest))
    (wrong_size (length rest) (contents_size variables lengths))

abbrev pub answer_text : List ℕ → List ℕ → ℕ → Answer Block → List ℕ
answer_text bytes rest given (refused number) = refusal_text number given
answer_text bytes rest given (done b) = sized_text bytes b.lengths b.variables b.live rest

unfoldable pub compared : List ℕ → List ℕ
compared input =
    pick (ltb 9303 (length input)) too_long (answer_text (block_in input) (contents_in input) (length input) (read_block (block_in input)))
