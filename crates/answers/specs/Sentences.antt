-- What is wrong, in plain words: a sentence for each number with which making a list is refused ("Numbers returned"), and how the list
-- program is used.
use Rattle.std.specs.Prelude.{ℕ, List, [], ◌++◌, eqb, ltb}
use Rattle.basics.specs.Choice.{pick}
use Rattle.text.specs.Text.{words, decimal}

abbrev pub other_version : List ℕ
other_version = words "The first byte of the block, its version, is not 1.\n"

abbrev pub other_length : List ℕ
other_length = words "The block has under 7 bytes, or states a length that is not the number of bytes given.\n"

abbrev pub over_limit : List ℕ
over_limit = words "A count or an array's length is over its limit, an array has no cells, or more variables are live out than there are.\n"

abbrev pub broken_record : List ℕ
broken_record =
    words "The bytes end early or some are left over, or in a record the length, the operation, a kind or the number of operands is wrong, or the destination is a constant.\n"

abbrev pub not_declared : List ℕ
not_declared = words "A statement names a variable, an array or an index that the block does not declare.\n"

abbrev pub no_room : List ℕ
no_room = words "The list takes more bytes than there is room for.\n"

unfoldable pub sentence : ℕ → List ℕ
sentence number =
    pick (eqb number 1) other_version
    (pick (eqb number 2) other_length
    (pick (eqb number 3) over_limit
    (pick (eqb number 4) broken_record
    (pick (eqb number 5) not_declared
    (pick (eqb number 7) no_room [])))))

-- a refusal, for people: the number, what is wrong, and where the numbers are listed
unfoldable pub refusal : ℕ → List ℕ
refusal number =
    words "refused with " ++ decimal number ++ words ": " ++ sentence number
    ++ words "The numbers are listed in docs/PROMISES.md under \"Numbers returned\".\n"

abbrev pub too_many_bytes : List ℕ
too_many_bytes = words "The input has over 4096 bytes, which no block has.\n"

abbrev pub usage : List ℕ
usage = words "usage: list < BLOCK\nBLOCK is a file with the bytes of one block; the list that is made for it is printed in hexadecimal.\n"

-- what standard error is told of input of so many bytes that was answered with this number
unfoldable pub complaint : ℕ → ℕ → List ℕ
complaint number given = pick (ltb 4096 given) too_many_bytes (sentence number ++ pick (eqb given 0) usage [])
