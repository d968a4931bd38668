-- What the explain program prints: the account of its input, and for no input at all how the program is used.
use Rattle.std.specs.Prelude.{ℕ, List, [], ◌++◌, eqb, ltb, length}
use Rattle.basics.specs.Choice.{pick}
use Rattle.text.specs.Text.{words}
use Rattle.account.specs.Account.{explained}

abbrev pub too_many_bytes : List ℕ
too_many_bytes =
    words "refused with 2: The input has over 4096 bytes, which no block has.\nThe numbers are listed in docs/PROMISES.md under \"Numbers returned\".\n"

abbrev pub usage : List ℕ
usage = words "usage: explain < BLOCK\nBLOCK is a file with the bytes of one block; how its list comes about is printed.\n"

unfoldable pub printed : List ℕ → List ℕ
printed input = pick (ltb 4096 (length input)) too_many_bytes (explained input ++ pick (eqb (length input) 0) usage [])
