-- What `compare` is given: "the block's bytes, then each variable and each cell as four bytes, big-endian".
use Rattle.std.specs.Prelude.{ℕ, zero, suc, ◌+◌, ◌*◌, List, [], ◌∷◌, get_or, take, drop}
use Rattle.basics.specs.Lists.{sum}
use Rattle.meaning.specs.Machine.{Contents}

-- a block states its length in its second and third byte
abbrev pub stated : List ℕ → ℕ
stated input = get_or input 1 0 * 256 + get_or input 2 0

-- the block's bytes, and those behind them
abbrev pub block_in : List ℕ → List ℕ
block_in input = take (stated input) input

abbrev pub contents_in : List ℕ → List ℕ
contents_in input = drop (stated input) input

-- a number of four bytes at the front
abbrev pub four_in : List ℕ → ℕ
four_in bytes = ((get_or bytes 0 0 * 256 + get_or bytes 1 0) * 256 + get_or bytes 2 0) * 256 + get_or bytes 3 0

-- so many numbers of four bytes, one behind the other
unfoldable pub numbers_in : ℕ → List ℕ → List ℕ
numbers_in zero bytes = []
numbers_in (suc n) bytes = four_in bytes ∷ numbers_in n (drop 4 bytes)

-- the variables, and then the cells, array after array
abbrev pub contents : ℕ → ℕ → List ℕ → Contents
contents variables cells bytes =
    record { variables = numbers_in variables bytes; cells = numbers_in cells (drop (4 * variables) bytes) }

-- how many bytes the variables and the cells of these arrays take
abbrev pub contents_size : ℕ → List ℕ → ℕ
contents_size variables lengths = 4 * (variables + sum lengths)
