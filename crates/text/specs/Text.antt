-- Text as bytes: words in plain letters, numbers in decimal, bytes in hexadecimal.
use Rattle.std.specs.Prelude.{ℕ, zero, suc, ◌+◌, ◌-◌, ◌/◌, ◌%◌, true, false, List, [], ◌∷◌, ◌++◌, ltb, length, replicate}
use Prim.Native.Char.{code}
use Prim.Native.String.{String, [] as none, ◌∷◌ as ◌then◌}
use Rattle.basics.specs.Choice.{pick}

-- words in plain letters, a byte each
abbrev pub words : String → List ℕ
words none = []
words (c then rest) = code c ∷ words rest

-- the letter of a digit below 16: 0 to 9, then a to f
abbrev pub letter : ℕ → ℕ
letter d = pick (ltb d 10) (48 + d) (87 + d)

-- the last digits of a number in decimal, with at most k in front of the last one
unfoldable pub spelled : ℕ → ℕ → List ℕ
spelled zero n = letter (n % 10) ∷ []
spelled (suc k) n = elim (ltb n 10) [ true ↦ letter (n % 10) ∷ [] | false ↦ spelled k (n / 10) ++ letter (n % 10) ∷ [] ]

-- a number in decimal: one of 64 bits has at most 20 digits
abbrev pub decimal : ℕ → List ℕ
decimal n = spelled 19 n

-- a number in decimal, and the byte that ends it
abbrev pub field : ℕ → ℕ → List ℕ
field n end = decimal n ++ end ∷ []

-- bytes in lower-case hexadecimal, two digits a byte
unfoldable pub hex : List ℕ → List ℕ
hex [] = []
hex (byte ∷ bytes) = letter (byte / 16) ∷ letter (byte % 16) ∷ hex bytes

abbrev pub spaces : ℕ → List ℕ
spaces n = replicate n 32

-- a number in decimal at the right end of a column, or whole where the column is too narrow
unfoldable pub column : ℕ → ℕ → List ℕ
column width n = spaces (width - length (decimal n)) ++ decimal n

-- the one line of a section that has nothing to say
abbrev pub no_line : List ℕ
no_line = words "  none\n"
