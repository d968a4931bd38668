-- One turn of each of the reader's two loops: the next array length, and the next statement with the place of the record behind it.
use Rattle.std.specs.Prelude.{ℕ, ◌+◌, List, [], ◌∷◌, leb, length, take, Option, Some, None}
use Rattle.meaning.specs.declared.Statement.{Statement}
use Rattle.meaning.specs.Numbers.{Answer, refused, done, demand}
use Rattle.meaning.specs.Block.{declares_statement}
use Rattle.meaning.specs.Format.{number, length_fits, read_record}

-- "4 if the bytes end, else 3"
unfoldable pub next_length : List ℕ → Answer ℕ
next_length bytes =
    demand (leb 2 (length bytes)) 4 (demand (length_fits (number (take 2 bytes))) 3 (done (number (take 2 bytes))))

-- "4 before 5"
abbrev pub record_next : ℕ → List ℕ → ℕ → Option Statement → Answer (Statement × ℕ)
record_next variables lengths next None = refused 4
record_next variables lengths next (Some s) = demand (declares_statement variables lengths s) 5 (done (s, next))

-- the record at the front of the bytes, which start at a place of the whole
unfoldable pub next_statement : ℕ → List ℕ → ℕ → List ℕ → Answer (Statement × ℕ)
next_statement variables lengths start [] = refused 4
next_statement variables lengths start (size ∷ bytes) =
    demand (leb size (length bytes)) 4 (record_next variables lengths (start + 1 + size) (read_record (take size bytes)))
