-- Where a list's header fits, its records are read; else it does not read.
use mathlib.Core.Path.{◌≡◌}
use mathlib.Core.Bool.{true, false}
use mathlib.Core.Option.{none}
use mathlib.Core.List.{List}
use Prim.Native.Nat.{ℕ}
use lib.ListN.{drop}
use Rattle.meaning.specs.List.{field, read_records, read_list}
use Rattle.lists.specs.Whole.{header_fits}

pub header_read : (bytes : List ℕ) → header_fits bytes ≡ true → read_list bytes ≡ read_records (field 3 bytes) (drop 4 bytes)
unfolding read_list
header_read bytes fits = rw (fits, read_list)

pub header_broken : (bytes : List ℕ) → header_fits bytes ≡ false → read_list bytes ≡ none
unfolding read_list
header_broken bytes fails = rw (fails, read_list)
