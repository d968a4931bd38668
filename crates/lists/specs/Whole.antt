-- What is asked of a whole list: that it reads (8), and that it is allowed beside its block (9).
use Rattle.std.specs.Prelude.{ℕ, Bool, true, false, ◌&&◌, List, [], eqb, leb, length, take, drop}
use Rattle.std.proofs.Math.Option.{Option, none, some}
use Rattle.meaning.specs.Block.{Block}
use Rattle.meaning.specs.Numbers.{Answer, done, demand, and_then}
use Rattle.meaning.specs.List.{Instruction, field, read_list, allowed}
use Rattle.meaning.specs.Format.{number}
use Rattle.meaning.specs.Calls.{list_of}

abbrev pub is_some : {A : Type 0} → Option A → Bool
is_some none = false
is_some (some a) = true

-- "under 4, version, length, over 160"
abbrev pub header_fits : List ℕ → Bool
header_fits bytes =
    leb 4 (length bytes) && eqb (field 0 bytes) 1 && eqb (number (take 2 (drop 1 bytes))) (length bytes) && leb (field 3 bytes) 160

-- 9, for a list that reads; one that does not is not allowed
abbrev pub allowed_of : Block → List ℕ → Option (List Instruction) → Bool
allowed_of b written none = false
allowed_of b written (some list) = allowed b written list

-- "for a list, all of 8, then 9"
unfoldable pub list_checked : Block → List ℕ → Answer (Unit {0})
list_checked b bytes = and_then (list_of (read_list bytes)) λ list. demand (allowed b [] list) 9 (done tt)
