-- Instructions as records of bytes, one behind the other in a table, with their count and price. The numbers wrap where their type ends: a list
-- within the limits does not come near.
use Rattle.std.specs.Prelude.{ℕ, ◌+◌, ◌-◌, ◌/◌, ◌%◌, ◌^◌, List, [], ◌∷◌, length, ◌==◌, slice_set}
use Rattle.basics.specs.Choice.{pick}
use Rattle.encode.specs.declared.Written.{Written}

-- the bytes, and how far the list goes in them
pub record Listing : Type 0 where
  pub out : List ℕ
  pub written : Written

abbrev pub listing : List ℕ → Written → Listing
listing out written = record { out = out; written = written }

-- bytes one behind the other: from i behind a place on, and from the place on
abbrev pub put_from : List ℕ → ℕ → ℕ → List ℕ → List ℕ
put_from out place i [] = out
put_from out place i (byte ∷ bytes) = put_from (slice_set out (place + i) byte) place (i + 1) bytes

abbrev pub put_all : List ℕ → ℕ → List ℕ → List ℕ
put_all out place [] = out
put_all out place (byte ∷ bytes) = put_from (slice_set out place byte) place 1 bytes

abbrev pub record_behind : Written → ℕ → ℕ → Written
record_behind w size price =
    record { size = (w.size + (1 + size)) % 2 ^ 16; count = (w.count + 1) % 2 ^ 16; price = (w.price + price) % 2 ^ 64 }

-- one record more, "led by its remaining length"
abbrev pub recorded : List ℕ → ℕ → Listing → Listing
recorded bytes price l =
    record { out = put_all l.out l.written.size (length bytes ∷ bytes); written = record_behind l.written (length bytes) price }

-- the array and the index of a cell, and a variable's number, from their codes
abbrev pub array_of : ℕ → ℕ
array_of code = (code - 514) / 257 % 256

abbrev pub index_of : ℕ → ℕ
index_of code = (code - 514) % 257 % 256

abbrev pub variable_of : ℕ → ℕ
variable_of code = (code - 2) / 2 % 256

abbrev pub write_s : ℕ → ℕ → Listing → Listing
write_s s price l = recorded (0 ∷ s ∷ []) price l

-- L, W and D
abbrev pub write_cells : ℕ → ℕ → ℕ → ℕ → ℕ → Listing → Listing
write_cells code r k cell price l = recorded (code ∷ r ∷ k ∷ array_of cell ∷ index_of cell ∷ []) price l

-- "copy: no rb"
abbrev pub write_o : ℕ → ℕ → ℕ → ℕ → ℕ → Listing → Listing
write_o r operation k ra rb l =
    pick (operation == 0) (recorded (4 ∷ r ∷ operation ∷ k ∷ ra ∷ []) 1 l) (recorded (4 ∷ r ∷ operation ∷ k ∷ ra ∷ rb ∷ []) 1 l)

abbrev pub write_x : ℕ → ℕ → ℕ → Listing → Listing
write_x r lane variable l = recorded (7 ∷ r ∷ lane ∷ variable ∷ []) 1 l

-- no record yet, behind the room for the header
abbrev pub nothing_written : Written
nothing_written = record { size = 4; count = 0; price = 0 }

-- "version 1, total length (2 bytes), instruction count"
abbrev pub write_header : Listing → List ℕ
write_header l = put_all l.out 0 (1 ∷ l.written.size / 256 % 256 ∷ l.written.size % 256 ∷ l.written.count % 256 ∷ [])

abbrev pub headed : Listing → Listing
headed l = listing (write_header l) l.written
