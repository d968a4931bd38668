-- Refusals: every number, by every call that gives it, and every two faults whose order document 01 fixes, as one statement over one table. It
-- says all that comes back: the number, zeros beside it (but for 7 the length needed), and what was lent as it was.
use mathlib.Core.Path.{◌≡◌, refl}
use Prim.Native.Nat.{ℕ}
use mathlib.Core.List.{List, [], ◌∷◌, ◌++◌, map}
use lib.ListN.{replicate}
use Rattle.meaning.specs.declared.Place.TheVariants.{Variable, Cell}
use Rattle.meaning.specs.declared.Operand.TheVariants.{Nothing, Held}
use Rattle.meaning.specs.Format.{bytes_of}
use Rattle.meaning.proofs.Computes.{everything}
use Rattle.meaning.proofs.Calling.{Call, reading, writing, making, running_block, running_list, Result, read, wrote, made, ran, result}
use Rattle.meaning.proofs.Calling.{does, v0, memory, good, contents, lent, list_of, repeated, loads}

-- "A refusal returns zeros beside its number, except that 7 also returns the length needed; nothing lent is written."
abbrev pub refusal : ℕ → ℕ → Call → Result
refusal number needed (reading bytes) = read (record { status = number; block = memory 0 0 0 0 [] [] })
refusal number needed (writing block room) = wrote (record { status = number; size = needed; room = room })
refusal number needed (making bytes room) = made (record { status = number; size = needed; block_cost = 0; list_cost = 0; room = room })
refusal number needed (running_block bytes lent) = ran (record { status = number; price = 0; contents = lent })
refusal number needed (running_list bytes list lent) = ran (record { status = number; price = 0; contents = lent })

pub record Row : Type 0 where
  pub number : ℕ
  pub needed : ℕ
  pub call : Call

abbrev pub gives : ℕ → Call → Row
gives number call = record { number = number; needed = 0; call = call }

abbrev pub needs : ℕ → Call → Row
needs size call = record { number = 7; needed = size; call = call }

-- "Order for a block: short (2), 1, stated length (2), header counts (3), array lengths (4 if the bytes end, else 3, array by array), then
-- record by record 4 before 5, then bytes left over (4)."
pub of_reading : List Row
of_reading =
    -- no byte at all
    gives 2 (reading [])
    -- under 7 bytes (2) before version 2 (1)
    ∷ gives 2 (reading (bytes_of 6 0x02_0006_00_00_00))
    -- version 2 (1) before the stated length (2)
    ∷ gives 1 (reading (bytes_of 7 0x02_0008_00_00_00_00))
    -- version 2 (1) before 33 variables (3)
    ∷ gives 1 (reading (bytes_of 7 0x02_0007_21_00_00_00))
    -- version 2 (1) before record 0, which is missing (4)
    ∷ gives 1 (reading (bytes_of 7 0x02_0007_01_00_00_01))
    -- version 0 (1) before a variable not declared (5)
    ∷ gives 1 (reading (bytes_of 13 0x00_000d_01_00_00_01_050001010100))
    -- the stated length is one above the number given
    ∷ gives 2 (reading (bytes_of 7 0x01_0008_00_00_00_00))
    -- the stated length is one below the number given: that is 2, and not a byte left over (4)
    ∷ gives 2 (reading (bytes_of 8 0x01_0007_00_00_00_00_00))
    -- the stated length (2) before 33 variables (3)
    ∷ gives 2 (reading (bytes_of 7 0x01_0006_21_00_00_00))
    -- the stated length (2) before a variable not declared (5)
    ∷ gives 2 (reading (bytes_of 13 0x01_000e_01_00_00_01_050001010100))
    -- 33 variables
    ∷ gives 3 (reading (bytes_of 7 0x01_0007_21_00_00_00))
    -- two live out of one variable
    ∷ gives 3 (reading (bytes_of 7 0x01_0007_01_02_00_00))
    -- 9 arrays (3) before their lengths, which are missing (4)
    ∷ gives 3 (reading (bytes_of 7 0x01_0007_00_00_09_00))
    -- 65 statements (3) before their records, which are missing (4)
    ∷ gives 3 (reading (bytes_of 7 0x01_0007_00_00_00_41))
    -- array 0 is missing
    ∷ gives 4 (reading (bytes_of 7 0x01_0007_00_00_01_00))
    -- half of array 0 is missing (4) before what it says, length 0 (3)
    ∷ gives 4 (reading (bytes_of 8 0x01_0008_00_00_01_00_00))
    -- array 0 has no cell
    ∷ gives 3 (reading (bytes_of 9 0x01_0009_00_00_01_00_0000))
    -- array 0 has 257 cells
    ∷ gives 3 (reading (bytes_of 9 0x01_0009_00_00_01_00_0101))
    -- array 0 has no cell (3) before array 1, which is missing (4)
    ∷ gives 3 (reading (bytes_of 9 0x01_0009_00_00_02_00_0000))
    -- array 1 is missing
    ∷ gives 4 (reading (bytes_of 9 0x01_0009_00_00_02_00_0001))
    -- array 1 has no cell (3) before record 0, which is missing (4)
    ∷ gives 3 (reading (bytes_of 11 0x01_000b_00_00_02_01_0001_0000))
    -- array 0 has 257 cells (3) before a variable not declared (5)
    ∷ gives 3 (reading (bytes_of 15 0x01_000f_01_00_01_01_0101_050001010100))
    -- record 0 is missing
    ∷ gives 4 (reading (bytes_of 7 0x01_0007_01_00_00_01))
    -- a record of no byte
    ∷ gives 4 (reading (bytes_of 8 0x01_0008_01_00_00_01_00))
    -- a record that runs past the end (4) before the variable that it names (5)
    ∷ gives 4 (reading (bytes_of 13 0x01_000d_01_00_00_01_060001010101))
    -- a record with a byte behind its fields
    ∷ gives 4 (reading (bytes_of 14 0x01_000e_01_00_00_01_06000100010000))
    -- a record that ends within its left operand
    ∷ gives 4 (reading (bytes_of 12 0x01_000c_01_00_00_01_0400010001))
    -- operation 8
    ∷ gives 4 (reading (bytes_of 15 0x01_000f_01_00_00_01_0708010001000100))
    -- a destination of kind 3
    ∷ gives 4 (reading (bytes_of 13 0x01_000d_01_00_00_01_050003000100))
    -- an operand of kind 3
    ∷ gives 4 (reading (bytes_of 13 0x01_000d_01_00_00_01_050001000300))
    -- a constant as destination
    ∷ gives 4 (reading (bytes_of 16 0x01_0010_01_00_00_01_080000000000010100))
    -- a copy with two operands
    ∷ gives 4 (reading (bytes_of 15 0x01_000f_01_00_00_01_0700010001000100))
    -- an addition with one operand
    ∷ gives 4 (reading (bytes_of 13 0x01_000d_01_00_00_01_050101000100))
    -- operation 8 (4) before the variable not declared in the same record (5)
    ∷ gives 4 (reading (bytes_of 15 0x01_000f_01_00_00_01_0708010101000100))
    -- a variable not declared in record 0 (5) before operation 8 in record 1 (4)
    ∷ gives 5 (reading (bytes_of 19 0x01_0013_01_00_00_02_050001010100_050801000100))
    -- a variable not declared (5) before the byte left over (4)
    ∷ gives 5 (reading (bytes_of 14 0x01_000e_01_00_00_01_050001010100_00))
    -- a byte left over
    ∷ gives 4 (reading (bytes_of 14 0x01_000e_01_00_00_01_050001000100_00))
    -- v1 of one variable, as right operand
    ∷ gives 5 (reading (bytes_of 15 0x01_000f_01_00_00_01_0701010001000101))
    -- array 1 of one array, as left operand
    ∷ gives 5 (reading (bytes_of 16 0x01_0010_01_00_01_01_0002_06000100020100))
    -- a[2] of two cells, as destination
    ∷ gives 5 (reading (bytes_of 16 0x01_0010_01_00_01_01_0002_06000200020100))
    ∷ []

-- "The writer: 3, 4, 5, 7, each over the whole block."
pub of_writing : List Row
of_writing =
    -- 33 variables (3) before a room that is too small (7)
    gives 3 (writing (memory 33 0 0 0 [] []) [])
    -- two live out of one variable
    ∷ gives 3 (writing (memory 1 2 0 0 [] []) (7 ∷ []))
    -- 9 arrays
    ∷ gives 3 (writing (memory 0 0 9 0 (replicate 8 1) []) (7 ∷ []))
    -- 65 statements (3) before the slots, which have no left operand (4)
    ∷ gives 3 (writing (memory 0 0 0 65 [] []) (7 ∷ []))
    -- array 0 has 257 cells (3) before a variable not declared (5)
    ∷ gives 3 (writing (memory 1 0 1 1 (257 ∷ []) (does 0 (Variable 1) v0 Nothing ∷ [])) (7 ∷ []))
    -- array 1 has no cell (3) before operation 8 (4)
    ∷ gives 3 (writing (memory 1 0 2 1 (1 ∷ 0 ∷ []) (does 8 (Variable 0) v0 v0 ∷ [])) (7 ∷ []))
    -- operation 8 (4) before a room that is too small (7)
    ∷ gives 4 (writing (memory 1 0 0 1 [] (does 8 (Variable 0) v0 v0 ∷ [])) [])
    -- a copy with two operands
    ∷ gives 4 (writing (memory 1 0 0 1 [] (does 0 (Variable 0) v0 v0 ∷ [])) (7 ∷ []))
    -- an addition with one operand
    ∷ gives 4 (writing (memory 1 0 0 1 [] (does 1 (Variable 0) v0 Nothing ∷ [])) (7 ∷ []))
    -- a copy with no operand
    ∷ gives 4 (writing (memory 1 0 0 1 [] (does 0 (Variable 0) Nothing Nothing ∷ [])) (7 ∷ []))
    -- operation 8 in statement 1 (4) before a variable not declared in statement 0 (5): the other order than in reading
    ∷ gives 4 (writing (memory 1 0 0 2 [] (does 0 (Variable 1) v0 Nothing ∷ does 8 (Variable 0) v0 v0 ∷ [])) (7 ∷ []))
    -- a variable not declared (5) before a room that is too small (7)
    ∷ gives 5 (writing (memory 1 0 0 1 [] (does 0 (Variable 1) v0 Nothing ∷ [])) [])
    -- array 1 of one array
    ∷ gives 5 (writing (memory 1 0 1 1 (2 ∷ []) (does 1 (Variable 0) (Held (Cell 1 0)) v0 ∷ [])) (7 ∷ []))
    -- a[2] of two cells
    ∷ gives 5 (writing (memory 1 0 1 1 (2 ∷ []) (does 1 (Variable 0) v0 (Held (Cell 0 2)) ∷ [])) (7 ∷ []))
    -- the answer takes 13 bytes, the room has 12
    ∷ needs 13 (writing (memory 1 0 0 1 [] (does 0 (Variable 0) v0 Nothing ∷ [])) (replicate 12 7))
    -- slots past the counts are neither tested nor written: no 3, 4 or 5
    ∷ needs 13 (writing (memory 1 0 0 1 (0 ∷ []) (does 0 (Variable 0) v0 Nothing ∷ does 8 (Variable 9) v0 v0 ∷ [])) [])
    ∷ []

-- "Making a list: block, then 7."
pub of_making : List Row
of_making =
    -- under 7 bytes (2) before a room that is too small (7)
    gives 2 (making (bytes_of 6 0x01_0006_00_00_00) [])
    -- version 2 (1) before a room that is too small (7)
    ∷ gives 1 (making (bytes_of 7 0x02_0007_00_00_00_00) [])
    -- one live out of no variable (3) before a room that is too small (7)
    ∷ gives 3 (making (bytes_of 7 0x01_0007_00_01_00_00) [])
    -- a byte left over (4), with room enough
    ∷ gives 4 (making (bytes_of 8 0x01_0008_00_00_00_00_00) (replicate 9 7))
    -- a variable not declared (5) before a room that is too small (7)
    ∷ gives 5 (making (bytes_of 13 0x01_000d_01_00_00_01_050001010100) [])
    -- worked block 2: the list takes 29 bytes, the room has 28
    ∷ needs 29 (making (bytes_of 57 0x01_0039_00_00_03_04_0004_0004_0004_0a01020200020000020100_0a01020201020001020101_0a01020202020002020102_0a01020203020003020103) (replicate 28 7))
    -- worked block 6: 10 bytes for the list that is the answer, though the packed list would take more
    ∷ needs 10 (making (bytes_of 27 0x01_001b_04_04_01_02_0002_080101000200000102_080101010200010103) (replicate 9 7))
    -- worked block 1, with no room at all
    ∷ needs 4 (making (bytes_of 7 0x01_0007_00_00_00_00) [])
    ∷ []

-- "Running: block, 6"
pub of_running_a_block : List Row
of_running_a_block =
    -- version 2 (1) before one variable too many (6)
    gives 1 (running_block (bytes_of 7 0x02_0007_00_00_00_00) (contents 1 0))
    -- under 7 bytes (2) before one variable too many (6)
    ∷ gives 2 (running_block (bytes_of 6 0x01_0006_00_00_00) (contents 1 0))
    -- one live out of no variable (3) before one variable too many (6)
    ∷ gives 3 (running_block (bytes_of 7 0x01_0007_00_01_00_00) (contents 1 0))
    -- record 0 is missing (4) before one variable too few (6)
    ∷ gives 4 (running_block (bytes_of 7 0x01_0007_01_00_00_01) (contents 0 0))
    -- a variable not declared (5) before one variable too many (6)
    ∷ gives 5 (running_block (bytes_of 13 0x01_000d_01_00_00_01_050001010100) (contents 2 0))
    -- one variable too few
    ∷ gives 6 (running_block good (contents 1 6))
    -- one variable too many
    ∷ gives 6 (running_block good (contents 3 6))
    -- one cell too few
    ∷ gives 6 (running_block good (contents 2 5))
    -- one cell too many
    ∷ gives 6 (running_block good (contents 2 7))
    -- variables and cells the wrong way round
    ∷ gives 6 (running_block good (contents 6 2))
    ∷ []

-- "then, for a list, all of 8": what its bytes alone show
pub of_running_a_list : List Row
of_running_a_list =
    -- version 2 of the block (1) before one cell too many (6) and version 2 of the list (8)
    gives 1 (running_list (bytes_of 7 0x02_0007_00_00_00_00) (bytes_of 4 0x02_0004_00) (contents 0 1))
    -- a block under 7 bytes (2) before a list of no bytes (8)
    ∷ gives 2 (running_list [] [] (contents 0 0))
    -- a byte left over behind the block (4) before the cells (6) and the list (8)
    ∷ gives 4 (running_list (bytes_of 8 0x01_0008_00_00_00_00_00) [] (contents 0 1))
    -- 33 variables (3) before a statement not declared (9)
    ∷ gives 3 (running_list (bytes_of 7 0x01_0007_21_00_00_00) (bytes_of 7 0x01_0007_01_020001) (contents 33 0))
    -- a variable not declared (5) before one variable too many (6) and code 8 (8)
    ∷ gives 5 (running_list (bytes_of 13 0x01_000d_01_00_00_01_050001010100) (bytes_of 7 0x01_0007_01_020800) (contents 2 0))
    -- one cell too few (6) before a list of no bytes (8)
    ∷ gives 6 (running_list good [] (contents 2 5))
    -- one variable too many (6) before a statement not declared (9)
    ∷ gives 6 (running_list good (bytes_of 7 0x01_0007_01_020001) (contents 3 6))
    -- under 4 bytes
    ∷ gives 8 (running_list good (bytes_of 3 0x01_0003) lent)
    -- version 2
    ∷ gives 8 (running_list good (bytes_of 4 0x02_0004_00) lent)
    -- the stated length is one above the number given
    ∷ gives 8 (running_list good (bytes_of 4 0x01_0005_00) lent)
    -- 161 instructions
    ∷ gives 8 (running_list good (list_of 161 (repeated 161 (bytes_of 3 0x020000))) lent)
    -- record 0 is missing
    ∷ gives 8 (running_list good (bytes_of 4 0x01_0004_01) lent)
    -- a record of no byte
    ∷ gives 8 (running_list good (bytes_of 5 0x01_0005_01_00) lent)
    -- a record that runs past the end
    ∷ gives 8 (running_list good (bytes_of 6 0x01_0006_01_0200) lent)
    -- a byte left over
    ∷ gives 8 (running_list good (bytes_of 5 0x01_0005_00_00) lent)
    -- code 8; statement 0 before it has not run either
    ∷ gives 8 (running_list good (bytes_of 10 0x01_000a_02_020000_020800) lent)
    -- S with a byte too many
    ∷ gives 8 (running_list good (bytes_of 8 0x01_0008_01_03000000) lent)
    -- L with k = 3
    ∷ gives 8 (running_list good (bytes_of 10 0x01_000a_01_050100030100) lent)
    -- L without an index
    ∷ gives 8 (running_list good (bytes_of 9 0x01_0009_01_0401000201) lent)
    -- C with k = 3
    ∷ gives 8 (running_list good (bytes_of 20 0x01_0014_01_0f020003000000010000000100000001) lent)
    -- C with k = 2 and one constant
    ∷ gives 8 (running_list good (bytes_of 12 0x01_000c_01_0702000200000001) lent)
    -- G with k = 3
    ∷ gives 8 (running_list good (bytes_of 14 0x01_000e_01_09030003010001000100) lent)
    -- G with an operand of kind 3
    ∷ gives 8 (running_list good (bytes_of 12 0x01_000c_01_0703000201000300) lent)
    -- G with k = 2 and one operand
    ∷ gives 8 (running_list good (bytes_of 10 0x01_000a_01_050300020100) lent)
    -- G with k = 2 and three operands
    ∷ gives 8 (running_list good (bytes_of 14 0x01_000e_01_09030002010001000100) lent)
    -- O with operation 8
    ∷ gives 8 (running_list good (bytes_of 17 0x01_0011_02_050100020100_06040108020000) lent)
    -- O with k = 3
    ∷ gives 8 (running_list good (bytes_of 17 0x01_0011_02_050100020100_06040101030000) lent)
    -- O that copies, with rb
    ∷ gives 8 (running_list good (bytes_of 17 0x01_0011_02_050100020100_06040100020000) lent)
    -- O that adds, without rb
    ∷ gives 8 (running_list good (bytes_of 16 0x01_0010_02_050100020100_050401010200) lent)
    -- W with k = 1
    ∷ gives 8 (running_list good (bytes_of 16 0x01_0010_02_050100020100_050500010000) lent)
    -- D without an index
    ∷ gives 8 (running_list good (bytes_of 15 0x01_000f_02_050100020100_0406000000) lent)
    -- X with a byte too many
    ∷ gives 8 (running_list good (bytes_of 16 0x01_0010_02_050100020100_050700000000) lent)
    -- code 8 in record 1 (8) before a statement not declared in record 0 (9)
    ∷ gives 8 (running_list good (bytes_of 10 0x01_000a_02_020001_020800) lent)
    -- a byte left over (8) before a statement not declared (9)
    ∷ gives 8 (running_list good (bytes_of 8 0x01_0008_01_020001_00) lent)
    ∷ []

-- "then 9": what needs the block, or what was written before
pub against_the_rules : List Row
against_the_rules =
    -- statement 1 of one; statement 0 before it has not run either
    gives 9 (running_list good (bytes_of 10 0x01_000a_02_020000_020001) lent)
    -- register 1, where 0 is the next
    ∷ gives 9 (running_list good (bytes_of 10 0x01_000a_01_050101020100) lent)
    -- register 0 a second time
    ∷ gives 9 (running_list good (bytes_of 16 0x01_0010_02_050100020100_050100020100) lent)
    -- a 97th register
    ∷ gives 9 (running_list good (list_of 97 (loads 97 0)) lent)
    -- O reads its own register, which is not yet written
    ∷ gives 9 (running_list good (bytes_of 10 0x01_000a_01_050400000200) lent)
    -- rb is not yet written
    ∷ gives 9 (running_list good (bytes_of 17 0x01_0011_02_050100020100_06040101020002) lent)
    -- O with k = 4 reads a register of two lanes
    ∷ gives 9 (running_list good (bytes_of 17 0x01_0011_02_050100020100_06040101040000) lent)
    -- O with k = 2 reads a second register of four lanes
    ∷ gives 9 (running_list good (bytes_of 23 0x01_0017_03_050100020100_050101040100_06040201020001) lent)
    -- W with k = 2 of a register of four lanes
    ∷ gives 9 (running_list good (bytes_of 16 0x01_0010_02_050100040100_050500020100) lent)
    -- W of a register that is not written
    ∷ gives 9 (running_list good (bytes_of 10 0x01_000a_01_050500020100) lent)
    -- D of lane 2 of two
    ∷ gives 9 (running_list good (bytes_of 16 0x01_0010_02_050100020100_050600020000) lent)
    -- X of lane 255
    ∷ gives 9 (running_list good (bytes_of 15 0x01_000f_02_050100020100_040700ff00) lent)
    -- X of a register that is not written
    ∷ gives 9 (running_list good (bytes_of 9 0x01_0009_01_0407000000) lent)
    -- L past the end of a, onto b
    ∷ gives 9 (running_list good (bytes_of 10 0x01_000a_01_050100020001) lent)
    -- W past the end of a, onto b
    ∷ gives 9 (running_list good (bytes_of 16 0x01_0010_02_050100020100_050500020001) lent)
    -- L of array 2 of two
    ∷ gives 9 (running_list good (bytes_of 10 0x01_000a_01_050100020200) lent)
    -- D to a[2] of two cells
    ∷ gives 9 (running_list good (bytes_of 16 0x01_0010_02_050100020100_050600000002) lent)
    -- X to v2 of two variables
    ∷ gives 9 (running_list good (bytes_of 15 0x01_000f_02_050100020100_0407000002) lent)
    -- G of v2 of two variables
    ∷ gives 9 (running_list good (bytes_of 12 0x01_000c_01_0703000201000102) lent)
    -- G of b[4] of four cells
    ∷ gives 9 (running_list good (bytes_of 13 0x01_000d_01_080300020100020104) lent)
    ∷ []

pub refusals : List Row
refusals = of_reading ++ of_writing ++ of_making ++ of_running_a_block ++ of_running_a_list ++ against_the_rules

-- Every call is refused with its number, with nothing but zeros or the length needed beside it, and leaves what was lent as it was.
pub every_refusal : map (λ row. result row.call) refusals ≡ map (λ row. refusal row.number row.needed row.call) refusals
unfolding everything refusals of_reading of_writing of_making of_running_a_block of_running_a_list against_the_rules
every_refusal = refl
