-- The other side of the refusals: calls that just keep within the limits, and lists that are odd but break no rule, are done. One statement
-- over one table says all that comes back.
use mathlib.Core.Path.{◌≡◌, refl}
use mathlib.Core.List.{List, [], ◌∷◌, ◌++◌, map}
use lib.ListN.{replicate}
use Rattle.meaning.specs.declared.Place.TheVariants.{Variable}
use Rattle.meaning.specs.declared.Operand.TheVariants.{Nothing}
use Rattle.meaning.specs.Format.{bytes_of}
use Rattle.meaning.proofs.Computes.{everything}
use Rattle.meaning.proofs.Calling.{Call, reading, writing, making, running_block, running_list, Result, read, wrote, made, ran, result}
use Rattle.meaning.proofs.Calling.{does, v0, memory, good, lent, list_of, repeated, loads}

pub record Row : Type 0 where
  pub call : Call
  pub comes_to : Result

pub limits : List Row
limits =
    -- a block of 7 bytes
    record { call = reading (bytes_of 7 0x01_0007_00_00_00_00); comes_to = read (record { status = 0; block = memory 0 0 0 0 [] [] }) }
    -- 32 variables, all of them live out, and 8 arrays of 1 and 256 cells
    ∷ record {
      call = reading (bytes_of 23 0x01_0017_20_20_08_00_0001_0100_0001_0100_0001_0100_0001_0100);
      comes_to = read (record { status = 0; block = memory 32 32 8 0 (1 ∷ 256 ∷ 1 ∷ 256 ∷ 1 ∷ 256 ∷ 1 ∷ 256 ∷ []) [] });
    }
    -- 64 statements
    ∷ record {
      call = reading (bytes_of 7 0x01_0187_01_00_00_40 ++ repeated 64 (bytes_of 6 0x050001000100));
      comes_to = read (record { status = 0; block = memory 1 0 0 64 [] (replicate 64 (does 0 (Variable 0) v0 Nothing)) });
    }
    -- 64 statements written, in a room that has as many bytes as they take
    ∷ record {
      call = writing (memory 1 0 0 64 [] (replicate 64 (does 0 (Variable 0) v0 Nothing))) (replicate 391 7);
      comes_to = wrote (record { status = 0; size = 391; room = bytes_of 7 0x01_0187_01_00_00_40 ++ repeated 64 (bytes_of 6 0x050001000100) });
    }
    -- "bytes past the answer keep their contents"
    ∷ record {
      call = writing (memory 32 32 1 0 (256 ∷ []) []) (replicate 11 7);
      comes_to = wrote (record { status = 0; size = 9; room = bytes_of 11 0x01_0009_20_20_01_00_0100_0707 });
    }
    -- worked block 1, in a room of 4 bytes
    ∷ record {
      call = making (bytes_of 7 0x01_0007_00_00_00_00) (replicate 4 7);
      comes_to = made (record { status = 0; size = 4; block_cost = 0; list_cost = 0; room = bytes_of 4 0x01_0004_00 });
    }
    -- v0=v1
    ∷ record {
      call = running_block good lent;
      comes_to =
          ran (record { status = 0; price = 1; contents = record { variables = 6 ∷ 6 ∷ []; cells = 50 ∷ 51 ∷ 52 ∷ 53 ∷ 54 ∷ 55 ∷ [] } });
    }
    -- a list that leaves the statement out
    ∷ record { call = running_list good (bytes_of 4 0x01_0004_00) lent; comes_to = ran (record { status = 0; price = 0; contents = lent }) }
    -- 160 instructions, which all run the same statement
    ∷ record {
      call = running_list good (list_of 160 (repeated 160 (bytes_of 3 0x020000))) lent;
      comes_to =
          ran (record { status = 0; price = 160; contents = record { variables = 6 ∷ 6 ∷ []; cells = 50 ∷ 51 ∷ 52 ∷ 53 ∷ 54 ∷ 55 ∷ [] } });
    }
    -- 96 registers
    ∷ record { call = running_list good (list_of 96 (loads 96 0)) lent; comes_to = ran (record { status = 0; price = 96; contents = lent }) }
    -- L of the last two cells of b, W to the last two of a
    ∷ record {
      call = running_list good (bytes_of 16 0x01_0010_02_050100020102_050500020000) lent;
      comes_to = ran (record { status = 0; price = 2; contents = record { variables = 5 ∷ 6 ∷ []; cells = 54 ∷ 55 ∷ 52 ∷ 53 ∷ 54 ∷ 55 ∷ [] } });
    }
    -- D of lane 3 of four to the last cell of a, X of lane 3 of four to the last variable
    ∷ record {
      call = running_list good (bytes_of 21 0x01_0015_03_050100040100_050600030001_0407000301) lent;
      comes_to = ran (record { status = 0; price = 4; contents = record { variables = 5 ∷ 55 ∷ []; cells = 50 ∷ 55 ∷ 52 ∷ 53 ∷ 54 ∷ 55 ∷ [] } });
    }
    -- G of constants alone, subtracted from each other: 1 - 2 is 4294967295
    ∷ record {
      call =
          running_list good (bytes_of 44 0x01_002c_04_0d0300020000000001_0000000001_0d0301020000000002_0000000002_06040202020001_0407020100) lent;
      comes_to =
          ran
          (record {
            status = 0;
            price = 6;
            contents = record { variables = 4294967295 ∷ 6 ∷ []; cells = 50 ∷ 51 ∷ 52 ∷ 53 ∷ 54 ∷ 55 ∷ [] };
          });
    }
    ∷ []

-- Every call is done, and comes to exactly this.
pub within_limits : map (λ row. result row.call) limits ≡ map (λ row. row.comes_to) limits
unfolding everything limits
within_limits = refl
