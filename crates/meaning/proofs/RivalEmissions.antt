-- The blocks of RivalReadings that are about emission. A row's comment has the block's statements and the reading that the row holds to.
use mathlib.Core.List.{List, [], ◌∷◌}
use Rattle.meaning.specs.Format.{bytes_of}
use Rattle.meaning.proofs.Making.{Row}

unfoldable pub rival_emissions : List Row
rival_emissions =
    -- v0=a[0]+b[0]; v1=a[1]+b[1]; a[1]=v2; v3=a[0]*b[0]; v4=a[1]*b[1]
    -- Emission. Easy error: a loaded register is not used again after a single has stored to one of its cells.
    record {
      block = bytes_of 58 0x01_003a_05_00_02_05_0002_0002_09010100020000020100_09010101020001020101_06000200010102_09030103020000020100_09030104020001020101;
      block_cost = 14;
      list_cost = 7;
      list = bytes_of 39 0x01_0027_06_050100020000_050101020100_06040201020001_020002_050103020000_06040403020301;
    }
    -- a[0]=a[0]+b[0]; a[1]=a[1]+b[1]; c[0]=a[0]*b[0]; c[1]=a[1]*b[1]
    -- Emission. Easy error: the same after the pack itself has stored there; O's own tuple is current from then on.
    ∷ record {
      block = bytes_of 57 0x01_0039_00_00_03_04_0002_0002_0002_0a01020000020000020100_0a01020001020001020101_0a03020200020000020100_0a03020201020001020101;
      block_cost = 16;
      list_cost = 6;
      list = bytes_of 42 0x01_002a_06_050100020000_050101020100_06040201020001_050502020000_06040303020201_050503020200;
    }
    -- c[0]=a[0]+b[0]; c[1]=a[1]+b[1]; c[2]=a[3]+b[2]; c[3]=a[4]+b[3]
    -- Emission. Four lanes are neighbours where all of them are: a[0], a[1], a[3], a[4] are gathered.
    ∷ record {
      block = bytes_of 57 0x01_0039_00_00_03_04_0005_0004_0004_0a01020200020000020100_0a01020201020001020101_0a01020202020003020102_0a01020203020004020103;
      block_cost = 16;
      list_cost = 11;
      list = bytes_of 39 0x01_0027_04_0f030004020000020001020003020004_050101040100_06040201040001_050502040200;
    }
    -- a[1]=b[0]*v0; a[0]=v0*b[0]
    -- Emission. A register holds exactly this tuple: not the same operands in another order.
    ∷ record {
      block = bytes_of 31 0x01_001f_01_00_02_02_0002_0001_09030200010201000100_09030200000100020100;
      block_cost = 6;
      list_cost = 6;
      list = bytes_of 10 0x01_000a_02_020000_020001;
    }
    -- a[1]=0|0; a[2]=1|1
    -- Emission. Right finds what left has just fetched.
    ∷ record {
      block = bytes_of 39 0x01_0027_00_00_01_02_0003_0e0502000100000000000000000000_0e0502000200000000010000000001;
      block_cost = 4;
      list_cost = 3;
      list = bytes_of 29 0x01_001d_03_0b0200020000000000000001_06040105020000_050501020001;
    }
    -- a[0]=v0*v0; a[1]=v1*v1; b[0]=v0; b[1]=v1
    -- Emission. A tuple that G fetched is found again by a later pack.
    ∷ record {
      block = bytes_of 43 0x01_002b_02_00_02_04_0002_0002_080302000001000100_080302000101010101_06000201000100_06000201010101;
      block_cost = 8;
      list_cost = 6;
      list = bytes_of 37 0x01_0025_05_0703000201000101_06040103020000_050501020000_050402000200_050502020100;
    }
    -- c[0]=a[0]; c[1]=a[1]; d[0]=c[0]; d[1]=c[1]
    -- Emission. O holds a tuple of cells too, and a copy is an O of its own.
    ∷ record {
      block = bytes_of 47 0x01_002f_00_00_04_04_0002_0001_0002_0002_0700020200020000_0700020201020001_0700020300020200_0700020301020201;
      block_cost = 12;
      list_cost = 5;
      list = bytes_of 34 0x01_0022_05_050100020000_050401000200_050501020200_050402000201_050502020300;
    }
    -- a[0]=1+1; a[1]=1+1; v0=1*a[0]; v1=1*a[1]
    -- Emission. Constants stay current.
    ∷ record {
      block = bytes_of 63 0x01_003f_02_00_01_04_0002_0e0102000000000000010000000001_0e0102000100000000010000000001_0b0301000000000001020000_0b0301010000000001020001;
      block_cost = 8;
      list_cost = 4;
      list = bytes_of 36 0x01_0024_04_0b0200020000000100000001_06040101020000_050501020000_06040203020001;
    }
    -- v2=a[3]; v0=a[4]; a[5]=a[10]+v0; a[6]=a[11]+v1
    -- Emission. X stands directly before the G that wants it, here behind the L of left.
    ∷ record {
      block = bytes_of 43 0x01_002b_03_00_01_04_000c_06000102020003_06000100020004_090102000502000a0100_090102000602000b0101;
      block_cost = 10;
      list_cost = 8;
      list = bytes_of 48 0x01_0030_07_050100020003_050401000200_05010202000a_0407010100_0703030201000101_06040401020203_050504020005;
    }
    -- v0=a[2]+a[0]; v1=a[3]+a[1]; b[0]=1*1; b[1]=1*v0
    -- Emission. X stands directly before the G that wants it, here behind the C of left.
    ∷ record {
      block = bytes_of 58 0x01_003a_02_00_02_04_0004_0002_09010100020002020000_09010101020003020001_0e0302010000000000010000000001_0b0302010100000000010100;
      block_cost = 10;
      list_cost = 9;
      list = bytes_of 64 0x01_0040_08_050100020002_050101020000_06040201020001_0b0203020000000100000001_0407020000_0a03040200000000010100_06040503020304_050505020100;
    }
    -- v1=a[0]*b[0]; v0=a[1]*b[1]; v2=v1+v0
    -- Emission. X in operand order: left, then right.
    ∷ record {
      block = bytes_of 39 0x01_0027_03_00_02_03_0002_0002_09030101020000020100_09030100020001020101_0701010201010100;
      block_cost = 7;
      list_cost = 6;
      list = bytes_of 36 0x01_0024_06_050100020000_050101020100_06040203020001_0407020001_0407020100_020002;
    }
    -- v0=a[0]+b[0]; v1=a[1]+b[1]; c[0]=v1+d[0]; c[1]=v0+d[1]
    -- Emission. X in operand order: of G lane 0 first, here v1.
    ∷ record {
      block = bytes_of 55 0x01_0037_02_00_04_04_0002_0002_0002_0002_09010100020000020100_09010101020001020101_09010202000101020300_09010202010100020301;
      block_cost = 12;
      list_cost = 10;
      list = bytes_of 60 0x01_003c_09_050100020000_050101020100_06040201020001_0407020101_0407020000_0703030201010100_050104020300_06040501020304_050505020200;
    }
    -- v0=a[0]; v1=a[1]; v2=v0+v0
    -- Emission. One X for a value that is named twice.
    ∷ record {
      block = bytes_of 31 0x01_001f_03_00_01_03_0002_06000100020000_06000101020001_0701010201000100;
      block_cost = 5;
      list_cost = 4;
      list = bytes_of 24 0x01_0018_04_050100020000_050401000200_0407010000_020002;
    }
    -- v0=a[0]; v1=a[1]; v2=v0, one live out
    -- Emission. No second X at the end for a value that has been extracted.
    ∷ record {
      block = bytes_of 29 0x01_001d_03_01_01_03_0002_06000100020000_06000101020001_050001020100;
      block_cost = 5;
      list_cost = 4;
      list = bytes_of 24 0x01_0018_04_050100020000_050401000200_0407010000_020002;
    }
    -- v0=a[1]; v1=v0+1; a[0]=1*v0; v2=a[2]; a[1]=1*v2
    -- Emission. X ends no register.
    ∷ record {
      block = bytes_of 58 0x01_003a_03_00_01_05_0003_06000100020001_0a01010101000000000001_0b0302000000000000010100_06000102020002_0b0302000100000000010102;
      block_cost = 9;
      list_cost = 7;
      list = bytes_of 49 0x01_0031_07_050100020001_050401000200_0407010000_020001_0b0202020000000100000001_06040303020201_050503020000;
    }
    -- v0=2; v1=3; b[0]=v0; b[1]=v1; c[0]=v0; c[1]=v1; v0=9
    -- Emission. A value overwritten by S is never extracted.
    ∷ record {
      block = bytes_of 68 0x01_0044_02_00_03_07_0001_0002_0002_080001000000000002_080001010000000003_06000201000100_06000201010101_06000202000100_06000202010101_080001000000000009;
      block_cost = 11;
      list_cost = 7;
      list = bytes_of 49 0x01_0031_07_0b0200020000000200000003_050401000200_050402000201_050502020100_050403000201_050503020200_020006;
    }
    -- v0=a[2]; v1=a[3]; v0=7, one live out
    -- Emission. The same where the variable is live out.
    ∷ record {
      block = bytes_of 32 0x01_0020_02_01_01_03_0004_06000100020002_06000101020003_080001000000000007;
      block_cost = 5;
      list_cost = 3;
      list = bytes_of 19 0x01_0013_03_050100020002_050401000200_020002;
    }
    -- v0=a[0]+b[0]; v1=a[1]+b[1]; v0=7, two live out
    -- Emission. The register is no longer current, but v1 is still in its lane.
    ∷ record {
      block = bytes_of 40 0x01_0028_02_02_02_03_0002_0002_09010100020000020100_09010101020001020101_080001000000000007;
      block_cost = 7;
      list_cost = 5;
      list = bytes_of 31 0x01_001f_05_050100020000_050101020100_06040201020001_020002_0407020101;
    }
    -- v0=a[1]+a[1]; v1=a[0]+a[0], two live out
    -- Emission. Easy error: live-out variables are extracted at the end, ascending by number and not by lane.
    ∷ record {
      block = bytes_of 29 0x01_001d_02_02_01_02_0002_09010100020001020001_09010101020000020000;
      block_cost = 6;
      list_cost = 4;
      list = bytes_of 27 0x01_001b_04_050100020000_06040101020000_0407010100_0407010001;
    }
    ∷ []
