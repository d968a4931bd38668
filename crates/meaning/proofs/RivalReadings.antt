-- Blocks that tell document 01 apart from rival readings of it, among them its "Easy errors", as one statement over one table. A row's comment
-- has the block's statements and, by the paragraph that it is about, the reading that the row holds to.
use mathlib.Core.Path.{◌≡◌, refl}
use mathlib.Core.List.{List, ◌∷◌, map}
use Rattle.meaning.specs.Format.{bytes_of}
use Rattle.meaning.proofs.Computes.{everything}
use Rattle.meaning.proofs.Making.{Row, made, expected}
use Rattle.meaning.proofs.RivalEmissions.{rival_emissions}

pub rival_readings : List Row
rival_readings =
    -- a[0]=b[0]+b[0]
    -- Prices. Cell operands are counted by position, not by different cells.
    record {
      block = bytes_of 22 0x01_0016_00_00_02_01_0001_0001_0a01020000020100020100;
      block_cost = 4;
      list_cost = 4;
      list = bytes_of 7 0x01_0007_01_020000;
    }
    -- c[0]=a[0]+b[0]; c[1]=a[0]+b[1]
    -- Prices. The cell lanes of G are counted so too.
    ∷ record {
      block = bytes_of 35 0x01_0023_00_00_03_02_0001_0002_0002_0a01020200020000020100_0a01020201020000020101;
      block_cost = 8;
      list_cost = 7;
      list = bytes_of 33 0x01_0021_04_09030002020000020000_050101020100_06040201020001_050502020200;
    }
    -- v1=a[2]; v0=a[1]; v2=v0; v2=a[0]
    -- Dependence. Easy error: what joins v2=a[0] to v0=a[1] is the path through a third statement.
    ∷ record {
      block = bytes_of 36 0x01_0024_03_00_01_04_0003_06000101020002_06000100020001_050001020100_06000102020000;
      block_cost = 7;
      list_cost = 6;
      list = bytes_of 27 0x01_001b_05_050100020001_050401000200_0407010000_020002_020003;
    }
    -- a[0]=b[0]&1; a[0]=b[1]+1; b[1]=b[1]&c[1]; a[0]=b[0]&c[0]
    -- Dependence. The same: of the pairs with operation and, only the one that no path joins is admitted.
    ∷ record {
      block = bytes_of 61 0x01_003d_00_00_03_04_0001_0002_0002_0c040200000201000000000001_0c010200000201010000000001_0a04020101020101020201_0a04020000020100020200;
      block_cost = 14;
      list_cost = 13;
      list = bytes_of 41 0x01_0029_07_020000_020001_050100020100_050101020200_06040204020001_050602000000_050602010101;
    }
    -- v0=1; c[0]=a[0]+v0; c[1]=a[1]+v0
    -- Dependence. Two statements that both depend on a third are independent.
    ∷ record {
      block = bytes_of 42 0x01_002a_01_00_03_03_0002_0001_0002_080001000000000001_09010202000200000100_09010202010200010100;
      block_cost = 7;
      list_cost = 6;
      list = bytes_of 34 0x01_0022_05_020000_050100020000_0703010201000100_06040201020001_050502020200;
    }
    -- v3=a[2]; v1=v2; v2=a[1]; v0=v1
    -- Dependence. The pack depends on v1=v2, since it writes what that one reads.
    ∷ record {
      block = bytes_of 35 0x01_0023_04_00_01_04_0003_06000103020002_050001010102_06000102020001_050001000101;
      block_cost = 6;
      list_cost = 4;
      list = bytes_of 22 0x01_0016_04_020001_050100020001_050401000200_020003;
    }
    -- v0=a[0]+b[1]; v1=a[1]+b[0]
    -- Pairs. Easy error: (1, 0) after (0, 1) would close a ring.
    ∷ record {
      block = bytes_of 31 0x01_001f_02_00_02_02_0002_0002_09010100020000020101_09010101020001020100;
      block_cost = 6;
      list_cost = 6;
      list = bytes_of 10 0x01_000a_02_020000_020001;
    }
    -- a[4]=a[0]>>a[1]; a[3]=a[1]>>a[2]
    -- Pairs. The same, where the packed list is the answer; neighbours descend at the destination, so D per lane.
    ∷ record {
      block = bytes_of 31 0x01_001f_00_00_01_02_0005_0a07020004020000020001_0a07020003020001020002;
      block_cost = 8;
      list_cost = 7;
      list = bytes_of 35 0x01_0023_05_050100020000_050101020001_06040207020001_050602000004_050602010003;
    }
    -- c[0]=a[0]+b[1]; c[1]=a[1]+b[3]; c[2]=a[2]+b[0]
    -- Pairs. A ring of three pairs is a ring too.
    ∷ record {
      block = bytes_of 46 0x01_002e_00_00_03_03_0003_0004_0003_0a01020200020000020101_0a01020201020001020103_0a01020202020002020100;
      block_cost = 12;
      list_cost = 11;
      list = bytes_of 36 0x01_0024_05_050100020000_09030102020101020103_06040201020001_050502020200_020002;
    }
    -- c[0]=a[0]+b[0]; c[1]=a[1]*b[1]
    -- Pairs. No pair, since the operations differ.
    ∷ record {
      block = bytes_of 35 0x01_0023_00_00_03_02_0002_0002_0002_0a01020200020000020100_0a03020201020001020101;
      block_cost = 8;
      list_cost = 8;
      list = bytes_of 10 0x01_000a_02_020000_020001;
    }
    -- v0=a[0]; b[0]=a[1]
    -- Pairs. No pair, since the kinds of destination differ.
    ∷ record {
      block = bytes_of 26 0x01_001a_01_00_02_02_0002_0001_06000100020000_0700020100020001;
      block_cost = 5;
      list_cost = 5;
      list = bytes_of 10 0x01_000a_02_020000_020001;
    }
    -- b[0]=a[0]+a[1]; c[0]=a[1]+a[2]
    -- Pairs. Cells of two arrays are one kind of destination.
    ∷ record {
      block = bytes_of 35 0x01_0023_00_00_03_02_0003_0001_0001_0a01020100020000020001_0a01020200020001020002;
      block_cost = 8;
      list_cost = 7;
      list = bytes_of 35 0x01_0023_05_050100020000_050101020001_06040201020001_050602000100_050602010200;
    }
    -- v1=a[3]; v2=a[2]
    -- Pairs. t may stand before s.
    ∷ record {
      block = bytes_of 23 0x01_0017_03_00_01_02_0004_06000101020003_06000102020002;
      block_cost = 4;
      list_cost = 2;
      list = bytes_of 16 0x01_0010_02_050100020002_050401000200;
    }
    -- a[1]=a[3]; a[0]=a[2]
    -- Pairs. t before s, with the destinations in a row too.
    ∷ record {
      block = bytes_of 25 0x01_0019_00_00_01_02_0004_0700020001020003_0700020000020002;
      block_cost = 6;
      list_cost = 3;
      list = bytes_of 22 0x01_0016_03_050100020002_050401000200_050501020000;
    }
    -- a[1]=a[0]*a[0]; a[2]=2*2
    -- Pairs. The kinds of operand need not agree; the tuple of a cell and a constant that left fetched serves right too.
    ∷ record {
      block = bytes_of 35 0x01_0023_00_00_01_02_0003_0a03020001020000020000_0e0302000200000000020000000002;
      block_cost = 6;
      list_cost = 5;
      list = bytes_of 29 0x01_001d_03_0b0300020200000000000002_06040103020000_050501020001;
    }
    -- v0=a[1]*a[3]; v1=a[0]*a[2]
    -- Seeding. Cells in a row at different positions, here a[1] and a[2], admit nothing.
    ∷ record {
      block = bytes_of 29 0x01_001d_02_00_01_02_0004_09030100020001020003_09030101020000020002;
      block_cost = 6;
      list_cost = 3;
      list = bytes_of 23 0x01_0017_03_050100020000_050101020002_06040203020001;
    }
    -- v0=v1+1; v0=1*a[0]; v1=1*a[1]
    -- Seeding. Cells in a row at one position are enough, also at the right one.
    ∷ record {
      block = bytes_of 44 0x01_002c_02_00_01_03_0002_0a01010001010000000001_0b0301000000000001020000_0b0301010000000001020001;
      block_cost = 5;
      list_cost = 4;
      list = bytes_of 32 0x01_0020_04_020000_0b0200020000000100000001_050101020000_06040203020001;
    }
    -- a[3]=v3; a[4]=v0; a[2]=v2; a[5]=v1; a[2]=a[3]; a[1]=a[4]
    -- Seeding. Cells in a row at the destination are enough; behind a two, four are tried again.
    ∷ record {
      block = bytes_of 53 0x01_0035_04_00_01_06_0006_06000200030103_06000200040100_06000200020102_06000200050101_0700020002020003_0700020001020004;
      block_cost = 14;
      list_cost = 12;
      list = bytes_of 52 0x01_0034_07_0b0300040102010301000101_050401000400_050501040002_050102020003_050403000202_050603000002_050603010001;
    }
    -- v0=1*a[0]; v1=1*a[1]; v0=v0; v1=v1; b[0]=v0; b[1]=v1
    -- Extension. The last definition is the last one before its reader; the statement itself is none.
    ∷ record {
      block = bytes_of 61 0x01_003d_02_00_02_06_0002_0002_0b0301000000000001020000_0b0301010000000001020001_050001000100_050001010101_06000201000100_06000201010101;
      block_cost = 10;
      list_cost = 6;
      list = bytes_of 47 0x01_002f_06_0b0200020000000100000001_050101020000_06040203020001_050403000202_050404000203_050504020100;
    }
    -- v0=2; v1=3; b[0]=v0; b[1]=v1; v0=v0
    -- Extension. A definition behind its reader is none; X before the S that reads and writes v0.
    ∷ record {
      block = bytes_of 49 0x01_0031_02_00_02_05_0001_0002_080001000000000002_080001010000000003_06000201000100_06000201010101_050001000100;
      block_cost = 7;
      list_cost = 6;
      list = bytes_of 42 0x01_002a_06_0b0200020000000200000003_050401000200_050402000201_050502020100_0407010000_020004;
    }
    -- v0=2; a[1]=v0; v1=1; a[0]=v1
    -- Extension. Each definition is before its own reader, though v1=1 is not before the other reader.
    ∷ record {
      block = bytes_of 41 0x01_0029_02_00_01_04_0002_080001000000000002_06000200010100_080001010000000001_06000200000101;
      block_cost = 6;
      list_cost = 4;
      list = bytes_of 34 0x01_0022_04_0b0200020000000100000002_050401000200_050402000201_050502020000;
    }
    -- v0=5; v1=6; v6=v0; v7=v1; v2=v0; v3=v1; b[0]=v6; b[1]=v7; c[0]=v0+v2; c[1]=v1+v3
    -- Extension. Left, then right, and each sees what the earlier one admitted.
    ∷ record {
      block = bytes_of 87 0x01_0057_08_00_03_0a_0001_0002_0002_080001000000000005_080001010000000006_050001060100_050001070101_050001020100_050001030101_06000201000106_06000201010107_080102020001000102_080102020101010103;
      block_cost = 14;
      list_cost = 8;
      list = bytes_of 59 0x01_003b_08_0b0200020000000500000006_050401000200_050402000201_050403000201_050404000202_050504020100_06040501020103_050505020200;
    }
    -- v0=1; v1=1; v2=a[0]+v0; v3=a[1]+v1; v4=v2*v0; v5=v3*v1; v6=v3*v1; b[0]=v4; b[1]=v6; c[0]=v4; c[1]=v5
    -- Extension. Use to definition comes before definition to use.
    ∷ record {
      block = bytes_of 101 0x01_0065_07_00_03_0b_0002_0002_0002_080001000000000001_080001010000000001_080101020200000100_080101030200010101_0703010401020100_0703010501030101_0703010601030101_06000201000104_06000201010106_06000202000104_06000202010105;
      block_cost = 17;
      list_cost = 15;
      list = bytes_of 92 0x01_005c_0e_0b0200020000000100000001_050401000200_050102020000_06040301020201_06040403020301_0407030103_0407010101_020006_0407040004_0703050201040106_050406000205_050506020100_050407000204_050507020200;
    }
    -- v0=5; v1=6; v2=v0*3; v3=v1*3; v4=v0*7; v5=v1*7; c[0]=v2; c[1]=v3; d[0]=v4; d[1]=v5; e[0]=v0; e[1]=v1
    -- Extension. Each pair is visited once, and a visit admits at most one pair of readers.
    ∷ record {
      block = bytes_of 121 0x01_0079_06_00_05_0c_0001_0001_0002_0002_0002_080001000000000005_080001010000000006_0a03010201000000000003_0a03010301010000000003_0a03010401000000000007_0a03010501010000000007_06000202000102_06000202010103_06000203000104_06000203010105_06000204000100_06000204010101;
      block_cost = 18;
      list_cost = 16;
      list = bytes_of 101 0x01_0065_0f_0b0200020000000500000006_050401000200_0b0202020000000300000003_06040303020102_0407010000_020004_0407010101_020005_050404000203_050504020200_0703050201040105_050406000205_050506020300_050407000201_050507020400;
    }
    -- v0=a[0]; v1=a[1]; v2=v0*3; v3=v1*3; v4=v1*3; d[0]=v2; d[1]=v4; c[0]=v2; c[1]=v3
    -- Extension. Of two pairs of readers with the same estimate, the first.
    ∷ record {
      block = bytes_of 90 0x01_005a_05_00_04_09_0002_0001_0002_0002_06000100020000_06000101020001_0a03010201000000000003_0a03010301010000000003_0a03010401010000000003_06000203000102_06000203010104_06000202000102_06000202010103;
      block_cost = 15;
      list_cost = 13;
      list = bytes_of 80 0x01_0050_0c_050100020000_050401000200_0b0202020000000300000003_06040303020102_0407010101_020004_0407030002_0703040201020104_050405000204_050505020300_050406000203_050506020200;
    }
    -- v0=a[0]; v1=a[1]; v2=v0+v0; v3=v1+v1; v4=v0+v0; v5=v1+v1; v6=v1+v1; b[0]=v4; b[1]=v6; c[0]=v2; c[1]=v5; d[0]=v4; d[1]=v3
    -- Extension. t is the outer of the two, t' the inner.
    ∷ record {
      block = bytes_of 111 0x01_006f_07_00_04_0d_0002_0002_0002_0002_06000100020000_06000101020001_0701010201000100_0701010301010101_0701010401000100_0701010501010101_0701010601010101_06000201000104_06000201010106_06000202000102_06000202010105_06000203000104_06000203010103;
      block_cost = 21;
      list_cost = 15;
      list = bytes_of 87 0x01_0057_0e_050100020000_050401000200_06040201020101_0407010101_020003_06040301020101_050404000203_050504020100_050405000202_050505020200_0407030004_0703060201040103_050407000206_050507020300;
    }
    -- v0=a[0]; v1=a[1]; v1=v1+v1; v2=v0+v0; v0=v0+v0; a[28]=v2+v0; a[29]=1+v1
    -- Extension. A pair of readers in which t' stands before t; v2=v0+v0 comes before the pack, which overwrites v0.
    ∷ record {
      block = bytes_of 68 0x01_0044_03_00_01_07_001e_06000100020000_06000101020001_0701010101010101_0701010201000100_0701010001000100_080102001c01020100_0b0102001d00000000010101;
      block_cost = 11;
      list_cost = 9;
      list = bytes_of 55 0x01_0037_08_050100020000_050401000200_0407010000_020003_06040201020101_0a03030201020000000001_06040401020302_05050402001c;
    }
    -- v0=1+1; v1=2+2; a[0]=v0; a[1]=v1; b[0]=v0; b[1]=v1
    -- Estimate. Each position is charged, also where left and right are the same tuple.
    ∷ record {
      block = bytes_of 67 0x01_0043_02_00_02_06_0002_0002_0d01010000000000010000000001_0d01010100000000020000000002_06000200000100_06000200010101_06000201000100_06000201010101;
      block_cost = 10;
      list_cost = 8;
      list = bytes_of 42 0x01_002a_07_020000_020001_0703000201000101_050401000200_050501020000_050402000200_050502020100;
    }
    -- d[0]=v0*v0; d[1]=v1*v1; v0=v0*a[0]; v1=v1*a[1]; v0=v0*a[2]; v1=v1*a[1]
    -- Estimate. In a row is ascending: (a[2], a[1]) costs 4.
    ∷ record {
      block = bytes_of 69 0x01_0045_02_00_04_06_0003_0001_0001_0002_080302030001000100_080302030101010101_080301000100020000_080301010101020001_080301000100020002_080301010101020001;
      block_cost = 12;
      list_cost = 12;
      list = bytes_of 22 0x01_0016_06_020000_020001_020002_020003_020004_020005;
    }
    -- v0=a[1]; v1=a[1]; v2=a[0]; a[75]=v1; a[76]=v2
    -- Estimate. Cell lanes that are in no row cost 1 each beside the 2.
    ∷ record {
      block = bytes_of 44 0x01_002c_03_00_01_05_004d_06000100020001_06000101020001_06000102020000_060002004b0101_060002004c0102;
      block_cost = 10;
      list_cost = 9;
      list = bytes_of 44 0x01_002c_07_050100020000_050401000200_020001_0407010002_0703020201010102_050403000202_05050302004b;
    }
    -- d[0]=e[0]+f[0]; d[1]=e[1]+f[1]; v0=a[0]; v1=a[1]; v2=v0*v0; v3=v1*v1; c[0]=v2+v4; c[1]=v5+v3
    -- Estimate. An admitted pair reads both variables at one position, or it does not count.
    ∷ record {
      block = bytes_of 89 0x01_0059_06_00_06_08_0002_0001_0002_0002_0002_0002_0a01020300020400020500_0a01020301020401020501_06000100020000_06000101020001_0703010201000100_0703010301010101_080102020001020104_080102020101050103;
      block_cost = 18;
      list_cost = 16;
      list = bytes_of 86 0x01_0056_0e_050100020400_050101020500_06040201020001_050502020300_050103020000_050404000203_0407040000_020004_0407040101_020005_0703050201020105_0703060201040103_06040701020506_050507020200;
    }
    -- v0=b[0]; v1=b[1]; v2=v1; v3=v0; a[0]=v2; a[1]=v3
    -- Estimate. The last definitions are an admitted pair in this order, not in the other one.
    ∷ record {
      block = bytes_of 51 0x01_0033_04_00_02_06_0002_0002_06000100020100_06000101020101_050001020101_050001030100_06000200000102_06000200010103;
      block_cost = 10;
      list_cost = 10;
      list = bytes_of 22 0x01_0016_06_020000_020001_020002_020003_020004_020005;
    }
    -- b[1]=v0; b[2]=v1; v2=b[2]+1; v3=b[3]+v4; v0=v2; v1=v3
    -- Estimate. The admitted pair reads v0 and v1, but before they are defined.
    ∷ record {
      block = bytes_of 58 0x01_003a_05_00_02_06_0001_0004_06000201010100_06000201020101_0b0101020201020000000001_080101030201030104_050001000102_050001010103;
      block_cost = 10;
      list_cost = 10;
      list = bytes_of 22 0x01_0016_06_020000_020001_020002_020003_020004_020005;
    }
    -- a[2]=a[0]|1; a[0]=1|1; a[1]=1|1; a[3]=1|1; a[4]=1|1; a[5]=1|1
    -- Combination. Easy error: a chain is not independent throughout; no part of a register of four lanes serves two.
    ∷ record {
      block = bytes_of 97 0x01_0061_00_00_01_06_0006_0c050200020200000000000001_0e0502000000000000010000000001_0e0502000100000000010000000001_0e0502000300000000010000000001_0e0502000400000000010000000001_0e0502000500000000010000000001;
      block_cost = 13;
      list_cost = 11;
      list = bytes_of 84 0x01_0054_07_15030004020000000000000100000000010000000001_1302010400000001000000010000000100000001_06040205040001_050502040002_0b0203020000000100000001_06040405020303_050504020000;
    }
    -- v0=1*a[0]; v1=b[0]*a[1]; v2=b[1]*a[2]
    -- Combination. A chain of three is cut from its left end.
    ∷ record {
      block = bytes_of 43 0x01_002b_03_00_02_03_0003_0002_0b0301000000000001020000_09030101020100020001_09030102020101020002;
      block_cost = 8;
      list_cost = 8;
      list = bytes_of 13 0x01_000d_03_020000_020001_020002;
    }
    -- v6=a[1]; v5=a[1]; v4=a[0]
    -- Schedule. A unit goes by its lowest statement, not by lane 0.
    ∷ record {
      block = bytes_of 30 0x01_001e_07_00_01_03_0002_06000106020001_06000105020001_06000104020000;
      block_cost = 6;
      list_cost = 4;
      list = bytes_of 19 0x01_0013_03_050100020000_050401000200_020001;
    }
    -- a[6]=v7; a[9]=v10; a[8]=v9; v4=a[8]; v3=a[7]; a[7]=v8
    -- Schedule. A pack of four dissolves into four singles.
    ∷ record {
      block = bytes_of 51 0x01_0033_0b_00_01_06_000a_06000200060107_0600020009010a_06000200080109_06000104020008_06000103020007_06000200070108;
      block_cost = 12;
      list_cost = 10;
      list = bytes_of 28 0x01_001c_06_020000_020001_020002_050100020007_050401000200_020005;
    }
    -- v0=a[4]+1; a[0]=v0*v0; a[1]=v1*v1; v1=a[5]+1; v2=a[6]+1; v3=a[7]+1
    -- Schedule. The lowest pack dissolves, and not the one that waits for it.
    ∷ record {
      block = bytes_of 75 0x01_004b_04_00_01_06_0008_0b0101000200040000000001_080302000001000100_080302000101010101_0b0101010200050000000001_0b0101020200060000000001_0b0101030200070000000001;
      block_cost = 12;
      list_cost = 12;
      list = bytes_of 22 0x01_0016_06_020000_020001_020002_020003_020004_020005;
    }
    -- v0=a[1]*1; a[0]=1+b[0]; v1=1+1; a[1]=1+b[1]; v2=a[0]*1
    -- Schedule. After a pack dissolves the schedule goes on from where it stands.
    ∷ record {
      block = bytes_of 75 0x01_004b_03_00_02_05_0002_0002_0b0301000200010000000001_0c010200000000000001020100_0d01010100000000010000000001_0c010200010000000001020101_0b0301020200000000000001;
      block_cost = 11;
      list_cost = 9;
      list = bytes_of 44 0x01_002c_07_020002_020000_0b0200020000000100000001_050101020100_06040201020001_050502020000_020004;
    }
    -- c[5]=d[5]+d[5]; c[4]=3+a[4]; d[5]=d[5]*c[5]; d[5]=c[5]+d[5]
    -- Choice. At no lower price S in block order, not in the order of the schedule.
    ∷ record {
      block = bytes_of 61 0x01_003d_00_00_04_04_0006_0006_0006_0006_0a01020205020305020305_0c010202040000000003020004_0a03020305020305020205_0a01020305020205020305;
      block_cost = 15;
      list_cost = 15;
      list = bytes_of 16 0x01_0010_04_020000_020001_020002_020003;
    }
    -- v6=a[0]>>b[6]; v7=a[1]>>b[7]; b[1]=v6; b[7]=v7
    -- Estimate. Other cells cost 4, so the readers are not paired.
    ∷ record {
      block = bytes_of 45 0x01_002d_20_20_02_04_0009_000a_09070106020000020106_09070107020001020107_06000201010106_06000201070107;
      block_cost = 10;
      list_cost = 9;
      list = bytes_of 39 0x01_0027_07_050100020000_050101020106_06040207020001_0407020006_020002_0407020107_020003;
    }
    -- v1=c[1]; v14=c[2]; and products of them with each other and with constants, each stored
    -- Extension. Of the readers that pay the greatest estimate is taken, not the first.
    ∷ record {
      block = bytes_of 128 0x01_0080_20_00_04_0e_000b_0009_000a_0008_06000101020201_0600010e020202_07030104010e010e_0a03011f010e009f61fd69_0a030114010100749e9bf7_0a03010701010016d818b3_0703011101010101_07030119010e010e_06000203050111_06000203060104_06000203010107_0600020302011f_06000200040114_0600020005011f;
      block_cost = 22;
      list_cost = 18;
      list = bytes_of 107 0x01_006b_11_050100020201_050401000200_06040203020101_0b02030216d818b39f61fd69_06040403020103_0407010001_020004_040701010e_020007_050405000202_050505020305_050406000204_050506020301_040704011f_070307020114011f_050408000207_050508020004;
    }
    -- and the blocks that are about emission
    ∷ rival_emissions

-- Every block comes to the prices and to the list of document 01's reading.
pub rival_readings_lem : map made rival_readings ≡ map expected rival_readings
unfolding everything rival_readings rival_emissions
rival_readings_lem = refl
