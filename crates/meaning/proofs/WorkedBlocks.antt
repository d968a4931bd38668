-- The worked blocks of document 01 that are marked *: what the definitions make of each of them, as one statement over one table. Block 3
-- has two rows, block 5 three. "a, b, c.. are arrays 0, 1, 2..", each with as few cells as the block allows.
use mathlib.Core.Path.{◌≡◌, refl}
use Prim.Native.Nat.{ℕ}
use mathlib.Core.List.{List, [], ◌∷◌, map}
use Rattle.meaning.specs.Numbers.{Answer, refused, done}
use Rattle.meaning.specs.Block.{Block}
use Rattle.meaning.specs.Format.{bytes_of, read_block}
use Rattle.meaning.specs.List.{list_price}
use Rattle.meaning.specs.Pairs.{Pair, pair}
use Rattle.meaning.specs.Seeding.{seed}
use Rattle.meaning.specs.Estimate.{gain, loss}
use Rattle.meaning.specs.Choice.{packed_list}
use Rattle.meaning.proofs.Computes.{everything}
use Rattle.meaning.proofs.Making.{Row, made, expected}

abbrev pub block_six : List ℕ
block_six = bytes_of 27 0x01_001b_04_04_01_02_0002_080101000200000102_080101010200010103

abbrev pub block_seven : List ℕ
block_seven = bytes_of 57 0x01_0039_04_00_03_06_0002_0001_0002_06000100020000_06000101020001_0703010201000100_0703010301010101_06000202000102_06000202010103

abbrev pub block_eight : List ℕ
block_eight = bytes_of 55 0x01_0037_04_04_01_04_0002_0b0101000200000000000001_0b0101010200010000000001_0a03010201000000000003_0a03010301010000000003

pub worked_blocks : List Row
worked_blocks =
    -- 1. No statements: list 01 00 04 00, prices 0 and 0.
    record {
      block = bytes_of 7 0x01_0007_00_00_00_00;
      block_cost = 0;
      list_cost = 0;
      list = bytes_of 4 0x01_0004_00;
    }
    -- 2. c[i]=a[i]+b[i], i 0 to 3: prices 16 and 4.
    ∷ record {
      block = bytes_of 57 0x01_0039_00_00_03_04_0004_0004_0004_0a01020200020000020100_0a01020201020001020101_0a01020202020002020102_0a01020203020003020103;
      block_cost = 16;
      list_cost = 4;
      list = bytes_of 29 0x01_001d_04_050100040000_050101040100_06040201040001_050502040200;
    }
    -- 3. The same, i 0 to 2: two lanes and one S, 12 and 8.
    ∷ record {
      block = bytes_of 46 0x01_002e_00_00_03_03_0003_0003_0003_0a01020200020000020100_0a01020201020001020101_0a01020202020002020102;
      block_cost = 12;
      list_cost = 8;
      list = bytes_of 32 0x01_0020_05_050100020000_050101020100_06040201020001_050502020200_020002;
    }
    -- 3. With i 0 only: S, 4 and 4.
    ∷ record {
      block = bytes_of 24 0x01_0018_00_00_03_01_0001_0001_0001_0a01020200020000020100;
      block_cost = 4;
      list_cost = 4;
      list = bytes_of 7 0x01_0007_01_020000;
    }
    -- 4. a[1]=a[0]+1; a[2]=a[1]+1: dependent, 6 and 6.
    ∷ record {
      block = bytes_of 35 0x01_0023_00_00_01_02_0003_0c010200010200000000000001_0c010200020200010000000001;
      block_cost = 6;
      list_cost = 6;
      list = bytes_of 10 0x01_000a_02_020000_020001;
    }
    -- 5. v0=a[0]+b[0]; v1=a[1]+b[1]; c[0]=v0>>1; c[1]=v1>>1: 10 and 6 with none live out,
    ∷ record {
      block = bytes_of 57 0x01_0039_02_00_03_04_0002_0002_0002_09010100020000020100_09010101020001020101_0b0702020001000000000001_0b0702020101010000000001;
      block_cost = 10;
      list_cost = 6;
      list = bytes_of 48 0x01_0030_06_050100020000_050101020100_06040201020001_0b0203020000000100000001_06040407020203_050504020200;
    }
    -- 5. .. 7 with one,
    ∷ record {
      block = bytes_of 57 0x01_0039_02_01_03_04_0002_0002_0002_09010100020000020100_09010101020001020101_0b0702020001000000000001_0b0702020101010000000001;
      block_cost = 10;
      list_cost = 7;
      list = bytes_of 53 0x01_0035_07_050100020000_050101020100_06040201020001_0b0203020000000100000001_06040407020203_050504020200_0407020000;
    }
    -- 5. .. 8 with two.
    ∷ record {
      block = bytes_of 57 0x01_0039_02_02_03_04_0002_0002_0002_09010100020000020100_09010101020001020101_0b0702020001000000000001_0b0702020101010000000001;
      block_cost = 10;
      list_cost = 8;
      list = bytes_of 58 0x01_003a_08_050100020000_050101020100_06040201020001_0b0203020000000100000001_06040407020203_050504020200_0407020000_0407020101;
    }
    -- 6. v0=a[0]+v2; v1=a[1]+v3, four live out: the packed list costs 6, so S twice, 4 and 4.
    ∷ record {
      block = block_six;
      block_cost = 4;
      list_cost = 4;
      list = bytes_of 10 0x01_000a_02_020000_020001;
    }
    -- 7. v0=a[0]; v1=a[1]; v2=v0*v0; v3=v1*v1; c[0]=v2; c[1]=v3, none live out: the middle pair has estimate 1; 10 and 5.
    ∷ record {
      block = block_seven;
      block_cost = 10;
      list_cost = 5;
      list = bytes_of 35 0x01_0023_05_050100020000_050401000200_06040203020101_050403000202_050503020200;
    }
    -- 8. v0=a[0]+1; v1=a[1]+1; v2=v0*3; v3=v1*3, four live out: the second pair has estimate -2; 6 and 6.
    ∷ record {
      block = block_eight;
      block_cost = 6;
      list_cost = 6;
      list = bytes_of 16 0x01_0010_04_020000_020001_020002_020003;
    }
    -- 9. c[i]=a[i]+b[i], i 0 to 2; c[3]=c[0]+b[3]: two packs of two, 16 and 11.
    ∷ record {
      block = bytes_of 57 0x01_0039_00_00_03_04_0003_0004_0004_0a01020200020000020100_0a01020201020001020101_0a01020202020002020102_0a01020203020200020103;
      block_cost = 16;
      list_cost = 11;
      list = bytes_of 58 0x01_003a_08_050100020000_050101020100_06040201020001_050502020200_09030302020002020200_050104020102_06040501020304_050505020202;
    }
    -- 10. c[0]=a[0]+b[0]; d[0]=c[0]*e[0]; d[1]=f[1]*e[1]; c[1]=a[1]+d[1]: the first pack dissolves; 16 and 15.
    ∷ record {
      block = bytes_of 63 0x01_003f_00_00_06_04_0002_0001_0002_0002_0002_0002_0a01020200020000020100_0a03020300020200020400_0a03020301020501020401_0a01020201020001020301;
      block_cost = 16;
      list_cost = 15;
      list = bytes_of 39 0x01_0027_06_020000_09030002020200020501_050101020400_06040203020001_050502020300_020003;
    }
    ∷ []

-- Every worked block comes to the prices that document 01 gives it, and to this list.
pub worked_blocks_lem : map made worked_blocks ≡ map expected worked_blocks
unfolding everything worked_blocks
worked_blocks_lem = refl

-- what a block's bytes say
abbrev pub read_as : Answer Block → Block
read_as (refused number) = record { variables = 0; live = 0; lengths = []; statements = [] }
read_as (done b) = b

abbrev pub block_of : List ℕ → Block
block_of bytes = read_as (read_block bytes)

-- the price of the packed list, chosen or not
abbrev pub packed_price : Block → ℕ
packed_price b = list_price b.statements (packed_list b)

-- the estimate of a pair after seeding: both S prices, and what is taken from them
abbrev pub estimated : Block → Pair → ℕ × ℕ
estimated b p = (gain b.statements p, loss b.statements (seed b.statements) p)

-- Block 6: "the packed list costs 6". Block 7: "the middle pair has estimate 1", 2 less 1. Block 8: "the second pair has estimate -2", 2 less 4.
pub worked_phases :
    (packed_price (block_of block_six) ≡ 6)
    × (estimated (block_of block_seven) (pair 2 3) ≡ (2, 1))
    × (estimated (block_of block_eight) (pair 2 3) ≡ (2, 4))
unfolding everything
worked_phases = (refl, refl, refl)
