-- What the parts of the maker promise to each other: a block that was read, and a list that stands in a buffer.
use Rattle.std.specs.Prelude.{◌≡◌, ℕ, ◌≤◌, true, List, length, take}
use Rattle.basics.specs.Lists.{all}
use Rattle.meaning.specs.declared.Statement.{Statement}
use Rattle.meaning.specs.Block.{Block}
use Rattle.meaning.specs.List.{Instruction, list_price, list_bytes}
use Rattle.theorems.proofs.Records.{constants_fit}
use Rattle.theorems.proofs.Readable.{Readable}

-- what reading promises of a block
pub record Legal (b : Block) : Type 0 where
  pub readable : Readable b
  pub constants : all constants_fit b.statements ≡ true

-- the list stands in the first so many bytes, and costs so much
pub record Holds (ss : List Statement) (list : List Instruction) (out : List ℕ) (size price : ℕ) : Type 0 where
  pub bytes : take size out ≡ list_bytes list
  pub sized : size ≡ length (list_bytes list)
  pub room : size ≤ length out
  pub priced : price ≡ list_price ss list
