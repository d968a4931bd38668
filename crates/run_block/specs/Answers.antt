-- What running returns and leaves, as document 01's answer; and what is left of the call once the block has been read.
use Rattle.std.specs.Prelude.{ℕ, Result, Ok, Err}
use Rattle.meaning.specs.declared.Refusal.{Refusal}
use Rattle.meaning.specs.Refusals.{number_of}
use Rattle.meaning.specs.Numbers.{done, demand, and_then}
use Rattle.meaning.specs.Block.{Block, block_price}
use Rattle.meaning.specs.Machine.{Contents, right_size, run_block}
use Rattle.meaning.specs.Calls.{Ran, ran}
use Rattle.run_block.specs.declared.Ran.{Ran as Returned}

-- the number that is returned beside a price of zero, else the price
abbrev pub returned : Result ℕ Refusal → Returned
returned (Ok price) = record { status = 0; price = price }
returned (Err refusal) = record { status = number_of refusal; price = 0 }

abbrev pub answer : Returned → Contents → Ran
answer r after = record { status = r.status; price = r.price; contents = after }

-- "block, 6, then" the run
unfoldable pub after_reading : Block → Contents → Ran
after_reading b m = ran m (and_then (demand (right_size b m) 6 (done b)) λ b'. done (block_price b'.statements, run_block b' m))
