-- What holds at each turn of the loops of `run_block::block_price`.
use mathlib.Core.Path.{◌≡◌}
use Prim.Native.Nat.{◌+◌, ◌*◌, ◌≤◌}
use lib.ListN.{drop}
use Rattle.meaning.specs.Block.{block_price}
use Rattle.run_block.proofs.block_price.Given as goal

abbrev pub invariant-loop-s : goal.invariant-loop-s
invariant-loop-s l = (l.price ≤ 4 * l.s-index) × (block_price l.s-items ≡ block_price (drop l.s-index l.s-items) + l.price)
