-- `bytes::write_lengths` meets its contract: each turn stores the two bytes of the next length.
use mathlib.Core.Path.{ap}
use native.Mathlib.Nat.{div-one}
use native.Mathlib.Omega.{arith}
use lib.ListN.{length}
use Rattle.meaning.specs.Format.{bytes_of}
use Rattle.writer.proofs.Run.{start, space, next, behind, all_stored}
use Rattle.writer.proofs.bytes.write_lengths.Goals as goal

pub loop-n-init : goal.loop-n-init
loop-n-init c = start (bytes_of 2) _ c.args.room.now c.args.at (rw c.from.ensures c.requires.space)

pub write_all-place-requires : goal.write_all-place-requires
write_all-place-requires c =
    omega (arith, ap length c.to_be_bytes.ensures, space (bytes_of 2) _ c.loop-n.invariant 0 c.loop-n-test.true)

pub loop-n-preserved : goal.loop-n-preserved
loop-n-preserved c =
    next (bytes_of 2) _ c.loop-n.invariant 0 c.loop-n-test.true (simp div-one (rw c.to_be_bytes.ensures at c.write_all-place.ensures.stored)) (rw c.to_be_bytes.ensures at c.write_all-place.ensures.behind)

pub returns-clause-behind : goal.returns-clause-behind
returns-clause-behind c = rw (← c.from.ensures) (behind (bytes_of 2) _ c.loop-n.invariant c.loop-n-test.false)

pub returns-clause-stored : goal.returns-clause-stored
returns-clause-stored c = rw (← c.from.ensures) (all_stored (bytes_of 2) _ c.loop-n.invariant c.loop-n-test.false)
