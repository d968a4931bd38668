-- `bytes::write_statements` meets its contract: each turn stores the next record of the run.
use Rattle.meaning.specs.Block.{blank}
use Rattle.meaning.specs.Format.{record_bytes}
use Rattle.writer.proofs.Run.{start, space, next, behind, all_stored}
use Rattle.writer.proofs.bytes.write_statements.Goals as goal

pub loop-statement-init : goal.loop-statement-init
loop-statement-init c = start record_bytes _ c.args.room.now c.args.at (rw c.from.ensures c.requires.space)

pub write_record-place-requires : goal.write_record-place-requires
write_record-place-requires c = space record_bytes _ c.loop-statement.invariant blank c.loop-statement-test.true

pub loop-statement-preserved : goal.loop-statement-preserved
loop-statement-preserved c =
    next record_bytes _ c.loop-statement.invariant blank c.loop-statement-test.true c.write_record-place.ensures.stored c.write_record-place.ensures.behind

pub returns-clause-behind : goal.returns-clause-behind
returns-clause-behind c = rw (← c.from.ensures) (behind record_bytes _ c.loop-statement.invariant c.loop-statement-test.false)

pub returns-clause-stored : goal.returns-clause-stored
returns-clause-stored c = rw (← c.from.ensures) (all_stored record_bytes _ c.loop-statement.invariant c.loop-statement-test.false)
