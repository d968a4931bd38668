-- `writer::fill` meets its contract: what `write_bytes` leaves in the room.
use Rattle.meaning.specs.Block.{declared}
use Rattle.meaning.specs.Format.{block_bytes}
use Rattle.writer.proofs.Filled.{filled}
use Rattle.writer.proofs.fill.Goals as goal

pub returns : goal.returns
returns c =
    filled (block_bytes (declared c.args.block)) c.args.room.now c.block_size-size.ensures c.if-room-size.false c.write_bytes.ensures
