-- `bytes::write_all` meets its contract: the part of the room that is overwritten.
use mathlib.Core.Path.{refl}
use Rattle.writer.proofs.Part.{part_stored}
use Rattle.writer.proofs.bytes.write_all.Goals as goal

pub returns-clause-stored : goal.returns-clause-stored
returns-clause-stored c = part_stored c.args.room.now c.args.bytes.now c.args.at _ c.copy_from_slice.ensures.after refl c.requires
