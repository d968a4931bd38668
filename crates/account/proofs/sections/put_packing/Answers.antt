-- `sections::put_packing` meets its contract: its parts, one behind the other.
use Rattle.text.proofs.Putting.{both}
use Rattle.account.specs.InTables.{packing_in}
use Rattle.account.proofs.sections.put_packing.Goals as goal

pub returns : goal.returns
unfolding packing_in
returns c =
    both (both c.put_packs-behind_packs.ensures c.put_schedule-behind_schedule.ensures) c.put_dissolved.ensures
