-- `schedule::lowest_pack` meets its contract.
use Rattle.std.proofs.Common.{of_calls}
use Rattle.schedule.specs.Stages.{pack_at}
use Rattle.schedule.proofs.lowest_pack.Goals as goal

pub returns : goal.returns
returns c = c.lowest.ensures (pack_at c.args.units.now) λ i answer below said. search of_calls
