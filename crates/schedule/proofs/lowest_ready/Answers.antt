-- `schedule::lowest_ready` meets its contract.
use Rattle.std.proofs.Common.{of_calls}
use Rattle.schedule.specs.Stages.{ready_at}
use Rattle.schedule.proofs.lowest_ready.Goals as goal

pub returns : goal.returns
returns c = c.lowest.ensures (ready_at c.args.needs.now c.args.scheduled) λ i answer below said. search of_calls
