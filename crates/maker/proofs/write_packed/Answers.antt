-- `maker::write_packed` meets its contract.
use native.Mathlib.Omega.{arith}
use Rattle.maker.proofs.Packing.{slots_packed}
use Rattle.maker.proofs.write_packed.Goals as goal

pub returns-clause-holds : goal.returns-clause-holds
returns-clause-holds c =
    slots_packed c.args.block c.args.n c.requires.counted c.requires.legal _ c.fill_tables.ensures _ _ _ _ _ c.schedule_units-count.ensures
    (omega (arith, c.requires.room)) c.emission.ensures
