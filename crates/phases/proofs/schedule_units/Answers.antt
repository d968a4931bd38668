-- `phases::schedule_units` meets its contract.
use Rattle.pairs.specs.Admission.{admitted_tables}
use Rattle.phases.proofs.Scheduled.{tables_scheduled}
use Rattle.phases.proofs.schedule_units.Goals as goal

pub returns : goal.returns
returns c =
    tables_scheduled c.args.statements.now c.args.tables.now c.requires.prepared _ _ (admitted_tables c.pair_up-admitted.result)
    c.dependences-direct.ensures c.reachability-reached.ensures c.pair_up-admitted.ensures _ _ _ c.requires.fresh c.order_units.ensures
