-- `course::find_units` meets its contract.
use Rattle.course.proofs.Following.{followed_by}
use Rattle.course.proofs.find_units.Goals as goal

pub returns : goal.returns
returns c =
    followed_by c.args.statements.now c.args.tables.now c.requires.prepared _ _ _ _ _ _ _ _ _ c.pair_up-admitted.result _ _
    c.requires.no_packs c.requires.none_scheduled
    c.dependences-direct.ensures c.reachability-reached.ensures c.pair_up-admitted.ensures c.combine-waiting.ensures c.order_units-units.ensures
    c.copy_from_slice.ensures.after c.copy_from_slice-2.ensures.after
