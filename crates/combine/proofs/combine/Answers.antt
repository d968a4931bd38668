-- `combine::combine` meets its contract.
use mathlib.Core.Path.{sym, ap, ◌∙◌}
use Prim.Native.Nat.{◌+◌, ◌-◌}
use Rattle.basics.specs.Counting.{count}
use Rattle.basics.proofs.Counting.{count_more}
use Rattle.combine.specs.Cutting.{Tables, cut_from}
use Rattle.combine.proofs.Turns.{combined_start}
use Rattle.combine.proofs.combine.Goals as goal

pub loop-s-init : goal.loop-s-init
loop-s-init c = combined_start _ _ _ _ _ _

pub loop-s-preserved : goal.loop-s-preserved
loop-s-preserved c =
    let rest : Tables → Tables = λ t. count (c.args.n - (c.loop-s.s + 1)) (c.loop-s.s + 1) (cut_from c.args.n c.args.reached c.args.direct.now c.args.next.now c.args.rights) t in
    c.loop-s.invariant ∙ count_more _ _ _ _ c.loop-s-test.true ∙ ap rest (sym c.cut_from-waiting.ensures)
