-- What holds at each turn of the loop of `extend::best_with`.
use mathlib.Core.Path.{◌≡◌}
use Prim.Native.Nat.{◌^◌, ◌<◌}
use Rattle.pairs.specs.Admission.{admitted_tables}
use Rattle.extend.specs.Visits.{InBlock, best_of_partners}
use Rattle.extend.proofs.best_with.Given as goal

abbrev pub invariant-loop-rest : goal.invariant-loop-rest
invariant-loop-rest l = (best_of_partners l.tables.facts l.reached (admitted_tables l.admitted) l.t l.partners l.initial.best
    ≡ best_of_partners l.tables.facts l.reached (admitted_tables l.admitted) l.t l.rest l.best)
    × (l.rest < 2 ^ 64)
    × InBlock l.best

abbrev pub decreases-loop-rest : goal.decreases-loop-rest
decreases-loop-rest l = l.rest
