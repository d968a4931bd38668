-- What holds at each turn of the loop of `combine::combine`.
use mathlib.Core.Path.{◌≡◌}
use Prim.Native.Nat.{◌-◌}
use Rattle.basics.specs.Counting.{count}
use Rattle.combine.specs.Cutting.{tables, cut_from, combined}
use Rattle.combine.proofs.combine.Given as goal

abbrev pub invariant-loop-s : goal.invariant-loop-s
invariant-loop-s l =
    combined l.n l.reached l.direct l.next l.rights (tables l.fn.units l.fn.needs 0)
    ≡ count (l.n - l.s) l.s (cut_from l.n l.reached l.direct l.next l.rights) (tables l.units l.needs l.waiting)
