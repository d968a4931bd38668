-- What holds at each turn of the loop of `combine::cut`.
use mathlib.Core.Path.{◌≡◌}
use Prim.Native.Nat.{◌-◌, ◌<◌}
use Rattle.combine.specs.Cutting.{tables, cut_along}
use Rattle.combine.proofs.cut.Given as goal

abbrev pub invariant-loop : goal.invariant-loop
invariant-loop l = (l.at < 256)
    × (cut_along l.n l.reached l.direct l.next l.start (tables l.fn.units l.fn.needs l.before) ≡ cut_along (l.n - l.counter) l.reached l.direct l.next l.at (tables l.units l.needs l.waiting))
