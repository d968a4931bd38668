-- What holds at each turn of the loop of `extend::best_readers`.
use mathlib.Core.Path.{◌≡◌}
use mathlib.Core.List.{List}
use Prim.Native.Nat.{ℕ, ◌^◌, ◌<◌}
use Rattle.std.specs.Prelude.{Option}
use Rattle.rows.specs.Walk.{walk}
use Rattle.pairs.specs.Admission.{Tables, admitted_tables}
use Rattle.extend.specs.declared.Best.{Best}
use Rattle.extend.specs.Visits.{InBlock, best_of_partners}
use Rattle.extend.proofs.best_readers.Given as goal

abbrev pub best_from : List ℕ → List ℕ → Tables → ℕ → ℕ → Option Best → Option Best
best_from facts reached t partners rest best = walk 64 rest (λ reader. best_of_partners facts reached t reader partners) best

abbrev pub invariant-loop-rest : goal.invariant-loop-rest
invariant-loop-rest l = (best_from l.tables.facts l.reached (admitted_tables l.admitted) l.partners l.initial.rest l.initial.best
    ≡ best_from l.tables.facts l.reached (admitted_tables l.admitted) l.partners l.rest l.best)
    × (l.rest < 2 ^ 64)
    × InBlock l.best

abbrev pub decreases-loop-rest : goal.decreases-loop-rest
decreases-loop-rest l = l.rest
