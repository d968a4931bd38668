-- What holds at each turn of the loop of `facts::name_places`.
use mathlib.Core.Path.{◌≡◌}
use Prim.Native.Nat.{◌+◌, ◌≤◌}
use Rattle.facts.specs.Places.{named_tables, name_places}
use Rattle.facts.proofs.name_places.Given as goal

abbrev pub invariant-loop-i : goal.invariant-loop-i
invariant-loop-i l = (named_tables l.numbers l.named l.given ≡ name_places l.facts l.column l.i (named_tables l.fn.numbers l.fn.named l.before)) × (l.given ≤ l.before + l.i)
