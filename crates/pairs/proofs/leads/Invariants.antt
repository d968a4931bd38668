-- What holds at each turn of the loop of `pairs::leads`: what is left to follow from where it stands.
use mathlib.Core.Path.{◌≡◌}
use Prim.Native.Nat.{◌-◌}
use Rattle.pairs.specs.Admission.{leads_to}
use Rattle.pairs.proofs.leads.Given as goal

abbrev pub invariant-loop-i : goal.invariant-loop-i
invariant-loop-i l = leads_to l.count l.next l.from l.to ≡ leads_to (l.count - l.i) l.next l.at l.to
