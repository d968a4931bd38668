-- What holds at each turn of the loops of `choice::write_plain`.
use mathlib.Core.Path.{◌≡◌}
use Prim.Native.Nat.{◌-◌}
use Rattle.basics.specs.Counting.{count}
use Rattle.facts.specs.Facts.{fact_at}
use Rattle.encode.specs.Records.{listing, write_s}
use Rattle.choice.specs.Plain.{plain_records}
use Rattle.choice.proofs.write_plain.Given as goal

abbrev pub invariant-loop-i : goal.invariant-loop-i
invariant-loop-i l = plain_records l.tables.facts l.n l.fn.out ≡ count (l.n - l.i) l.i (λ s. write_s s (fact_at l.tables.facts 256 s)) (listing l.out l.w)
