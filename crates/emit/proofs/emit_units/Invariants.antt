-- What holds at each turn of the loop of `emit::emit_units`: with the units that are left, all are emitted.
use Rattle.std.proofs.Common.{◌≡◌, ℕ, ◌-◌, slice_index}
use Rattle.basics.specs.Counting.{count}
use Rattle.units.specs.Lanes.{word_lanes}
use Rattle.fetch.specs.Fetching.{State, state}
use Rattle.emit.specs.Emitting.{emit_unit_state}
use Rattle.emit.proofs.emit_units.Given as goal

abbrev pub invariant-loop-i : goal.invariant-loop-i
invariant-loop-i l =
    let step : ℕ → State → State = λ i. emit_unit_state l.tables.facts l.tables.numbers l.tables.writers (word_lanes (slice_index l.order i)) in
    count l.count 0 step (state l.fn.out l.fn.emission) ≡ count (l.count - l.i) l.i step (state l.out l.emission)
