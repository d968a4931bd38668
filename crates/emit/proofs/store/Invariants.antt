-- What holds at each turn of the loop of `emit::store`: with the lanes that are left, all is stored.
use Rattle.std.proofs.Common.{◌≡◌, ◌-◌}
use Rattle.basics.specs.Counting.{count}
use Rattle.registers.specs.Table.{tuple_lane}
use Rattle.encode.specs.Records.{listing}
use Rattle.emit.specs.Emitting.{store_code}
use Rattle.emit.proofs.store.Given as goal

abbrev pub invariant-loop-lane : goal.invariant-loop-lane
invariant-loop-lane l =
    count 4 0 (λ i. store_code l.fn.r i (tuple_lane l.fn.tuple i)) (listing l.fn.out l.initial.written)
    ≡ count (4 - l.lane) l.lane (λ i. store_code l.fn.r i (tuple_lane l.fn.tuple i)) (listing l.out l.written)
