-- What holds at each turn of the loops of `run_list::run_records`.
use mathlib.Core.Path.{◌≡◌}
use mathlib.Core.Bool.{true}
use mathlib.Core.List.{[]}
use Prim.Native.Nat.{◌-◌, ◌*◌, ◌≤◌}
use lib.ListN.{length, drop}
use Rattle.meaning.specs.Block.{declared}
use Rattle.meaning.specs.List.{read_records}
use Rattle.memory.specs.Lent.{lent}
use Rattle.lists.specs.Whole.{allowed_of}
use Rattle.run_list.specs.Runs.{card_of, counts_of, paid, left}
use Rattle.run_list.proofs.run_records.Given as goal

abbrev pub invariant-loop-record : goal.invariant-loop-record
invariant-loop-record l = (l.n ≤ 96) × (length l.registers ≡ 97) × (length l.variables ≡ length l.fn.variables) × (length l.cells ≡ length l.fn.cells) × (l.price ≤ 8 * l._record)
    × (allowed_of (declared l.block) (counts_of l.registers l.n) (read_records (l.count - l._record) (drop l.start l.bytes)) ≡ true)
    × (paid (declared l.block) 0 (read_records l.count (drop 4 l.bytes)) ≡ paid (declared l.block) l.price (read_records (l.count - l._record) (drop l.start l.bytes)))
    × (left (declared l.block) (card_of [] 0 (lent l.fn.variables l.fn.cells)) (read_records l.count (drop 4 l.bytes))
    ≡ left (declared l.block) (card_of l.registers l.n (lent l.variables l.cells)) (read_records (l.count - l._record) (drop l.start l.bytes)))
