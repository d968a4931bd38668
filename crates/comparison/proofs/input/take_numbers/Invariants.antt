-- What holds at each turn of the loops of `comparison::input.take_numbers`.
use mathlib.Core.Path.{◌≡◌}
use lib.ListN.{length}
use Rattle.comparison.specs.Input.{numbers_in}
use Rattle.comparison.proofs.Numbers.{taken_from}
use Rattle.comparison.proofs.input.take_numbers.Given as goal

abbrev pub invariant-loop-i : goal.invariant-loop-i
invariant-loop-i l = record {
  as_many : length l.numbers ≡ length l.fn.numbers;
  taken : taken_from l.numbers (length l.fn.numbers) l.bytes l.i ≡ numbers_in (length l.fn.numbers) l.bytes;
}
