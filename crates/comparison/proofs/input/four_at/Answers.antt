-- `input::four_at` meets its contract: the four bytes, in order.
use mathlib.Core.Path.{◌≡◌}
use Prim.Native.Nat.{◌+◌, ◌*◌}
use borrow.Author.Rules.{rules}
use Rattle.comparison.proofs.Numbers.{four_there}
use Rattle.comparison.proofs.input.four_at.Goals as goal

pub returns : goal.returns
returns c =
    let number : c.from_be_bytes.result ≡ ((c.at_or.result * 256 + c.at_or-2.result) * 256 + c.at_or-3.result) * 256 + c.at_or-4.result = search rules in
    four_there c.args.bytes.now c.args.at number c.at_or.ensures c.at_or-2.ensures c.at_or-3.ensures c.at_or-4.ensures
