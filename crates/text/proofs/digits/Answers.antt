-- `digits` meets its contract: a number between two powers of ten has one digit more than the lower one has zeros.
use mathlib.Core.Path.{sym}
use native.Mathlib.Omega.{arith}
use Rattle.text.proofs.Spelling.{length_between}
use Rattle.text.proofs.digits.Goals as goal

pub returns : goal.returns
returns c =
    let low = rw c.max.ensures at c.ilog10.ensures.power_le in
    let high = rw c.max.ensures at c.ilog10.ensures.next_power_gt in
    sym (length_between 19 c.ilog10.result c.args.n (omega arith) low high)
