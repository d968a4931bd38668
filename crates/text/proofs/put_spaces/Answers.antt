-- `put_spaces` meets its contract: each turn puts the next space.
use native.Mathlib.Nat.{sub-zero}
use mathlib.Core.Path.{ap}
use Rattle.text.specs.Text.{spaces}
use Rattle.text.proofs.Putting.{start, next, finish, reads_as}
use Rattle.text.proofs.Spelling.{spaces_from, spaces_next, spaces_none}
use Rattle.text.proofs.put_spaces.Goals as goal

pub loop-init : goal.loop-init
loop-init c = start (spaces_from c.args.n)

pub loop-preserved : goal.loop-preserved
loop-preserved c =
    let n = c.args.n in
    let more = c.loop-test.true in
    next (spaces_from n) c.loop.invariant more (spaces_next n c.loop.counter more) c.put-behind.ensures

pub returns : goal.returns
returns c =
    let n = c.args.n in
    reads_as (finish (spaces_from n) c.loop.invariant (spaces_none n c.loop.counter c.loop-test.false)) (ap spaces (sub-zero n))
