-- `prices::put_verdict` meets its contract.
use Rattle.text.proofs.Putting.{reads_as}
use Rattle.account.proofs.Choosing.{below, not_below}
use Rattle.account.proofs.prices.put_verdict.Goals as goal

pub returns-then-packed-block : goal.returns-then-packed-block
returns-then-packed-block c = reads_as c.put_words.ensures (below _ _ c.if-packed-block.true)

pub returns : goal.returns
returns c = reads_as c.put_words-2.ensures (not_below _ _ c.if-packed-block.false)
