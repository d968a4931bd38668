-- `runs::put_verdict` meets its contract: its test is the definition's.
use mathlib.Core.Path.{sym, ap}
use Rattle.text.proofs.Putting.{reads_as}
use Rattle.comparison.specs.Lines.{verdict}
use Rattle.comparison.proofs.runs.put_verdict.Goals as goal

pub returns-then-same : goal.returns-then-same
unfolding verdict
returns-then-same c = reads_as c.put_words.ensures (ap verdict (sym c.if-same.true))

pub returns : goal.returns
unfolding verdict
returns c = reads_as c.put_words-2.ensures (ap verdict (sym c.if-same.false))
