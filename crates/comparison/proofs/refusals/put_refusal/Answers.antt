-- `refusals::put_refusal` meets its contract: the refusal, with the usage behind it where nothing was given.
use Rattle.text.proofs.Putting.{both, reads_as}
use Rattle.comparison.proofs.Chosen.{with_usage, refusal_alone}
use Rattle.comparison.proofs.refusals.put_refusal.Goals as goal

pub returns-then-given-eq0 : goal.returns-then-given-eq0
returns-then-given-eq0 c =
    reads_as (both c.put_refusal-behind.ensures c.put_words.ensures) (with_usage c.args.number c.args.given c.if-given-eq0.true)

pub returns : goal.returns
returns c =
    reads_as c.put_refusal-behind.ensures (refusal_alone c.args.number c.args.given c.if-given-eq0.false)
