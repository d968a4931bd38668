-- `print` meets its contract: the text fits, so all of it is there.
use native.Mathlib.Omega.{arith}
use Rattle.text.proofs.Putting.{front, within}
use Rattle.comparison.proofs.Lengths.{length_compared}
use Rattle.compare.proofs.print.Goals as goal

pub returns : goal.returns
returns c =
    record {
      text = front c.put_comparison.ensures (omega (arith, length_compared c.args.given.now, c.requires));
      within = within c.put_comparison.ensures (omega arith);
    }
