-- `put` meets its contract: a byte behind the end of the buffer is stored nowhere.
use mathlib.Core.Path.{refl, sym}
use native.Mathlib.Omega.{arith}
use lib.ListN.{length}
use lib.Seq.{set_out}
use Rattle.text.proofs.Putting.{behind_fits, behind_full}
use Rattle.text.proofs.put.Goals as goal

pub returns-then-at-out : goal.returns-then-at-out
returns-then-at-out c =
    let a = c.args in
    record { stored = refl; moved = sym (behind_fits (length a.out.now) a.at 1 (omega arith)) }

pub returns : goal.returns
returns c =
    let a = c.args in
    record {
      stored = sym (set_out a.out.now a.at a.byte c.if-at-out.false);
      moved = sym (behind_full (length a.out.now) a.at 1 c.if-at-out.false);
    }
