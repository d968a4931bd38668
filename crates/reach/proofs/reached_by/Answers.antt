-- `reach::reached_by` meets its contract: a fold over the members.
use mathlib.Core.Path.{sym, ap, ◌∙◌}
use Prim.Native.Nat.{ℕ}
use lib.ListN.{get_or}
use borrow.Author.Rules.{rules}
use Rattle.std.specs.List.{fold}
use Rattle.basics.specs.Sets.{join}
use Rattle.rows.proofs.Given.{all_given}
use Rattle.reach.proofs.Steps.{reached_fold}
use Rattle.reach.proofs.reached_by.Goals as goal

pub returns : goal.returns
returns c =
    let onward : ℕ → ℕ → ℕ = λ row e. join row (get_or c.args.reached.now e 0) in
    let run = c.fold.ensures.runs in
    run.3 onward (search rules)
    ∙ ap (fold onward c.args.direct) (all_given c.args.direct _ run.0 run.1 run.2 c.members.ensures)
    ∙ sym (reached_fold c.args.direct c.args.reached.now)
