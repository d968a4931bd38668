-- `estimate::are_read` meets its contract: some admitted pair reads what a pair defines.
use mathlib.Core.Path.{sym, ap, ◌∙◌}
use mathlib.Core.Bool.{Bool}
use Prim.Native.Nat.{ℕ}
use Rattle.std.proofs.Common.{rules, tests}
use Rattle.std.proofs.lemmas.Iterator.Consumers.{YieldsList-from_first}
use Rattle.std.proofs.lemmas.Iterator.Search.{any_from_yields_List}
use Rattle.meaning.specs.Pairs.{pair}
use Rattle.rows.specs.Walk.{members}
use Rattle.rows.proofs.Given.{to_come}
use Rattle.facts.specs.Facts.{fact_at}
use Rattle.estimate.specs.Costs.{reads_pair}
use Rattle.estimate.proofs.Finding.{walk_any}
use Rattle.estimate.proofs.are_read.Goals as goal

pub returns : goal.returns
returns c =
    let test : ℕ → Bool = reads_pair c.args.tables.now.facts c.args.admitted.now.next (pair c.args.p.left c.args.p.right) in
    let readers = fact_at c.args.tables.now.facts 448 c.args.p.left in
    any_from_yields_List test _ _ c.any.result c.any.ensures.ran
    (YieldsList-from_first (λ x. x) to_come (members readers) (ap members (c.members.ensures ∙ c.fact.ensures)))
    (λ x b q k. search (rules, tests))
    ∙ sym (walk_any test readers)
