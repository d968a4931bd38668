-- `pairs::Admitted::first_admitted` meets its contract.
use mathlib.Core.Path.{◌≡◌, ap, ◌∙◌}
use mathlib.Core.Bool.{Bool}
use Prim.Native.Nat.{ℕ}
use native.Mathlib.Omega.{arith}
use Rattle.std.specs.declared.option.Option.{Option}
use Rattle.std.specs.List.{find}
use Rattle.std.specs.Option.{unwrap_or}
use Rattle.std.proofs.Common.{rules, tests}
use Rattle.std.proofs.lemmas.Iterator.Consumers.{YieldsList-from_first}
use Rattle.std.proofs.lemmas.Iterator.Search.{find_from_yields_List}
use Rattle.rows.specs.Walk.{members}
use Rattle.rows.proofs.Given.{to_come}
use Rattle.pairs.specs.Admission.{admitted_tables, may_pair}
use Rattle.pairs.proofs.Steps.{first_found, none_as_64}
use Rattle.pairs.proofs.Admitted.first_admitted.Goals as goal

pub returns : goal.returns
returns c =
    let t = admitted_tables c.args.self.now in
    let test : ℕ → Bool = may_pair c.args.tables.now.facts c.args.reached.now t c.args.s in
    let first = first_found c.args.tables.now.facts c.args.reached.now t c.args.s c.args.candidates (search rules) in
    let found : c.unwrap_or.result ≡ unwrap_or (find test (members c.args.candidates)) 64 =
    c.unwrap_or.ensures ∙ none_as_64 c.find.result
    ∙ ap (λ (u : Option ℕ). unwrap_or u 64)
    (find_from_yields_List test _ _ c.find.result c.find.ensures.ran
    (YieldsList-from_first (λ x. x) to_come (members c.args.candidates) (ap members c.members.ensures))
    (λ x b q k. search (rules, tests))) in
    record { first = found ∙ first.0; at_most_none = omega (arith, found, first.1) }
