-- `registers::holds` meets its contract.
use mathlib.Core.Path.{◌≡◌, ◌∙◌}
use lib.ListN.{length}
use borrow.Author.Rules.{rules}
use Rattle.basics.proofs.Mapped.{unmapped}
use Rattle.registers.proofs.Searching.{same_by_lanes}
use Rattle.registers.proofs.holds.Goals as goal

pub returns : goal.returns
returns c =
    let register = c.args.register in
    let tuple = c.args.tuple in
    let held : length register.tuple.lanes ≡ 4 = search (rules, unmapped) in
    let asked : length tuple.lanes ≡ 4 = search (rules, unmapped) in
    c.eq.ensures ∙ same_by_lanes register tuple held asked
