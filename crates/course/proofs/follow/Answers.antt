-- `course::follow` meets its contract.
use mathlib.Core.Path.{subst}
use mathlib.Core.List.{List}
use native.Mathlib.Omega.{arith}
use borrow.Author.Rules.{rules}
use Rattle.basics.proofs.Mapped.{unmapped}
use Rattle.meaning.specs.declared.Statement.{Statement}
use Rattle.maker.proofs.Answers.{declared_count, buffer_long}
use Rattle.maker.proofs.Packing.{slots_declared, slots_fit, slots_packed}
use Rattle.course.specs.Course.{Follows}
use Rattle.course.proofs.follow.Goals as goal

pub fill_tables-requires-clause-fit : goal.fill_tables-requires-clause-fit
fill_tables-requires-clause-fit c =
    slots_fit c.args.block _ (declared_count c.args.block _ c.at_most-n.ensures (search (rules, unmapped))) c.requires.legal

pub returns-clause-follows : goal.returns-clause-follows
returns-clause-follows c =
    let front = slots_declared c.args.block _ (declared_count c.args.block _ c.at_most-n.ensures (search (rules, unmapped))) in
    let found = c.find_units-found in
    subst (λ (ss : List Statement). Follows ss found.new.order found.new.next found.new.packs found.new.scheduled found.result) front found.ensures

pub returns-clause-price_value : goal.returns-clause-price_value
returns-clause-price_value c =
    let counted = declared_count c.args.block _ c.at_most-n.ensures (search (rules, unmapped)) in
    (slots_packed c.args.block _ counted c.requires.legal _ c.fill_tables.ensures _ _ _ _ _ c.find_units-found.ensures.in_order
    (omega (arith, buffer_long)) c.emission-packed.ensures).priced
