-- `rows::Walk` gives the members of its set, the lowest first.
use borrow.Author.Rules.{rules}
use Rattle.rows.proofs.Walks.{members_of_none, members_next, members_fewer}
use Rattle.rows.proofs.WalkIterator.next.Goals as goal

pub returns-then-self-eq0-clause-steps : goal.returns-then-self-eq0-clause-steps
returns-then-self-eq0-clause-steps c =
    let none = members_of_none c.args.self.now.rest c.if-self-eq0.true in
    (none, none)

pub returns-clause-steps : goal.returns-clause-steps
returns-clause-steps c =
    rw (c.first-lowest.ensures.0, c.behind_first-self.ensures) (members_next c.args.self.now.rest (search rules) c.if-self-eq0.false)

pub returns-clause-goes : goal.returns-clause-goes
returns-clause-goes c =
    let fewer = members_fewer c.args.self.now.rest (search rules) c.if-self-eq0.false in
    record {
      on = λ _. (_, _, rw c.behind_first-self.ensures fewer);
      keeps = _;
      rests = _;
    }
