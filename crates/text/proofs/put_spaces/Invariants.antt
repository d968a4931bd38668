-- What holds at each turn of the loops of `text::put_spaces`.
use Rattle.text.proofs.Putting.{Putting}
use Rattle.text.proofs.Spelling.{spaces_from}
use Rattle.text.proofs.put_spaces.Given as goal

abbrev pub invariant-loop : goal.invariant-loop
invariant-loop l = Putting (spaces_from l.n) l.n l.fn.out l.at l.out l.behind l.counter
