-- What holds at each turn of the loop of `facts::Tables::fill_facts`.
use mathlib.Core.Path.{◌≡◌}
use Rattle.facts.specs.Facts.{stated_facts}
use Rattle.facts.proofs.Tables.fill_facts.Given as goal

abbrev pub invariant-loop-i : goal.invariant-loop-i
invariant-loop-i l = l.self ≡ record l.fn.self { facts = stated_facts l.fn.statements l.i l.fn.self.facts }
