-- What holds at each turn of the loops of `run_block::run_statements`.
use mathlib.Core.Path.{◌≡◌}
use lib.ListN.{drop}
use Rattle.basics.specs.Lists.{each}
use Rattle.meaning.specs.Machine.{run_statement}
use Rattle.memory.specs.Lent.{lent}
use Rattle.run_block.proofs.run_statements.Given as goal

abbrev pub invariant-loop-s : goal.invariant-loop-s
invariant-loop-s l =
    each (run_statement l.lengths) l.s-items (lent l.fn.variables l.fn.cells)
    ≡ each (run_statement l.lengths) (drop l.s-index l.s-items) (lent l.variables l.cells)
