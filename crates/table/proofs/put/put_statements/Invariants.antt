-- What holds at each turn of the loop of `put::put_statements`.
use Prim.Native.Nat.{◌+◌, ◌*◌}
use Rattle.writer.proofs.Run.{Written}
use Rattle.table.specs.Table.{statement_numbers}
use Rattle.table.proofs.put.put_statements.Given as goal

abbrev pub invariant-loop-i : goal.invariant-loop-i
invariant-loop-i l = Written statement_numbers l.statement-items l.fn.table 12 l.table (12 + 10 * l.i) l.i
