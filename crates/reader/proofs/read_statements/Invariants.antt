-- What holds at each turn of the loop of `reader::read_statements`.
use Rattle.reader.specs.Answers.{no_statements, statements_of, block_behind}
use Rattle.meaning.specs.Format.{read_statements}
use lib.ListN.{take, drop}
use Prim.Native.Nat.{◌-◌}
use mathlib.Core.Path.{◌≡◌}
use Rattle.reader.proofs.read_statements.Given as goal

abbrev pub invariant-loop-i : goal.invariant-loop-i
invariant-loop-i l = (l.i-end ≡ l.header.statements)
    × (block_behind l.header l.lengths no_statements 0 (statements_of l.header l.lengths l.bytes)
    ≡ block_behind l.header l.lengths l.statements l.i
    (read_statements (l.header.statements - l.i) l.header.variables (take l.header.arrays l.lengths) (drop l.start l.bytes)))
