-- What holds at each turn of the loop of `bytes::write_statements`.
use Rattle.meaning.specs.Format.{record_bytes}
use Rattle.writer.proofs.Run.{Written}
use Rattle.writer.proofs.bytes.write_statements.Given as goal

abbrev pub invariant-loop-statement : goal.invariant-loop-statement
invariant-loop-statement l = Written record_bytes l.statement-items l.fn.room l.at l.room l.place l.statement-index
