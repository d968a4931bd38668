-- `lines::put_lines` meets its contract: the second line where the status is 0, and both fit.
use native.Mathlib.Omega.{arith}
use Rattle.text.proofs.Putting.{reads_as, both, within, front}
use Rattle.meaning.specs.Calls.{ListMade}
use Rattle.answers.proofs.Lengths.{length_lines}
use Rattle.answers.proofs.Chosen.{two_lines, one_line}
use Rattle.answers.proofs.lines.put_lines.Goals as goal

pub returns-then-status-eq0 : goal.returns-then-status-eq0
returns-then-status-eq0 c =
    let made : ListMade = record { status = c.args.status; size = c.args.size; block_cost = c.args.block; list_cost = c.args.list; room = c.args.room.now } in
    let all = reads_as (both c.put_first-behind.ensures c.put_second.ensures) (two_lines made c.if-status-eq0.true) in
    record { puts = all; text = front all (omega (arith, length_lines made c.requires.1, c.requires.0)); within = within all (omega arith) }

pub returns : goal.returns
returns c =
    let made : ListMade = record { status = c.args.status; size = c.args.size; block_cost = c.args.block; list_cost = c.args.list; room = c.args.room.now } in
    let all = reads_as c.put_first-behind.ensures (one_line made c.if-status-eq0.false) in
    record { puts = all; text = front all (omega (arith, length_lines made c.requires.1, c.requires.0)); within = within all (omega arith) }
