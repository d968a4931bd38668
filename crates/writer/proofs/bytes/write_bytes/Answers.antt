-- `bytes::write_bytes` meets its contract: seven bytes in front, then the lengths, then the records.
use mathlib.Core.Path.{◌≡◌}
use native.Mathlib.Omega.{arith}
use borrow.Author.Rules.{rules}
use lib.ListN.{length}
use Rattle.basics.proofs.Mapped.{unmapped}
use Rattle.writer.proofs.Whole.{parts_size, size_small, block_stored}
use Rattle.writer.proofs.bytes.write_bytes.Goals as goal

pub overflow_cast-size : goal.overflow_cast-size
overflow_cast-size c = record { fits = omega (arith, size_small c.args.block c.requires.few_arrays c.requires.few_statements) }

pub write_all-behind_header-requires : goal.write_all-behind_header-requires
write_all-behind_header-requires c = omega (arith, parts_size c.args.block)

pub write_lengths-behind_lengths-requires-clause-space : goal.write_lengths-behind_lengths-requires-clause-space
write_lengths-behind_lengths-requires-clause-space c = omega (arith, parts_size c.args.block)

pub write_statements-requires-clause-space : goal.write_statements-requires-clause-space
write_statements-requires-clause-space c = omega (arith, parts_size c.args.block)

pub returns : goal.returns
returns c =
    let b = c.args.block in
    let eight : length b.lengths ≡ 8 = search rules in
    let many : length b.statements ≡ 64 = search (rules, unmapped) in
    block_stored b (omega arith) (omega arith) c.args.room.now c.requires.counted (rw c.to_be_bytes.ensures at c.write_all-behind_header.ensures.stored) c.write_all-behind_header.ensures.behind c.write_lengths-behind_lengths.ensures.stored c.write_lengths-behind_lengths.ensures.behind c.write_statements.ensures.stored
