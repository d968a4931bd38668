-- `exports::nephinor_write_block` meets its contract: written as the block that the numbers say.
use Rattle.nephinor.proofs.Answers.{table_written_lem}
use Rattle.nephinor.proofs.exports.nephinor_write_block.Goals as goal

pub returns : goal.returns
returns c =
    table_written_lem c.args.numbers.now c.args.room.now _ _ _ c.if-numbers-lt652.false c.take_block-block.ensures c.write_block-written.ensures
    c.pack.ensures
