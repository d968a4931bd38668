-- `exports::nephinor_read_block` meets its contract: a block that is read fills the table.
use mathlib.Core.Path.{◌≡◌, ◌∙◌, sym, ap}
use borrow.Author.Rules.{rules}
use lib.ListN.{length}
use Rattle.basics.proofs.Mapped.{unmapped}
use Rattle.meaning.specs.Calls.{BlockRead}
use Rattle.nephinor.proofs.Answers.{filled_table}
use Rattle.nephinor.proofs.exports.nephinor_read_block.Goals as goal

pub returns : goal.returns
returns c =
    let eight : length c.read_block-read.result.block.lengths ≡ 8 = search rules in
    let many : length c.read_block-read.result.block.statements ≡ 64 = search (rules, unmapped) in
    filled_table _ _ c.read_block-read.result.block _ _ ((sym (ap (λ (read : BlockRead). read.status) c.read_block-read.ensures)) ∙ c.if-status-ne0.false)
    (sym (ap (λ (r : BlockRead). r.block) c.read_block-read.ensures)) eight many c.if-numbers-lt652.false
    c.put_block.ensures c.pack-2.ensures
