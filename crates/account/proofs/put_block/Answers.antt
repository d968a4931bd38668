-- `put_block` meets its contract: its parts, one behind the other.
use native.Mathlib.Omega.{arith}
use Rattle.text.proofs.Putting.{both}
use Rattle.maker.proofs.Answers.{are_bytes}
use Rattle.account.specs.Account.{block_told}
use Rattle.account.proofs.Telling.{read_legal}
use Rattle.account.proofs.put_block.Goals as goal

pub put_units-behind_units-requires : goal.put_units-behind_units-requires
put_units-behind_units-requires c =
    read_legal c.args.bytes.now _ c.requires (are_bytes c.args.bytes.now (λ i. omega (arith, c.type_inv.bytes i)))

pub returns : goal.returns
unfolding block_told
returns c =
    both (both (both c.put_head-behind_head.ensures c.put_statements-behind_statements.ensures) c.put_units-behind_units.ensures) c.put_answer.ensures
