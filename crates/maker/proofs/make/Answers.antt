-- `maker::make` meets its contract.
use native.Mathlib.Omega.{arith}
use Rattle.maker.proofs.Answers.{read_legal, are_bytes}
use Rattle.maker.proofs.make.Goals as goal

pub make_read-requires : goal.make_read-requires
make_read-requires c =
    read_legal c.args.bytes.now _ (are_bytes c.args.bytes.now (λ i. omega (arith, c.type_inv.bytes i))) c.in_ok-block.ensures.declares
