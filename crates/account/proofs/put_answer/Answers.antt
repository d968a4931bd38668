-- `put_answer` meets its contract: its parts, one behind the other.
use mathlib.Core.Path.{ap₂}
use native.Mathlib.Omega.{arith}
use Rattle.text.proofs.Putting.{reads_as, both}
use Rattle.maker.proofs.Answers.{are_bytes, buffer_long}
use Rattle.account.specs.Prices.{sums_line}
use Rattle.account.specs.Account.{answer_told}
use Rattle.account.proofs.Telling.{block_cost_lem, list_cost_lem, size_fits, list_told}
use Rattle.account.proofs.put_answer.Goals as goal

pub put_list-behind_list-requires : goal.put_list-behind_list-requires
put_list-behind_list-requires c =
    size_fits c.args.bytes.now _ c.requires (are_bytes c.args.bytes.now (λ i. omega (arith, c.type_inv.bytes i))) _ (omega (arith, buffer_long)) _ _ c.make_list-made.ensures

pub returns : goal.returns
unfolding answer_told
returns c =
    let are = are_bytes c.args.bytes.now (λ i. omega (arith, c.type_inv.bytes i)) in
    both
    (both c.put_words-behind_heading.ensures
    (reads_as c.put_list-behind_list.ensures (list_told c.args.bytes.now _ c.requires are _ (omega (arith, buffer_long)) _ _ c.make_list-made.ensures)))
    (reads_as c.put_sums.ensures
    (ap₂ sums_line (block_cost_lem c.args.bytes.now _ c.requires are _ (omega (arith, buffer_long)) _ _ c.make_list-made.ensures)
    (list_cost_lem c.args.bytes.now _ c.requires are _ (omega (arith, buffer_long)) _ _ c.make_list-made.ensures)))
