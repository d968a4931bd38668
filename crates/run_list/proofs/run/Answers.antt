-- `run_list::run` meets its contract: each answer is that of its test.
use mathlib.Core.Path.{sym, ◌∙◌}
use Rattle.meaning.specs.Block.{declared}
use Rattle.run_list.proofs.Calls.{wrong_sizes, records_allowed, list_ran}
use Rattle.run_list.proofs.run.Goals as goal

pub returns-then-not-sizes_fit : goal.returns-then-not-sizes_fit
returns-then-not-sizes_fit c =
    wrong_sizes _ _ _ (declared c.in_ok-block.block) c.in_ok-block.ensures.declares (sym c.sizes_fit.ensures ∙ c.if-not-sizes_fit.true)

pub run_records-requires-clause-is_allowed : goal.run_records-requires-clause-is_allowed
run_records-requires-clause-is_allowed c =
    records_allowed (declared c.in_ok-block.block) c.args.bytes.now c.in_ok-check_list.ensures _ (c.from-count.ensures ∙ c.at_or.ensures)

pub returns : goal.returns
returns c =
    list_ran _ _ _ (declared c.in_ok-block.block) c.in_ok-block.ensures.declares (sym c.sizes_fit.ensures ∙ c.if-not-sizes_fit.false)
    c.in_ok-check_list.ensures _ _ _ (c.from-count.ensures ∙ c.at_or.ensures) c.run_records.ensures.price c.run_records.ensures.contents
