-- `writer::write` meets its contract: the refusal, or what `fill` does with a block that is not refused.
use mathlib.Core.Path.{sym, ◌∙◌}
use Rattle.std.proofs.lemmas.Result.{err_from_is_err_and}
use Rattle.writer.proofs.Refused.{refused_call, done_call, few_arrays, few_statements}
use Rattle.writer.proofs.write.Goals as goal

pub returns-in_err-check : goal.returns-in_err-check
returns-in_err-check c =
    let p = err_from_is_err_and c.from_residual.result c.from_residual.ensures.1 in
    rw (p.1, p.2) (refused_call c.args.block c.args.room.now _ c.in_err-check.ensures.judged c.in_err-check.ensures.room_not_asked)

pub fill-requires : goal.fill-requires
fill-requires c =
    let passed = sym c.in_ok-check.ensures.judged in
    record { few_arrays = few_arrays c.args.block passed; few_statements = few_statements c.args.block passed }

pub returns : goal.returns
returns c = c.fill.ensures ∙ done_call c.args.block c.args.room.now c.in_ok-check.ensures.judged
