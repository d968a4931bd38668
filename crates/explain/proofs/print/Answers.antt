-- `print` meets its contract: in each case the buffer is large enough for the text.
use mathlib.Core.Path.{sym, ◌∙◌}
use native.Mathlib.Omega.{arith}
use Rattle.explain.proofs.Shown.{too_many, no_input, some_input}
use Rattle.explain.proofs.print.Goals as goal

pub returns-then-input-gt4096 : goal.returns-then-input-gt4096
returns-then-input-gt4096 c =
    let all = too_many c.args.input.now c.args.out.now (λ i. omega (arith, c.type_inv.input i)) c.requires c.if-input-gt4096.true c.put_words.ensures in
    record { text = all.0; within = all.1 }

pub returns-then-is_empty : goal.returns-then-is_empty
returns-then-is_empty c =
    let all = no_input c.args.input.now c.args.out.now (λ i. omega (arith, c.type_inv.input i)) c.requires c.if-input-gt4096.false (sym c.is_empty.ensures ∙ c.if-is_empty.true) c.put_account-behind.ensures c.put_words-then-is_empty.ensures in
    record { text = all.0; within = all.1 }

pub returns : goal.returns
returns c =
    let all = some_input c.args.input.now c.args.out.now (λ i. omega (arith, c.type_inv.input i)) c.requires c.if-input-gt4096.false (sym c.is_empty.ensures ∙ c.if-is_empty.false) c.put_account-behind.ensures in
    record { text = all.0; within = all.1 }
