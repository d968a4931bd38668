-- `instructions::read_instruction` meets its contract: by its code.
use native.Mathlib.Omega.{arith}
use Rattle.instructions.proofs.Codes.{by_code, unknown_code}
use mathlib.Core.Path.{sym, ◌∙◌}
use Rattle.instructions.proofs.read_instruction.Goals as goal

pub returns-in-0 : goal.returns-in-0
returns-in-0 c = c.read_s.ensures ∙ by_code c.args.bytes.now 0 (sym c.in-0.is ∙ c.field.ensures)

pub returns-in-1 : goal.returns-in-1
returns-in-1 c = c.read_l.ensures ∙ by_code c.args.bytes.now 1 (sym c.in-1.is ∙ c.field.ensures)

pub returns-in-2 : goal.returns-in-2
returns-in-2 c = c.read_c.ensures ∙ by_code c.args.bytes.now 2 (sym c.in-2.is ∙ c.field.ensures)

pub returns-in-3 : goal.returns-in-3
returns-in-3 c = c.read_g.ensures ∙ by_code c.args.bytes.now 3 (sym c.in-3.is ∙ c.field.ensures)

pub returns-in-4 : goal.returns-in-4
returns-in-4 c = c.read_o.ensures ∙ by_code c.args.bytes.now 4 (sym c.in-4.is ∙ c.field.ensures)

pub returns-in-5 : goal.returns-in-5
returns-in-5 c = c.read_w.ensures ∙ by_code c.args.bytes.now 5 (sym c.in-5.is ∙ c.field.ensures)

pub returns-in-6 : goal.returns-in-6
returns-in-6 c = c.read_d.ensures ∙ by_code c.args.bytes.now 6 (sym c.in-6.is ∙ c.field.ensures)

pub returns-in-7 : goal.returns-in-7
returns-in-7 c = c.read_x.ensures ∙ by_code c.args.bytes.now 7 (sym c.in-7.is ∙ c.field.ensures)

pub returns-in_default : goal.returns-in_default
returns-in_default c =
    unknown_code c.args.bytes.now c.field.result c.field.ensures
    (omega arith)
