-- `instructions::read_g` meets its contract: each operand is read behind the one before it.
use mathlib.Core.Path.{sym, ◌∙◌}
use Rattle.instructions.proofs.Gathers.{two_lanes, four_lanes}
use Rattle.instructions.proofs.read_g.Goals as goal

pub returns-then-k-eq2 : goal.returns-then-k-eq2
returns-then-k-eq2 c =
    c.gather.ensures
    ∙ two_lanes c.args.bytes.now c.operand_at-o0.result c.operand_at-o1.result
    (sym c.field-k.ensures ∙ c.if-k-eq2.true)
    c.operand_at-o0.ensures
    (rw (← c.operand_width-second.ensures) c.operand_at-o1.ensures)

pub returns-then-k-eq4 : goal.returns-then-k-eq4
returns-then-k-eq4 c =
    c.gather-then-k-eq4.ensures
    ∙ four_lanes c.args.bytes.now c.operand_at-o0.result c.operand_at-o1.result c.operand_at-o2.result c.operand_at-o3.result
    (sym c.field-k.ensures ∙ c.if-k-eq4.true)
    c.operand_at-o0.ensures
    (rw (← c.operand_width-second.ensures) c.operand_at-o1.ensures)
    (rw (← c.operand_width-second.ensures, ← c.operand_width.ensures) c.operand_at-o2.ensures)
    (rw (← c.operand_width-second.ensures, ← c.operand_width.ensures, ← c.operand_width-then-k-eq4.ensures) c.operand_at-o3.ensures)
