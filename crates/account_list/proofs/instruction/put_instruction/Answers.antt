-- `put_instruction` meets its contract: each code has its function.
use mathlib.Core.Path.{sym, ap}
use Rattle.instructions.specs.declared.Instruction.{Instruction}
use Rattle.named.specs.Names.{operand_text}
use Rattle.text.proofs.Putting.{reads_as}
use Rattle.account_list.specs.Shown.{shown}
use Rattle.account_list.proofs.instruction.put_instruction.Goals as goal

pub returns-in-S : goal.returns-in-S
unfolding shown
returns-in-S c =
    reads_as c.put_s.ensures (ap (λ (i : Instruction). shown i c.args.statement) (sym c.in-S.is))

pub returns-in-L : goal.returns-in-L
unfolding shown
returns-in-L c =
    reads_as c.put_l.ensures (ap (λ (i : Instruction). shown i c.args.statement) (sym c.in-L.is))

pub returns-in-C : goal.returns-in-C
unfolding shown operand_text
returns-in-C c =
    reads_as c.put_slots.ensures (ap (λ (i : Instruction). shown i c.args.statement) (sym c.in-C.is))

pub returns-in-G : goal.returns-in-G
unfolding shown
returns-in-G c =
    reads_as c.put_slots-in-G.ensures (ap (λ (i : Instruction). shown i c.args.statement) (sym c.in-G.is))

pub returns-in-Copy : goal.returns-in-Copy
unfolding shown
returns-in-Copy c =
    reads_as c.put_copy.ensures (ap (λ (i : Instruction). shown i c.args.statement) (sym c.in-Copy.is))

pub returns-in-O : goal.returns-in-O
unfolding shown
returns-in-O c =
    reads_as c.put_o.ensures (ap (λ (i : Instruction). shown i c.args.statement) (sym c.in-O.is))

pub returns-in-W : goal.returns-in-W
unfolding shown
returns-in-W c =
    reads_as c.put_w.ensures (ap (λ (i : Instruction). shown i c.args.statement) (sym c.in-W.is))

pub returns-in-D : goal.returns-in-D
unfolding shown
returns-in-D c =
    reads_as c.put_stored.ensures (ap (λ (i : Instruction). shown i c.args.statement) (sym c.in-D.is))

pub returns-in-X : goal.returns-in-X
unfolding shown
returns-in-X c =
    reads_as c.put_stored-in-X.ensures (ap (λ (i : Instruction). shown i c.args.statement) (sym c.in-X.is))
