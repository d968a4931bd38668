-- `lists::records_allowed` meets its contract: what remains at a record are those from there on, beside the registers written so far.
use mathlib.Core.Bool.{true, false}
use Rattle.rules.specs.Rules.{obeys_rules}
use Rattle.lists.proofs.Turns.{judged, allowed_more, allowed_stop}
use mathlib.Core.Path.{◌≡◌, refl, sym, ap, ◌∙◌}
use mathlib.Core.Option.{some}
use Rattle.instructions.specs.Meant.{meant, read_meant}
use Rattle.instructions.specs.Next.{instruction_at}
use lib.ListN.{length, take, length-take, length-set}
use Prim.Native.Nat.{◌≤◌}
use native.Mathlib.Omega.{arith}
use borrow.Author.Rules.{rules}
use Rattle.meaning.specs.Block.{declared}
use Rattle.rules.proofs.Tied.{room}
use Rattle.basics.proofs.Mapped.{unmapped}
use Rattle.lists.proofs.records_allowed.Goals as goal

pub loop-record-preserved : goal.loop-record-preserved
loop-record-preserved c =
    let is : some (meant c.in-Some.instruction) ≡ instruction_at c.args.bytes.now c.loop-record.start = sym (ap read_meant c.in-Some.is) ∙ c.next_instruction-next.ensures.0 in
    let lengths = take c.args.block.arrays c.args.block.lengths in
    let written = take c.loop-record.n c.loop-record.written in
    let sized : length c.args.block.statements ≡ 64 = search (rules, unmapped) in
    let counted : length (take c.args.block.count c.args.block.statements) ≡ c.at_most-statements.result = omega (arith, length-take c.args.block.count c.args.block.statements, c.at_most-statements.ensures) in
    let obeyed : obeys_rules c.at_most-statements.result c.args.block.variables lengths written c.in-Some.instruction ≡ true = sym c.obeys.ensures ∙ c.if-not-obeys.false in
    let small : length written ≤ 96 = omega (arith, length-take c.loop-record.n c.loop-record.written) in
    let fits = room c.at_most-statements.result c.args.block.variables lengths written small c.in-Some.instruction obeyed in (
      omega (arith, fits, length-take c.loop-record.n c.loop-record.written, c.registers_written-n.ensures),
      rw length-set c.loop-record.invariant.1,
      rw (c.registers_written-n.ensures, c.lanes_written.ensures, c.next_instruction-next.ensures.1)
          (c.loop-record.invariant.2
          ∙ allowed_more c.args.bytes.now c.args.count c.loop-record._record c.loop-record.start (declared c.args.block) c.at_most-statements.result c.args.block.variables lengths counted refl refl c.loop-record.written c.loop-record.n c.in-Some.instruction (omega arith) c.loop-record-test.true is obeyed),
    )

pub returns-then-not-obeys : goal.returns-then-not-obeys
returns-then-not-obeys c =
    let is : some (meant c.in-Some.instruction) ≡ instruction_at c.args.bytes.now c.loop-record.start = sym (ap read_meant c.in-Some.is) ∙ c.next_instruction-next.ensures.0 in
    let lengths = take c.args.block.arrays c.args.block.lengths in
    let written = take c.loop-record.n c.loop-record.written in
    let obeyed : obeys_rules c.at_most-statements.result c.args.block.variables lengths written c.in-Some.instruction ≡ false = sym c.obeys.ensures ∙ c.if-not-obeys.true in
    let sized : length c.args.block.statements ≡ 64 = search (rules, unmapped) in
    let counted : length (take c.args.block.count c.args.block.statements) ≡ c.at_most-statements.result = omega (arith, length-take c.args.block.count c.args.block.statements, c.at_most-statements.ensures) in
    let refused = sym (judged c.args.bytes.now c.args.count c.loop-record._record c.loop-record.start (declared c.args.block) c.at_most-statements.result c.args.block.variables lengths counted refl refl written c.in-Some.instruction) ∙ obeyed in
    sym (c.loop-record.invariant.2 ∙ allowed_stop c.args.bytes.now c.args.count c.loop-record._record c.loop-record.start (declared c.args.block) written _ c.loop-record-test.true is refused)
