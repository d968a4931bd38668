-- `put_records` meets its contract: each turn puts the line of the next record.
use borrow.Author.Rules.{rules}
use mathlib.Core.Path.{◌≡◌, refl, sym, ap, ap₂, ◌∙◌}
use Prim.Native.Nat.{ℕ}
use lib.ListN.{length, take}
use Rattle.basics.proofs.Mapped.{unmapped}
use Rattle.instructions.specs.Next.{instruction_at, end_at}
use Rattle.account_list.specs.Shown.{line_meant}
use Rattle.text.proofs.Putting.{start, next, finish, reads_as}
use Rattle.account_list.proofs.Said.{declared_slots}
use Rattle.account_list.proofs.Records.{place_next, lines_left, left_next, left_none, left_whole}
use Rattle.account_list.proofs.section.put_records.Goals as goal

pub loop-record-init : goal.loop-record-init
loop-record-init c =
    (start (lines_left (take c.args.block.count c.args.block.statements) c.args.list.now c.args.count), refl)

pub loop-record-preserved : goal.loop-record-preserved
loop-record-preserved c =
    let ss = take c.args.block.count c.args.block.statements in
    let sized : length c.args.block.statements ≡ 64 = search (rules, unmapped) in
    let declared = ap (λ (n : ℕ). take n c.args.block.statements) c.at_most.ensures ∙ declared_slots c.args.block.statements c.args.block.count sized in
    let read = c.next_instruction-next.ensures.0 ∙ ap (instruction_at c.args.list.now) c.loop-record.invariant.1 in (
      next (lines_left ss c.args.list.now c.args.count) c.loop-record.invariant.0 c.loop-record-test.true (left_next ss c.args.list.now c.args.count c.loop-record._record c.loop-record-test.true)
          (reads_as c.put_record-behind.ensures (ap₂ line_meant declared read)),
      c.next_instruction-next.ensures.1 ∙ ap (end_at c.args.list.now) c.loop-record.invariant.1 ∙ sym (place_next c.args.list.now c.loop-record._record),
    )

pub shape_of-out : goal.shape_of-out
shape_of-out c = c.loop-record.invariant.0.long

pub returns : goal.returns
returns c =
    let ss = take c.args.block.count c.args.block.statements in
    reads_as
    (finish (lines_left ss c.args.list.now c.args.count) c.loop-record.invariant.0 (left_none ss c.args.list.now c.args.count c.loop-record._record c.loop-record-test.false))
    (left_whole ss c.args.list.now c.args.count)
