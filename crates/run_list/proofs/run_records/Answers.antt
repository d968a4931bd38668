-- `run_list::run_records` meets its contract. What remains at i: the records from start on, on the table as it is then.
-- what stands in a slot
use borrow.Author.Rules.{rules}
use Rattle.basics.proofs.Mapped.{unmapped}
use mathlib.Core.Path.{◌≡◌, refl, sym, ap, subst, ◌∙◌}
use mathlib.Core.Bool.{true}
use mathlib.Core.List.{List}
use Prim.Native.Nat.{ℕ, suc, ◌+◌, ◌-◌, ◌≤◌, ◌<◌}
use native.Mathlib.Omega.{arith}
use lib.ListN.{length, drop, get_or, length-set}
use Rattle.basics.proofs.Counting.{more, none_left}
use Rattle.meaning.specs.Block.{declared}
use Rattle.meaning.specs.List.{read_records}
use Rattle.memory.specs.Lent.{lent}
use Rattle.lists.specs.Whole.{allowed_of}
use Rattle.run_list.specs.Runs.{slot_of, missing, card_of, counts_of, paid, left}
use Rattle.meaning.specs.declared.Statement.{Statement}
use Rattle.meaning.specs.Block.{blank}
use Rattle.instructions.specs.declared.Register.{Register}
use Rattle.instructions.specs.Meant.{read_meant}
use Rattle.instructions.specs.Next.{instruction_at, end_at}
use Rattle.instructions.proofs.Places.{records_at}
use Rattle.run_list.proofs.After.{none_left as ended, no_broken}
use Rattle.run_list.proofs.Again as Again
use Rattle.run_list.proofs.run_records.Goals as goal

abbrev statement_at_slot : List Statement → ℕ → Statement
statement_at_slot statements slot = get_or statements slot blank

abbrev register_in : List Register → ℕ → Register
register_in registers slot = get_or registers slot missing

pub loop-record-preserved : goal.loop-record-preserved
loop-record-preserved c =
    let below : c.loop-record._record < c.args.count = c.loop-record-test.true in
    let sized : length c.args.block.statements ≡ 64 = search (rules, unmapped) in
    let left_over = c.args.count - (c.loop-record._record + 1) in
    let one : c.args.count - c.loop-record._record ≡ suc left_over = more c.args.count c.loop-record._record below in
    let named = c.slot.ensures.exact ∙ ap (slot_of 64) c.statement_number.ensures in
    let first = c.slot-in-loop-record.ensures.exact ∙ ap (slot_of 97) c.first_register.ensures in
    let second = c.slot-in-loop-record-2.ensures.exact ∙ ap (slot_of 97) c.second_register.ensures in
    let onward =
    Again.onward (declared c.args.block) c.args.block.statements c.args.block.count refl sized c.loop-record.registers c.loop-record.n c.loop-record.invariant.0 c.loop-record.invariant.1 c.loop-record.variables c.loop-record.cells
    c.args.bytes.now c.loop-record.start left_over
    (subst (λ (k : ℕ). allowed_of (declared c.args.block) (counts_of c.loop-record.registers c.loop-record.n) (read_records k (drop c.loop-record.start c.args.bytes.now)) ≡ true) one c.loop-record.invariant.5)
    c.in-Some.instruction (sym (ap read_meant c.in-Some.is) ∙ c.next_instruction-next.ensures.0) c.args.lengths.now _ _ _ c.step-written.result _ c.requires.declared_lengths
    (ap (statement_at_slot c.args.block.statements) named) (ap (register_in c.loop-record.registers) first) (ap (register_in c.loop-record.registers) second)
    c.step-written.ensures.0 c.step-written.ensures.1 c.step-written.ensures.2 c.registers_more-n.result c.next_instruction-next.result.end c.instruction_price-price.result c.loop-record.price
    c.registers_more-n.ensures.exact c.next_instruction-next.ensures.1 c.instruction_price-price.ensures.0
    in (
      onward.0,
      length-set c.loop-record.registers c.loop-record.n c.step-written.result ∙ c.loop-record.invariant.1,
      c.step-written.auto.variables ∙ c.loop-record.invariant.2,
      c.step-written.auto.cells ∙ c.loop-record.invariant.3,
      omega (arith, c.loop-record.invariant.4, c.instruction_price-price.ensures.1),
      onward.1,
      c.loop-record.invariant.6 ∙ ap (λ (k : ℕ). paid (declared c.args.block) c.loop-record.price (read_records k (drop c.loop-record.start c.args.bytes.now))) one ∙ onward.2,
      c.loop-record.invariant.7
          ∙ ap (λ (k : ℕ). left (declared c.args.block) (card_of c.loop-record.registers c.loop-record.n (lent c.loop-record.variables c.loop-record.cells)) (read_records k (drop c.loop-record.start c.args.bytes.now))) one
          ∙ onward.3,
    )

-- a record at fault is none of a list that is allowed
pub returns-in_default : goal.returns-in_default
returns-in_default c =
    let left_over = c.args.count - (c.loop-record._record + 1) in
    let one : c.args.count - c.loop-record._record ≡ suc left_over = more c.args.count c.loop-record._record c.loop-record-test.true in
    absurd
    (no_broken (declared c.args.block) (counts_of c.loop-record.registers c.loop-record.n) (instruction_at c.args.bytes.now c.loop-record.start)
    (read_records left_over (drop (end_at c.args.bytes.now c.loop-record.start) c.args.bytes.now))
    (rw (one, records_at c.args.bytes.now c.loop-record.start left_over) at c.loop-record.invariant.5)
    (sym (ap read_meant c.in_default.is) ∙ c.next_instruction-next.ensures.0))

pub returns : goal.returns
returns c =
    let over : c.args.count ≤ c.loop-record._record = c.loop-record-test.false in
    let none = none_left c.args.count c.loop-record._record over in
    let behind = drop c.loop-record.start c.args.bytes.now in
    let card = card_of c.loop-record.registers c.loop-record.n (lent c.loop-record.variables c.loop-record.cells) in
    let end =
    ended (declared c.args.block) (counts_of c.loop-record.registers c.loop-record.n) c.loop-record.price card behind
    (subst (λ (k : ℕ). allowed_of (declared c.args.block) (counts_of c.loop-record.registers c.loop-record.n) (read_records k behind) ≡ true) none c.loop-record.invariant.5)
    in record {
      price = sym (c.loop-record.invariant.6 ∙ ap (λ (k : ℕ). paid (declared c.args.block) c.loop-record.price (read_records k behind)) none ∙ end.0);
      contents = sym (c.loop-record.invariant.7 ∙ ap (λ (k : ℕ). left (declared c.args.block) card (read_records k behind)) none ∙ end.1);
    }
