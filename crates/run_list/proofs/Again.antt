-- From one turn of a list's run to the next: what is left at the record behind, on the table with the register that was written.
use mathlib.Core.Path.{◌≡◌, sym, ap, ap₂, subst, ◌∙◌}
use mathlib.Core.Bool.{true}
use mathlib.Core.Option.{Option, some}
use mathlib.Core.List.{List, map}
use Prim.Native.Nat.{ℕ, suc, ◌+◌, ◌≤◌}
use native.Mathlib.Omega.{arith}
use lib.ListN.{length, take, drop, set}
use Rattle.basics.specs.Choice.{pick}
use Rattle.meaning.specs.declared.Statement.{Statement}
use Rattle.meaning.specs.Block.{Block}
use Rattle.meaning.specs.Machine.{Contents}
use Rattle.meaning.specs.List.{Instruction as Meaning, is_allowed, after_one, read_records}
use Rattle.meaning.specs.Card.{Card, run_instruction}
use Rattle.instructions.specs.declared.Instruction.{Instruction}
use Rattle.instructions.specs.Meant.{meant}
use Rattle.instructions.specs.Next.{instruction_at, end_at, behind}
use Rattle.instructions.proofs.Places.{records_at}
use Rattle.memory.specs.Lent.{lent}
use Rattle.rules.specs.Price.{price_of}
use Rattle.instructions.specs.declared.Register.{Register}
use Rattle.card.specs.Registers.{held}
use Rattle.card.specs.Step.{writes, lanes_after, contents_after}
use Rattle.lists.specs.Whole.{allowed_of}
use Rattle.run_list.specs.Runs.{statement_of, first_of, second_of, register_at, statement_at, card_of, counts_of, paid, left}
use Rattle.run_list.proofs.Turns.{turn, priced}
use Rattle.run_list.proofs.Loads.{load_fits}
use Rattle.run_list.proofs.After.{stored, stays_small, counted, one_allowed_lem, rest_allowed, one_paid, one_left}

module _ (b : Block) (slots : List Statement) (count : ℕ) (are : b.statements ≡ take count slots) (room : length slots ≡ 64)
    (registers : List Register) (n : ℕ) (small : n ≤ 96) (sized : length registers ≡ 97) (variables cells : List ℕ)
    (bytes : List ℕ) (start k : ℕ) (ok : allowed_of b (counts_of registers n) (read_records (suc k) (drop start bytes)) ≡ true)
    (i : Instruction) (e : some (meant i) ≡ instruction_at bytes start)
    (w : Register) (current : w.current ≡ writes i)
    (lanes : held w ≡ lanes_after b.lengths (lent variables cells) (held (register_at registers (first_of i))) (held (register_at registers (second_of i))) i)
    (after : Contents)
    (contents : after ≡ contents_after b.lengths (statement_at slots (statement_of i)) (held (register_at registers (first_of i))) i (lent variables cells)) where
  abbrev rest : Option (List Meaning)
  rest = read_records k (drop (end_at bytes start) bytes)

  abbrev more : ℕ
  more = n + pick w.current 1 0

  abbrev table : List Register
  table = set registers n w

  abbrev j : Meaning
  j = meant i

  split : read_records (suc k) (drop start bytes) ≡ after_one j rest
  split = records_at bytes start k ∙ ap (λ (x : Option Meaning). behind x rest) (sym e)

  ok_split : allowed_of b (counts_of registers n) (after_one j rest) ≡ true
  ok_split = subst (λ (x : Option (List Meaning)). allowed_of b (counts_of registers n) x ≡ true) split ok

  ok_one : is_allowed b (counts_of registers n) j ≡ true
  ok_one = one_allowed_lem b (counts_of registers n) j rest ok_split

  pub more_small : more ≤ 96
  more_small = rw current (stays_small b registers n small sized i ok_one)

  same_card : run_instruction b j (card_of registers n (lent variables cells)) ≡ card_of table more after
  same_card =
      turn b slots count are room registers n small sized variables cells i (load_fits bytes start j (sym e)) ok_one
      ∙ ap₂ {C = Card} (λ m rs. record { contents = m; registers = rs }) (sym contents)
      (sym (stored registers n w (writes i) _ (omega arith) current lanes))

  pub still_allowed : allowed_of b (counts_of table more) rest ≡ true
  still_allowed =
      subst (λ (written : List ℕ). allowed_of b written rest ≡ true)
      (counted b j (card_of registers n (lent variables cells)) ok_one ∙ ap (λ (c : Card). map length c.registers) same_card)
      (rest_allowed b (counts_of registers n) j rest ok_split)

  pub still_paid : (price : ℕ) → paid b price (read_records (suc k) (drop start bytes)) ≡ paid b (price + price_of i (statement_at slots (statement_of i))) rest
  still_paid price =
      ap (paid b price) split
      ∙ one_paid b (counts_of registers n) j price rest ok_split
      ∙ ap (λ (p : ℕ). paid b (price + p) rest) (sym (priced b slots count are room registers n small sized variables cells i ok_one))

  pub still_left : left b (card_of registers n (lent variables cells)) (read_records (suc k) (drop start bytes)) ≡ left b (card_of table more after) rest
  still_left =
      ap (left b (card_of registers n (lent variables cells))) split
      ∙ one_left b (counts_of registers n) j (card_of registers n (lent variables cells)) rest ok_split
      ∙ ap (λ (c : Card). left b c rest) same_card

-- the same, as the loop has it: the array lengths, the statement, the registers and the next place by their values
pub onward : (b : Block) (slots : List Statement) (count : ℕ) → b.statements ≡ take count slots → length slots ≡ 64
    → (registers : List Register) (n : ℕ) → n ≤ 96 → length registers ≡ 97 → (variables cells bytes : List ℕ) (start k : ℕ)
    → allowed_of b (counts_of registers n) (read_records (suc k) (drop start bytes)) ≡ true
    → (i : Instruction) → some (meant i) ≡ instruction_at bytes start
    → (lengths : List ℕ) (s : Statement) (x y w : Register) (after : Contents)
    → lengths ≡ b.lengths → s ≡ statement_at slots (statement_of i) → x ≡ register_at registers (first_of i) → y ≡ register_at registers (second_of i)
    → w.current ≡ writes i
    → held w ≡ lanes_after lengths (lent variables cells) (held x) (held y) i
    → after ≡ contents_after lengths s (held x) i (lent variables cells)
    → (one end p price : ℕ) → one ≡ pick w.current 1 0 → end ≡ end_at bytes start → p ≡ price_of i s
    → (n + one ≤ 96)
    × (allowed_of b (counts_of (set registers n w) (n + one)) (read_records k (drop end bytes)) ≡ true)
    × (paid b price (read_records (suc k) (drop start bytes)) ≡ paid b (price + p) (read_records k (drop end bytes)))
    × (left b (card_of registers n (lent variables cells)) (read_records (suc k) (drop start bytes))
    ≡ left b (card_of (set registers n w) (n + one) after) (read_records k (drop end bytes)))
onward b slots count are room registers n small sized variables cells bytes start k ok i e lengths s x y w after el es ex ey current lanes contents one end p price e₁ e₂ e₃ =
    let lanes' : held w ≡ lanes_after b.lengths (lent variables cells) (held (register_at registers (first_of i))) (held (register_at registers (second_of i))) i =
    lanes ∙ ap (λ (l : List ℕ). lanes_after l (lent variables cells) (held x) (held y) i) el
    ∙ ap₂ (λ (x y : Register). lanes_after b.lengths (lent variables cells) (held x) (held y) i) ex ey
    in
    let contents' : after ≡ contents_after b.lengths (statement_at slots (statement_of i)) (held (register_at registers (first_of i))) i (lent variables cells) =
    contents ∙ ap (λ (l : List ℕ). contents_after l s (held x) i (lent variables cells)) el
    ∙ ap₂ (λ (s : Statement) (x : Register). contents_after b.lengths s (held x) i (lent variables cells)) es ex
    in
    let p' : p ≡ price_of i (statement_at slots (statement_of i)) = e₃ ∙ ap (price_of i) es in
    rw (e₁, e₂, p') (
      more_small b slots count are room registers n small sized variables cells bytes start k ok i e w current lanes' after contents',
      still_allowed b slots count are room registers n small sized variables cells bytes start k ok i e w current lanes' after contents',
      still_paid b slots count are room registers n small sized variables cells bytes start k ok i e w current lanes' after contents' price,
      still_left b slots count are room registers n small sized variables cells bytes start k ok i e w current lanes' after contents',
    )
