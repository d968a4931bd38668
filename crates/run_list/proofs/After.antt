-- Behind one instruction: the table with the register that was written, how many lanes its registers have, and what is left to run and to pay.
use mathlib.Core.Path.{◌≡◌, refl, sym, ap, subst, ◌∙◌}
use mathlib.Core.Bool.{Bool, true, false, false≢true}
use mathlib.Core.Option.{Option, none, some}
use mathlib.Core.List.{List, [], ◌∷◌, ◌++◌, map, map-append}
use Prim.Native.Nat.{ℕ, ◌+◌, ◌≤◌, ◌<◌}
use native.Mathlib.Nat.{add-zero}
use native.Mathlib.Numerals.{add-one}
use native.Mathlib.Omega.{arith}
use lib.Dec.{eqb}
use lib.ListN.{length, take, set, length-map}
use lib.Seq.{take-suc-set, take-set-le}
use borrow.Author.Tests.{ltb-true, eqb-true}
use Rattle.basics.specs.Choice.{pick}
use Rattle.basics.proofs.Tests.{and_left, and_right}
use Rattle.meaning.specs.Block.{Block}
use Rattle.meaning.specs.Machine.{fetch, fetch_place}
use Rattle.meaning.specs.List.{Instruction as Meaning, S, L, C, G, O, W, D, X, is_next, is_allowed, written_after, allowed, after_one, instruction_price, list_price, read_records}
use Rattle.meaning.specs.Card.{Card, row, lanes_of, second_lanes, run_instruction}
use Rattle.meaning.proofs.Lengths.{row_length, operate_length}
use Rattle.theorems.proofs.Frames.{lane_count}
use Rattle.instructions.specs.declared.Instruction.{Instruction}
use Rattle.instructions.specs.declared.Instruction.TheVariants as Slots
use Rattle.instructions.specs.Meant.{meant}
use Rattle.instructions.specs.Next.{behind}
use Rattle.instructions.specs.declared.Register.{Register}
use Rattle.card.specs.Registers.{held}
use Rattle.card.specs.Step.{writes}
use Rattle.lists.specs.Whole.{allowed_of}
use Rattle.run_list.specs.Runs.{counts_of, paid, left}
use Rattle.run_list.proofs.Turns.{length_counts}

-- a register more, or none
stored_by : (registers : List Register) (n : ℕ) (w : Register) (test : Bool) → n < length registers
    → map held (take (n + pick test 1 0) (set registers n w)) ≡ pick test (map held (take n registers) ++ held w ∷ []) (map held (take n registers))
stored_by registers n w true below = rw (add-one, take-suc-set registers n w below) (map-append held (take n registers) (w ∷ []))
stored_by registers n w false below = rw (add-zero, take-set-le n registers n w (omega arith))

pub stored : (registers : List Register) (n : ℕ) (w : Register) (test : Bool) (lanes : List ℕ) → n < length registers → w.current ≡ test → held w ≡ lanes
    → map held (take (n + pick w.current 1 0) (set registers n w)) ≡ pick test (map held (take n registers) ++ lanes ∷ []) (map held (take n registers))
stored registers n w test lanes below e h =
    ap (λ (t : Bool). map held (take (n + pick t 1 0) (set registers n w))) e
    ∙ stored_by registers n w test below
    ∙ ap (λ (l : List ℕ). pick test (map held (take n registers) ++ l ∷ []) (map held (take n registers))) h

-- a 97th register is not allowed
module _ (b : Block) (registers : List Register) (n : ℕ) (small : n ≤ 96) (sized : length registers ≡ 97) where
  next_small : (r : ℕ) → is_next (counts_of registers n) r ≡ true → n + 1 ≤ 96
  next_small r e =
      omega (
        arith,
        eqb-true r (length (counts_of registers n)) (and_left _ _ e),
        ltb-true r 96 (and_right (eqb r (length (counts_of registers n))) _ e),
        length_counts registers n (omega arith),
      )

  pub stays_small : (i : Instruction) → is_allowed b (counts_of registers n) (meant i) ≡ true → n + pick (writes i) 1 0 ≤ 96
  stays_small (Slots.S s) = λ ok. omega arith
  stays_small (Slots.L r k a i) = λ ok. next_small r (and_left _ _ ok)
  stays_small (Slots.C r k c₀ c₁ c₂ c₃) = λ ok. next_small r ok
  stays_small (Slots.G r k o₀ o₁ o₂ o₃) = λ ok. next_small r (and_left _ _ ok)
  stays_small (Slots.Copy r k ra) = λ ok. next_small r (and_left _ _ (and_left _ _ ok))
  stays_small (Slots.O r operation k ra rb) = λ ok. next_small r (and_left _ _ (and_left _ _ ok))
  stays_small (Slots.W r k a i) = λ ok. omega arith
  stays_small (Slots.D r lane a i) = λ ok. omega arith
  stays_small (Slots.X r lane v) = λ ok. omega arith

-- how many lanes the registers have afterwards
one_more : (registers : List (List ℕ)) (lanes : List ℕ) (k : ℕ) → length lanes ≡ k → map length registers ++ k ∷ [] ≡ map length (registers ++ lanes ∷ [])
one_more registers lanes k e = sym (map-append length registers (lanes ∷ []) ∙ ap (λ (n : ℕ). map length registers ++ n ∷ []) e)

pub counted : (b : Block) (j : Meaning) (c : Card) → is_allowed b (map length c.registers) j ≡ true
    → written_after (map length c.registers) j ≡ map length (run_instruction b j c).registers
unfolding run_instruction
counted b (S s) c ok = refl
counted b (L r k a i) c ok = one_more c.registers _ k (length-map (row k a i) (fetch_place b.lengths c.contents) ∙ row_length k a i)
counted b (C r cs) c ok = one_more c.registers cs (length cs) refl
counted b (G r os) c ok = one_more c.registers _ (length os) (length-map os (fetch b.lengths c.contents))
counted b (O r operation k ra rb) c ok =
    one_more c.registers _ k
    (operate_length operation (lanes_of c ra) (second_lanes c rb)
    ∙ lane_count c.registers (map length c.registers) ra k refl (and_right (is_next (map length c.registers) r) _ (and_left _ _ ok)))
counted b (W r k a i) c ok = refl
counted b (D r lane a i) c ok = refl
counted b (X r lane v) c ok = refl

-- what is left, taken apart
module _ (b : Block) (written : List ℕ) (j : Meaning) where
  pub one_allowed_lem : (rest : Option (List Meaning)) → allowed_of b written (after_one j rest) ≡ true → is_allowed b written j ≡ true
  unfolding allowed
  one_allowed_lem none e = absurd (false≢true e)
  one_allowed_lem (some list) e = and_left _ _ e

  pub rest_allowed : (rest : Option (List Meaning)) → allowed_of b written (after_one j rest) ≡ true → allowed_of b (written_after written j) rest ≡ true
  unfolding allowed
  rest_allowed none e = e
  rest_allowed (some list) e = and_right (is_allowed b written j) _ e

  pub one_paid : (price : ℕ) (rest : Option (List Meaning)) → allowed_of b written (after_one j rest) ≡ true
      → paid b price (after_one j rest) ≡ paid b (price + instruction_price b.statements j) rest
  unfolding list_price
  one_paid price none e = absurd (false≢true e)
  one_paid price (some list) e = omega arith

  pub one_left : (c : Card) (rest : Option (List Meaning)) → allowed_of b written (after_one j rest) ≡ true
      → left b c (after_one j rest) ≡ left b (run_instruction b j c) rest
  one_left c none e = absurd (false≢true e)
  one_left c (some list) e = refl

-- what is left begins with an instruction
pub no_broken : (b : Block) (written : List ℕ) (x : Option Meaning) (rest : Option (List Meaning)) → allowed_of b written (behind x rest) ≡ true → none ≡ x → ⊥
no_broken b written x rest ok e = false≢true (subst (λ (read : Option Meaning). allowed_of b written (behind read rest) ≡ true) (sym e) ok)

-- no record is left
pub none_left : (b : Block) (written : List ℕ) (price : ℕ) (c : Card) (bytes : List ℕ) → allowed_of b written (read_records 0 bytes) ≡ true
    → (paid b price (read_records 0 bytes) ≡ price) × (left b c (read_records 0 bytes) ≡ c.contents)
unfolding read_records list_price
none_left b written price c [] e = (omega arith, refl)
none_left b written price c (byte ∷ bytes) e = absurd (false≢true e)
