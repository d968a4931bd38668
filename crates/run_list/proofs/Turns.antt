-- One turn of a list's run: an instruction that is allowed, done on a table of registers, is the instruction done on the card.
use mathlib.Core.Path.{◌≡◌, refl, sym, ap, ◌∙◌}
use mathlib.Core.Bool.{true, ◌&&◌}
use mathlib.Core.List.{List, [], ◌∷◌, ◌++◌, map}
use Prim.Native.Nat.{ℕ, zero, suc, ◌≤◌, ◌<◌}
use native.Mathlib.Omega.{arith}
use lib.ListN.{length, get_or, take, length-map, length-take, get_or-map}
use lib.Seq.{get_or-take}
use borrow.Author.Tests.{lt-ltb, ltb-true}
use Rattle.basics.specs.Choice.{pick}
use Rattle.basics.proofs.Tests.{and_left, and_right}
use Rattle.meaning.specs.declared.Statement.{Statement}
use Rattle.meaning.specs.Block.{Block, blank, statement, statement_price}
use Rattle.meaning.specs.Machine.{Contents, cell_at, fetch, fetch_place}
use Rattle.meaning.specs.List.{Instruction as Meaning, is_next, is_written, has_lane, is_allowed, instruction_price}
use Rattle.meaning.specs.List as List
use Rattle.meaning.specs.Card.{Card, row, lanes_of, run_instruction}
use Rattle.instructions.specs.declared.Instruction.{Instruction}
use Rattle.instructions.specs.declared.Instruction.TheVariants.{S, L, C, G, Copy, O, W, D, X}
use Rattle.instructions.specs.Meant.{meant}
use Rattle.memory.specs.Lent.{lent}
use Rattle.instructions.specs.declared.Register.{Register}
use Rattle.card.specs.Registers.{held, row_fetched}
use Rattle.card.specs.Step.{writes, lanes_after, contents_after}
use Rattle.card.proofs.Lanes.{row_fetched_lem, row_stored_lem}
use Rattle.rules.specs.Price.{price_of}
use Rattle.rules.specs.Price as Price
use Rattle.rules.proofs.Tied.{price_meant_lem}
use Rattle.run_list.specs.Runs.{statement_of, first_of, second_of, slot_of, missing, register_at, statement_at, card_of, counts_of}

-- L has at most four lanes
abbrev pub load_lanes : Meaning → ℕ
load_lanes (List.S s) = 0
load_lanes (List.L r k a i) = k
load_lanes (List.C r cs) = 0
load_lanes (List.G r os) = 0
load_lanes (List.O r operation k ra rb) = 0
load_lanes (List.W r k a i) = 0
load_lanes (List.D r lane a i) = 0
load_lanes (List.X r lane v) = 0

-- the first k of what is mapped
take_map : {A B : Type 0} (f : A → B) (k : ℕ) (l : List A) → take k (map f l) ≡ map f (take k l)
take_map f zero l = refl
take_map f (suc k) [] = refl
take_map {B = B} f (suc k) (x ∷ l) = ap {B = List B} (λ rest. f x ∷ rest) (take_map f k l)

first_row : (k a i : ℕ) → k ≤ 4 → take k (row 4 a i) ≡ row k a i
first_row zero a i h = refl
first_row (suc zero) a i h = refl
first_row (suc (suc zero)) a i h = refl
first_row (suc (suc (suc zero))) a i h = refl
first_row (suc (suc (suc (suc zero)))) a i h = refl
first_row (suc (suc (suc (suc (suc k))))) a i h = absurd (omega arith)

loaded_row : (lengths variables cells : List ℕ) (k a i : ℕ) → k ≤ 4
    → map (fetch_place lengths (lent variables cells)) (row k a i) ≡ take k (row_fetched (cell_at lengths a i) cells)
loaded_row lengths variables cells k a i h =
    let f = fetch_place lengths (lent variables cells) in
    sym (ap (take k) (row_fetched_lem lengths variables cells a i) ∙ take_map f k (row 4 a i) ∙ ap (map f) (first_row k a i h))

-- a slot that is there is its own number
slot_there : (slots n : ℕ) → n < slots → slot_of slots n ≡ n
slot_there slots n h = rw (lt-ltb n slots h)

pub length_counts : (registers : List Register) (n : ℕ) → n ≤ length registers → length (counts_of registers n) ≡ n
length_counts registers n h =
    length-map (map held (take n registers)) length ∙ length-map (take n registers) held ∙ omega (arith, length-take n registers)

-- the lanes of a register that is written
lanes_there : (registers : List Register) (n r : ℕ) (m : Contents) → n ≤ 96 → length registers ≡ 97 → r < n
    → lanes_of (card_of registers n m) r ≡ held (register_at registers r)
lanes_there registers n r m small sized below =
    get_or-map held (take n registers) r missing
    ∙ ap held (get_or-take n registers r missing below ∙ ap (λ (k : ℕ). get_or registers k missing) (sym (slot_there 97 r (omega arith))))

module _ (b : Block) (slots : List Statement) (count : ℕ) (are : b.statements ≡ take count slots) (room : length slots ≡ 64)
    (registers : List Register) (n : ℕ) (small : n ≤ 96) (sized : length registers ≡ 97) (variables cells : List ℕ) where
  abbrev m : Contents
  m = lent variables cells

  abbrev card : Card
  card = card_of registers n m

  abbrev counts : List ℕ
  counts = counts_of registers n

  -- the card after an instruction, as the table has it
  abbrev pub tabled : Instruction → Card
  tabled i =
      record {
        contents = contents_after b.lengths (statement_at slots (statement_of i)) (held (register_at registers (first_of i))) i m;
        registers =
            pick (writes i)
            (map held (take n registers) ++ lanes_after b.lengths m (held (register_at registers (first_of i))) (held (register_at registers (second_of i))) i ∷ [])
            (map held (take n registers));
      }

  written_below : (r k : ℕ) → is_written counts r k ≡ true → r < n
  written_below r k e = omega (arith, ltb-true r (length counts) (and_left _ _ e), length_counts registers n (omega arith))

  lane_below : (r k : ℕ) → has_lane counts r k ≡ true → r < n
  lane_below r k e = omega (arith, ltb-true r (length counts) (and_left _ _ e), length_counts registers n (omega arith))

  there : (r : ℕ) → r < n → lanes_of card r ≡ held (register_at registers r)
  there r below = lanes_there registers n r m small sized below

  named : (s : ℕ) → s < length b.statements → statement b.statements s ≡ statement_at slots s
  named s below =
      let long : s < length (take count slots) = rw are at below in
      rw are (get_or-take count slots s blank (omega (arith, length-take count slots))
      ∙ ap (λ (k : ℕ). get_or slots k blank) (sym (slot_there 64 s (omega (arith, length-take count slots)))))

  pub turn : (i : Instruction) → load_lanes (meant i) ≤ 4 → is_allowed b counts (meant i) ≡ true → run_instruction b (meant i) card ≡ tabled i
  unfolding run_instruction contents_after lanes_after
  turn (S s) = λ fits ok. rw (named s (ltb-true s (length b.statements) ok))
  turn (L r k a i) = λ fits ok.
      ap {B = Card} (λ lanes. record { contents = m; registers = map held (take n registers) ++ lanes ∷ [] }) (loaded_row b.lengths variables cells k a i fits)
  turn (C r k c₀ c₁ c₂ c₃) = λ fits ok. refl
  turn (G r k o₀ o₁ o₂ o₃) = λ fits ok. rw (take_map (fetch b.lengths m) k (o₀ ∷ o₁ ∷ o₂ ∷ o₃ ∷ []))
  turn (Copy r k ra) = λ fits ok. rw (there ra (written_below ra k (and_right (is_next counts r) _ (and_left _ _ ok))))
  turn (O r operation k ra rb) = λ fits ok.
      rw (
        there ra (written_below ra k (and_right (is_next counts r) _ (and_left _ _ ok))),
        there rb (written_below rb k (and_right (is_next counts r && is_written counts ra k) _ ok)),
      )
  turn (W r k a i) = λ fits ok.
      rw (there r (written_below r k (and_left _ _ ok)), row_stored_lem b.lengths variables k a i (held (register_at registers r)) cells)
  turn (D r lane a i) = λ fits ok. rw (there r (lane_below r lane (and_left _ _ ok)))
  turn (X r lane v) = λ fits ok. rw (there r (lane_below r lane (and_left _ _ ok)))

  -- the price with the statement that the table has
  prices : (i : Instruction) → is_allowed b counts (meant i) ≡ true → price_of i (statement_at slots (statement_of i)) ≡ price_of i (Price.named b.statements i)
  prices (S s) = λ ok. ap statement_price (sym (named s (ltb-true s (length b.statements) ok)))
  prices (L r k a i) = λ ok. refl
  prices (C r k c₀ c₁ c₂ c₃) = λ ok. refl
  prices (G r k o₀ o₁ o₂ o₃) = λ ok. refl
  prices (Copy r k ra) = λ ok. refl
  prices (O r operation k ra rb) = λ ok. refl
  prices (W r k a i) = λ ok. refl
  prices (D r lane a i) = λ ok. refl
  prices (X r lane v) = λ ok. refl

  pub priced : (i : Instruction) → is_allowed b counts (meant i) ≡ true → price_of i (statement_at slots (statement_of i)) ≡ instruction_price b.statements (meant i)
  priced i ok = prices i ok ∙ price_meant_lem b.statements i
