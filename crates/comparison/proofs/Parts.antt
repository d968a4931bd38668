-- The parts of the input: the block's bytes and those behind it, by where the block ends; and how many cells a block that reads can have.
use mathlib.Core.Path.{◌≡◌, refl, sym, ap, ap₂, ◌∙◌}
use mathlib.Core.Logic.{◌⊎◌, inl, inr}
use mathlib.Core.Bool.{true}
use mathlib.Core.List.{List, [], ◌∷◌}
use Prim.Native.Nat.{ℕ, ◌+◌, ◌*◌, ◌-◌, ◌≤◌, ◌<◌, min}
use native.Mathlib.Nat.{add-zero}
use native.Mathlib.Omega.{arith}
use borrow.Author.Tests.{lt-ltb, le-ltb, eq-eqb, ne_eqb}
use lib.ListN.{length, take, drop, drop_of_length-le}
use lib.Seq.{take_all}
use Rattle.basics.specs.Lists.{all, sum}
use Rattle.basics.proofs.Tests.{below_or_not}
use Rattle.basics.proofs.Lists.{take_rest, take_least}
use Rattle.basics.proofs.Parts.{all_first, all_others}
use Rattle.meaning.specs.declared.Block.{Block as Slots}
use Rattle.meaning.specs.Numbers.{Answer, refused, done}
use Rattle.meaning.specs.Block.{Block, declared}
use Rattle.meaning.specs.Format.{read_block, length_fits}
use Rattle.meaning.specs.Machine.{cell_at}
use Rattle.meaning.specs.Calls.{block_read, read_block_call}
use Rattle.theorems.proofs.Readable.{refused_number, done_readable, declared_in_memory, length_fits_lem}
use Rattle.memory.specs.Lent.{lent}
use Rattle.comparison.specs.Input.{stated, block_in, contents_in, numbers_in}
use Rattle.comparison.specs.Lines.{compared_on}
use Rattle.comparison.specs.Compared.{room, wrong_size, too_long, refusal_text, sized_text, answer_text, compared}

-- the cells of all arrays, at most 256 of each
pub every_cell : (lengths : List ℕ) → length lengths ≤ 8 → cell_at lengths 8 0 ≡ sum lengths
every_cell lengths few = add-zero (sum (take 8 lengths)) ∙ ap sum (take_all 8 lengths few)

sum_few : (lengths : List ℕ) → all length_fits lengths ≡ true → sum lengths ≤ 256 * length lengths
sum_few [] fit = omega arith
sum_few (n ∷ ns) fit = omega (arith, (length_fits_lem n (all_first length_fits n ns fit)).1, sum_few ns (all_others length_fits n ns fit))

pub few_in_all : (lengths : List ℕ) → length lengths ≤ 8 → all length_fits lengths ≡ true → sum lengths ≤ 2048
few_in_all lengths few fit = omega (arith, few, sum_few lengths fit)

-- what a block that reads declares
pub within_limits :
    (bytes : List ℕ) (slots : Slots) (lengths : List ℕ) → read_block bytes ≡ done (declared slots) → lengths ≡ (declared slots).lengths
    → (length lengths ≤ 8) × ((all length_fits lengths ≡ true) × (slots.variables ≤ 32))
within_limits bytes slots lengths read e =
    let readable = done_readable bytes (declared slots) read in
    rw e (readable.arrays, (readable.lengths, readable.variables))

-- by the size of the contents
module _ (bytes lengths : List ℕ) (variables live : ℕ) (rest : List ℕ) (count cells : ℕ) (e : count ≡ variables) (f : cells ≡ sum lengths) where
  takes : 4 * (count + cells) ≡ 4 * (variables + sum lengths)
  takes = ap₂ (λ (m n : ℕ). 4 * (m + n)) e f

  pub wrong_size_lem : (length rest ≡ 4 * (count + cells) → ⊥) → wrong_size (length rest) (4 * (count + cells)) ≡ sized_text bytes lengths variables live rest
  unfolding sized_text
  wrong_size_lem other =
      ap (wrong_size (length rest)) takes
      ∙ rw (ne_eqb (length rest) (4 * (variables + sum lengths)) (λ (same : length rest ≡ 4 * (variables + sum lengths)). other (same ∙ sym takes)))

  pub right_size_lem : length rest ≡ 4 * (count + cells)
      → compared_on lengths live bytes room (lent (numbers_in count rest) (numbers_in cells (take (length rest - 4 * count) (drop (4 * count) rest))))
      ≡ sized_text bytes lengths variables live rest
  unfolding sized_text
  right_size_lem same =
      ap (λ (m : ℕ). compared_on lengths live bytes room (lent (numbers_in m rest) (numbers_in cells (take (length rest - 4 * m) (drop (4 * m) rest))))) e
      ∙ ap₂ (λ (n : ℕ) (behind : List ℕ). compared_on lengths live bytes room (lent (numbers_in variables rest) (numbers_in n behind))) f (take_rest rest (4 * variables))
      ∙ rw (eq-eqb (length rest) (4 * (variables + sum lengths)) (same ∙ takes))

drop_least : (n : ℕ) (l : List ℕ) → drop (min n (length l)) l ≡ drop n l
drop_least n l = by (below_or_not n (length l))
  where
    by : (n < length l) ⊎ (length l ≤ n) → drop (min n (length l)) l ≡ drop n l
    by (inl low) =
        let least : min n (length l) ≡ n = omega arith in
        ap (λ (k : ℕ). drop k l) least
    by (inr high) = drop_of_length-le l {i = min n (length l)} (omega arith) ∙ sym (drop_of_length-le l {i = n} high)

-- a block that was read without refusal
pub read_done : (bytes : List ℕ) (slots : Slots) → (read_block_call bytes).status ≡ 0 → (read_block_call bytes).block ≡ slots → read_block bytes ≡ done (declared slots)
unfolding read_block_call
read_done bytes slots status block = by (read_block bytes) refl status block
  where
    by : (a : Answer Block) → read_block bytes ≡ a → (block_read a).status ≡ 0 → (block_read a).block ≡ slots → a ≡ done (declared slots)
    by (refused number) read e same = absurd (omega (arith, refused_number bytes number read, e))
    by (done b) read e same = ap done (sym (declared_in_memory b) ∙ ap declared same)

module _ (input : List ℕ) where
  pub over : 9303 < length input → too_long ≡ compared input
  unfolding compared
  over long = rw (lt-ltb 9303 (length input) long)

  module _ (end : ℕ) (e : end ≡ min (stated input) (length input)) (fits : length input ≤ 9303) where
    front : take end input ≡ block_in input
    front = ap (λ (n : ℕ). take n input) e ∙ take_least (stated input) input

    behind : take (length input - end) (drop end input) ≡ contents_in input
    behind = take_rest input end ∙ ap (λ (n : ℕ). drop n input) e ∙ drop_least (stated input) input

    chosen : answer_text (block_in input) (contents_in input) (length input) (read_block (block_in input)) ≡ compared input
    unfolding compared
    chosen = rw (le-ltb 9303 (length input) fits)

    pub refused_text : (status : ℕ) → (read_block_call (take end input)).status ≡ status → (status ≡ 0 → ⊥) → refusal_text status (length input) ≡ compared input
    unfolding read_block_call
    refused_text status read some = by (read_block (block_in input)) (ap (λ (bytes : List ℕ). (block_read (read_block bytes)).status) (sym front) ∙ read) ∙ chosen
      where
        by : (a : Answer Block) → (block_read a).status ≡ status → refusal_text status (length input) ≡ answer_text (block_in input) (contents_in input) (length input) a
        by (refused number) same = ap (λ (n : ℕ). refusal_text n (length input)) (sym same)
        by (done b) same = absurd (some (sym same))

    pub read_text : (slots : Slots) → read_block (take end input) ≡ done (declared slots)
        → answer_text (take end input) (take (length input - end) (drop end input)) 0 (done (declared slots)) ≡ compared input
    read_text slots read =
        ap₂ (λ (bytes rest : List ℕ). answer_text bytes rest (length input) (done (declared slots))) front behind
        ∙ ap (answer_text (block_in input) (contents_in input) (length input)) (sym read ∙ ap read_block front)
        ∙ chosen
