-- The whole account of any bytes: how long it is at most, for a block of 64 statements and a list of 160 instructions.
use mathlib.Core.Path.{◌≡◌, refl}
use mathlib.Core.Bool.{true}
use mathlib.Core.List.{List}
use Prim.Native.Nat.{ℕ, ◌≤◌}
use native.Mathlib.Omega.{arith}
use lib.Dec.{ltb}
use lib.ListN.{length}
use Rattle.basics.specs.Lists.{all}
use Rattle.meaning.specs.Numbers.{Answer, refused, done}
use Rattle.meaning.specs.Block.{Block, block_price}
use Rattle.meaning.specs.Format.{read_block}
use Rattle.meaning.specs.List.{list_price}
use Rattle.meaning.specs.declared.Statement.{Statement}
use Rattle.meaning.specs.Seeding.{seed}
use Rattle.meaning.specs.Extension.{extend}
use Rattle.meaning.specs.Combination.{combine}
use Rattle.meaning.specs.Choice.{scheduled_units, packed_list, chosen_list}
use Rattle.theorems.proofs.Bytes.{is_byte}
use Rattle.theorems.proofs.Readable.{done_readable, done_fits}
use Rattle.theorems.proofs.ScheduleRuns.{units_of_lem}
use Rattle.theorems.proofs.Chosen.{chosen_lawful}
use Rattle.text.specs.Text.{words}
use Rattle.answers.specs.Sentences.{refusal}
use Rattle.answers.proofs.Lengths.{length_refusal}
use Rattle.account_units.specs.Sections.{pair_section, chain_section, pack_section, schedule_section, dissolved_section}
use Rattle.account_units.proofs.OfBlock.{pairs_short, chains_short, packs_short, schedule_short, dissolved_short}
use Rattle.account.specs.Prices.{is_answer, is_not_below, choice_line, sums_line}
use Rattle.account.specs.Account.{pairing_told, packing_told, answer_heading, answer_told, block_told, told, explained}
use Rattle.account_lengths.proofs.Short.{Short, counted, said, number, ◌then◌, at_most, either}
use Rattle.account_lengths.proofs.Statements.{head, statements}
use Rattle.account_lengths.proofs.Instructions.{instructions}

choice : (block packed : ℕ) → Short (choice_line block packed) 146
unfolding choice_line
choice block packed =
    said (words "The block costs ")
    then number block
    then said (words ", the packed list ")
    then number packed
    then said (words ". ")
    then either (ltb packed block) (at_most (length is_not_below) (said is_answer) (omega arith)) (said is_not_below)

sums : (block list : ℕ) → Short (sums_line block list) 75
unfolding sums_line
sums block list =
    said (words "Sums: the block costs ") then number block then said (words ", the list ") then number list then said (words ".\n")

module _ (bytes : List ℕ) (are : all is_byte bytes ≡ true) (b : Block) (read : read_block bytes ≡ done b) where
  few : length b.statements ≤ 64
  few = (done_readable bytes b read).count

  abbrev ss : List Statement
  ss = b.statements

  abbrev units : List (List ℕ)
  units = combine ss (extend ss (seed ss))

  pairing : Short (pairing_told ss) 4336
  unfolding pairing_told
  pairing =
      counted (pair_section (extend ss (seed ss))) (pairs_short ss few)
      then counted (chain_section (length ss) (extend ss (seed ss))) (chains_short ss few)

  packing : Short (packing_told ss) 4471
  unfolding packing_told
  packing =
      counted (pack_section units) (packs_short ss few)
      then counted (schedule_section (scheduled_units ss)) (schedule_short ss few)
      then counted (dissolved_section units (scheduled_units ss)) (dissolved_short ss few)

  answer : Short (answer_told b) 37407
  unfolding answer_told
  answer =
      let fits = (chosen_lawful b (done_readable bytes b read) (done_fits bytes b are read) (units_of_lem ss)).fits in
      said answer_heading
      then instructions ss (chosen_list b) fits.count fits.fit
      then sums (block_price ss) (list_price ss (chosen_list b))

  block : Short (block_told b) 58688
  unfolding block_told
  block =
      head b
      then statements ss few
      then (pairing then packing then choice (block_price ss) (list_price ss (packed_list b)))
      then answer

pub account : (bytes : List ℕ) → all is_byte bytes ≡ true → Short (explained bytes) 58688
unfolding explained
account bytes are = by (read_block bytes) refl
  where
    by : (a : Answer Block) → read_block bytes ≡ a → Short (told a) 58688
    by (refused n) e = at_most 58688 (counted (refusal n) (length_refusal n)) (omega arith)
    by (done b) e = block bytes are b e
