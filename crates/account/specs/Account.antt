-- The account of a block: what is told of it, phase by phase, and what is told of any bytes.
use Rattle.std.specs.Prelude.{ℕ, List, ◌++◌, length}
use Rattle.meaning.specs.declared.Statement.{Statement}
use Rattle.meaning.specs.Numbers.{Answer, refused, done}
use Rattle.meaning.specs.Block.{Block, block_price}
use Rattle.meaning.specs.Format.{read_block}
use Rattle.meaning.specs.List.{list_price}
use Rattle.meaning.specs.Seeding.{seed}
use Rattle.meaning.specs.Extension.{extend}
use Rattle.meaning.specs.Combination.{combine}
use Rattle.meaning.specs.Choice.{scheduled_units, packed_list, chosen_list}
use Rattle.text.specs.Text.{words}
use Rattle.answers.specs.Sentences.{refusal}
use Rattle.account_statements.specs.Statements.{head_line, statement_lines}
use Rattle.account_units.specs.Sections.{pair_section, chain_section, pack_section, schedule_section, dissolved_section}
use Rattle.account_list.specs.Instructions.{instruction_lines}
use Rattle.account.specs.Prices.{choice_line, sums_line}

-- "Pairs", and the chains that they make
unfoldable pub pairing_told : List Statement → List ℕ
pairing_told ss = pair_section (extend ss (seed ss)) ++ chain_section (length ss) (extend ss (seed ss))

-- "Combination", and "Schedule"
unfoldable pub packing_told : List Statement → List ℕ
packing_told ss =
    let units = combine ss (extend ss (seed ss)) in
    pack_section units ++ schedule_section (scheduled_units ss) ++ dissolved_section units (scheduled_units ss)

-- "Choice"
abbrev pub choice_told : Block → List ℕ
choice_told b = choice_line (block_price b.statements) (list_price b.statements (packed_list b))

-- the answer: its instructions, and what block and list cost
abbrev pub answer_heading : List ℕ
answer_heading = words "Instructions of the answer, with the price of each:\n"

unfoldable pub answer_told : Block → List ℕ
answer_told b =
    answer_heading
    ++ instruction_lines b.statements (chosen_list b)
    ++ sums_line (block_price b.statements) (list_price b.statements (chosen_list b))

-- all of it
unfoldable pub block_told : Block → List ℕ
block_told b =
    head_line b
    ++ statement_lines b.statements
    ++ (pairing_told b.statements ++ packing_told b.statements ++ choice_told b)
    ++ answer_told b

-- what is told of the block that was read, or why none was
abbrev pub told : Answer Block → List ℕ
told (refused number) = refusal number
told (done b) = block_told b

unfoldable pub explained : List ℕ → List ℕ
explained bytes = told (read_block bytes)
