-- What a made list is to its block, in one place: it is not refused, it leaves what the block leaves, it costs what was reported and no more
-- than the block, and its footprint is within the block's. The facts about the schedule come in as premises.
use mathlib.Core.Path.{◌≡◌, ap, ◌∙◌}
use mathlib.Core.Bool.{Bool, true}
use mathlib.Core.Option.{Option}
use mathlib.Core.List.{List, []}
use Prim.Native.Nat.{ℕ}
use Rattle.basics.specs.Lists.{all, each}
use Rattle.meaning.specs.Numbers.{Answer, done, demand, and_then}
use Rattle.meaning.specs.Block.{Block, block_price}
use Rattle.meaning.specs.Format.{read_block}
use Rattle.meaning.specs.Machine.{Contents, right_size, run_block}
use Rattle.meaning.specs.List.{Instruction, list_price, list_bytes, read_list, allowed}
use Rattle.meaning.specs.Card.{run_list}
use Rattle.meaning.specs.Choice.{scheduled_units, chosen_list}
use Rattle.meaning.specs.Calls.{ran, list_of, run_block_call, run_list_call}
use Rattle.theorems.specs.Memory.{Memory, ran as ran_over, at_one_stroke}
use Rattle.theorems.specs.Units.{Units}
use Rattle.theorems.proofs.Bytes.{is_byte}
use Rattle.theorems.proofs.Readable.{done_readable, done_fits}
use Rattle.theorems.proofs.Prices.{Priced}
use Rattle.theorems.proofs.Lawful.{Lawful, lawful_back}
use Rattle.theorems.proofs.Chosen.{chosen_priced, chosen_lawful}
use Rattle.theorems.proofs.Outcome.{SameOutcome, chosen_outcome}
use Rattle.theorems.proofs.Footprint.{Inside, chosen_inside}

-- what follows once a block reads, once its contents fit, and once a list reads
abbrev listed : Contents → Block → List Instruction → Answer (ℕ × Contents)
listed m b list = demand (allowed b [] list) 9 (done (list_price b.statements list, run_list b list m))

abbrev beside : List ℕ → Contents → Block → Answer (ℕ × Contents)
beside bytes m b = and_then (list_of (read_list bytes)) (listed m b)

-- Running a list that is within the rules, beside a block that reads, on contents of the right size, is not refused: it pays the list's price.
pub list_called : (bytes : List ℕ) (b : Block) (m : Contents) (list : List Instruction) → read_block bytes ≡ done b → right_size b m ≡ true → Lawful b list
    → run_list_call bytes (list_bytes list) m ≡ record { status = 0; price = list_price b.statements list; contents = run_list b list m }
unfolding run_list_call
list_called bytes b m list e right lawful =
    ap (λ (answer : Answer Block). ran m (and_then (and_then answer (λ x. demand (right_size x m) 6 (done x))) (beside (list_bytes list) m))) e
    ∙ ap (λ (test : Bool). ran m (and_then (demand test 6 (done b)) (beside (list_bytes list) m))) right
    ∙ ap (λ (found : Option (List Instruction)). ran m (and_then (list_of found) (listed m b))) (lawful_back b list lawful)
    ∙ ap (λ (test : Bool). ran m (demand test 9 (done (list_price b.statements list, run_list b list m)))) lawful.permitted

-- Nor is running the block, which pays the block's price.
pub block_called : (bytes : List ℕ) (b : Block) (m : Contents) → read_block bytes ≡ done b → right_size b m ≡ true
    → run_block_call bytes m ≡ record { status = 0; price = block_price b.statements; contents = run_block b m }
unfolding run_block_call
block_called bytes b m e right =
    ap
    (λ (answer : Answer Block). ran m
    (and_then (and_then answer (λ x. demand (right_size x m) 6 (done x))) (λ x. done (block_price x.statements, run_block x m))))
    e
    ∙ ap (λ (test : Bool). ran m (and_then (demand test 6 (done b)) (λ x. done (block_price x.statements, run_block x m)))) right

-- a list beside the bytes of its block, and contents of the right size
pub record Faithful (bytes : List ℕ) (b : Block) (m : Contents) (list : List Instruction) : Type 0 where
  pub lawful : Lawful b list
  pub not_refused : run_list_call bytes (list_bytes list) m ≡ record { status = 0; price = list_price b.statements list; contents = run_list b list m }
  pub outcome : SameOutcome b (run_list b list m) (run_block b m)
  pub priced : Priced b list
  pub inside : Inside b list

-- The list that is chosen for a block that reads is faithful to it, on all contents of the right size.
pub chosen_faithful : (bytes : List ℕ) (b : Block) (m : Contents) → all is_byte bytes ≡ true → read_block bytes ≡ done b → right_size b m ≡ true
    → Units b.statements (scheduled_units b.statements)
    → ((start : Memory) → each (at_one_stroke b.statements) (scheduled_units b.statements) start ≡ each ran_over b.statements start)
    → Faithful bytes b m (chosen_list b)
chosen_faithful bytes b m are e right u runs =
    let readable = done_readable bytes b e in
    let constants = done_fits bytes b are e in
    let lawful = chosen_lawful b readable constants u in
    record {
      lawful = lawful;
      not_refused = list_called bytes b m (chosen_list b) e right lawful;
      outcome = chosen_outcome b readable constants u runs m right;
      priced = chosen_priced b u;
      inside = chosen_inside b u;
    }
