-- The outcome over lent contents: running the list that is chosen ends with every cell and every live-out variable as running the block
-- leaves them, where the scheduled units, each at one stroke, run as the block does.
use mathlib.Core.Path.{◌≡◌, refl, sym, ap, ◌∙◌}
use mathlib.Core.Bool.{true}
use mathlib.Core.List.{List}
use Prim.Native.Nat.{ℕ, ◌<◌}
use native.Mathlib.Omega.{arith}
use lib.Dec.{ltb}
use lib.ListN.{length, get_or}
use borrow.Author.Tests.{lt-ltb}
use Rattle.basics.specs.Lists.{all, each}
use Rattle.basics.proofs.Parts.{pick_holds}
use Rattle.meaning.specs.declared.Place.{Place}
use Rattle.meaning.specs.declared.Place.TheVariants.{Variable, Cell}
use Rattle.meaning.specs.Block.{Block, block_price}
use Rattle.meaning.specs.Machine.{Contents, right_size, run_block}
use Rattle.meaning.specs.List.{Instruction, list_price}
use Rattle.meaning.specs.Card.{run_list}
use Rattle.meaning.specs.Choice.{scheduled_units, packed_list, plain_list, chosen_list}
use Rattle.theorems.specs.Memory.{Memory, ran, at_one_stroke, view}
use Rattle.theorems.specs.Units.{Units}
use Rattle.theorems.specs.Machine.{machine_after}
use Rattle.theorems.proofs.Records.{constants_fit}
use Rattle.theorems.proofs.Readable.{Readable}
use Rattle.theorems.proofs.View.{variables_sized, variable_seen, cells_faithful, view_block, size_block}
use Rattle.theorems.proofs.Lawful.{Lawful, plain_lawful}
use Rattle.theorems.proofs.Chosen.{packed_lawful}
use Rattle.theorems.proofs.Simulation.{looks_at, emission_runs}
use Rattle.theorems.proofs.Mirror.{view_list, size_list, plain_runs}

-- every cell and every live-out variable are the same, and there are as many variables
pub record SameOutcome (b : Block) (one other : Contents) : Type 0 where
  pub cells : one.cells ≡ other.cells
  pub live : (v : ℕ) → v < b.live → get_or one.variables v 0 ≡ get_or other.variables v 0
  pub as_many : length one.variables ≡ length other.variables

-- a list that leaves memory as the statements leave it, where one looks
module _ (b : Block) (readable : Readable b) (lent : Contents) (right : right_size b lent ≡ true) where
  outcome_by_memory : (list : List Instruction) → Lawful b list
      → ((p : Place) → looks_at b.live p ≡ true → (machine_after b.statements list (view b lent)).memory p ≡ each ran b.statements (view b lent) p)
      → SameOutcome b (run_list b list lent) (run_block b lent)
  outcome_by_memory list lawful runs =
      record {
        cells = cells_faithful b (run_list b list lent) (run_block b lent) (size_list b readable list lent lawful.permitted right) (size_block b lent right) (λ a i. at (Cell a i) refl);
        live = λ v below.
            let declared : v < b.variables = omega (arith, readable.live) in
            sym (variable_seen b (run_list b list lent) v declared) ∙ at (Variable v) (lt-ltb v b.live below) ∙ variable_seen b (run_block b lent) v declared;
        as_many =
            variables_sized b (run_list b list lent) (size_list b readable list lent lawful.permitted right)
            ∙ sym (variables_sized b (run_block b lent) (size_block b lent right));
      }
    where
      at : (p : Place) → looks_at b.live p ≡ true → view b (run_list b list lent) p ≡ view b (run_block b lent) p
      at p looked =
          ap (λ (m : Memory). m p) (view_list b readable list lent lawful.permitted right) ∙ runs p looked ∙ sym (ap (λ (m : Memory). m p) (view_block b lent readable right))

-- S for every statement in block order
pub plain_outcome : (b : Block) → Readable b → (lent : Contents) → right_size b lent ≡ true → SameOutcome b (run_list b (plain_list b) lent) (run_block b lent)
plain_outcome b readable lent right =
    outcome_by_memory b readable lent right (plain_list b) (plain_lawful b readable) (λ p looked. ap (λ (m : Memory). m p) (plain_runs b (view b lent)))

-- The list that is chosen leaves every cell and every live-out variable as the block does.
module _ (b : Block) (readable : Readable b) (constants : all constants_fit b.statements ≡ true) (u : Units b.statements (scheduled_units b.statements))
    (runs : (m : Memory) → each (at_one_stroke b.statements) (scheduled_units b.statements) m ≡ each ran b.statements m)
    (lent : Contents) (right : right_size b lent ≡ true) where
  packed_runs : (p : Place) → looks_at b.live p ≡ true
      → (machine_after b.statements (packed_list b) (view b lent)).memory p ≡ each ran b.statements (view b lent) p
  unfolding packed_list
  packed_runs p looked =
      emission_runs b.statements b.live (scheduled_units b.statements) u (view b lent) p looked ∙ ap (λ (m : Memory). m p) (runs (view b lent))

  pub packed_outcome : SameOutcome b (run_list b (packed_list b) lent) (run_block b lent)
  packed_outcome = outcome_by_memory b readable lent right (packed_list b) (packed_lawful b readable constants u) packed_runs

  pub chosen_outcome : SameOutcome b (run_list b (chosen_list b) lent) (run_block b lent)
  unfolding chosen_list
  chosen_outcome =
      pick_holds (λ (list : List Instruction). SameOutcome b (run_list b list lent) (run_block b lent))
      (ltb (list_price b.statements (packed_list b)) (block_price b.statements)) (packed_list b) (plain_list b)
      (λ below. packed_outcome) (λ above. plain_outcome b readable lent right)
