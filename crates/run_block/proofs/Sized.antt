-- What is left of the call by the sizes of what is lent: 6, or the run.
use mathlib.Core.Path.{◌≡◌}
use mathlib.Core.List.{List}
use Prim.Native.Nat.{ℕ}
use native.Mathlib.Nat.{add-zero, le_refl}
use lib.ListN.{length, take}
use lib.Seq.{take-take}
use borrow.Author.Tests.{eq-eqb, ne_eqb}
use Rattle.basics.specs.Lists.{each, sum}
use Rattle.meaning.specs.Block.{Block, block_price}
use Rattle.meaning.specs.Machine.{Contents, cell_at, run_statement, run_block}
use Rattle.run_block.specs.Answers.{after_reading}

-- the cells of all declared arrays
pub all_cells : (lengths slots : List ℕ) (n : ℕ) → lengths ≡ take n slots → cell_at lengths n 0 ≡ sum (take n slots)
all_cells lengths slots n e = rw (e, take-take n n slots (le_refl n), add-zero)

module _ (b : Block) (m : Contents) where
  pub wrong_variables : (length m.variables ≡ b.variables → ⊥) → record { status = 6; price = 0; contents = m } ≡ after_reading b m
  unfolding after_reading
  wrong_variables h = rw (ne_eqb (length m.variables) b.variables h)

  pub wrong_cells : length m.variables ≡ b.variables → (length m.cells ≡ sum b.lengths → ⊥)
      → record { status = 6; price = 0; contents = m } ≡ after_reading b m
  unfolding after_reading
  wrong_cells e h = rw (eq-eqb (length m.variables) b.variables e, ne_eqb (length m.cells) (sum b.lengths) h)

  pub right_sizes :
      (lengths : List ℕ) (price : ℕ) (after : Contents) → lengths ≡ b.lengths
      → length m.variables ≡ b.variables → length m.cells ≡ sum b.lengths
      → price ≡ block_price b.statements → after ≡ each (run_statement lengths) b.statements m
      → record { status = 0; price = price; contents = after } ≡ after_reading b m
  unfolding after_reading run_block
  right_sizes lengths price after l e f p a =
      rw (eq-eqb (length m.variables) b.variables e, eq-eqb (length m.cells) (sum b.lengths) f, p, a, l)
