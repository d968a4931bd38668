-- A block's bytes read into a table and written from it again are the same bytes.
use mathlib.Core.Path.{◌≡◌, refl, sym, ap, subst, ◌∙◌}
use mathlib.Core.Bool.{true, ◌&&◌}
use mathlib.Core.List.{List, [], ◌∷◌, ◌++◌}
use mathlib.Core.Logic.{◌⊎◌, inl, inr}
use Prim.Native.Nat.{ℕ, zero, suc, ◌-◌, ◌≤◌, ◌<◌}
use native.Mathlib.Omega.{arith}
use lib.Dec.{ltb}
use lib.ListN.{length, get_or, drop, replicate, length-append, length-replicate, get_or-append, get_or-eq_default}
use borrow.Author.Tests.{eq-eqb, le-leb, leb-true, ltb-true}
use Rattle.basics.specs.Lists.{all}
use Rattle.basics.proofs.Tests.{and_left, and_right, below_or_not}
use Rattle.basics.proofs.Lists.{replicate_at}
use Rattle.basics.proofs.Parts.{all_at}
use Rattle.meaning.specs.declared.Place.{Place}
use Rattle.meaning.specs.declared.Place.TheVariants.{Variable, Cell}
use Rattle.meaning.specs.declared.Operand.{Operand}
use Rattle.meaning.specs.declared.Operand.TheVariants.{Nothing, Constant, Held}
use Rattle.meaning.specs.declared.Statement.{Statement}
use Rattle.meaning.specs.declared.Block.{Block as Slots}
use Rattle.meaning.specs.Numbers.{Answer, refused, done}
use Rattle.meaning.specs.Block.{Block, blank, declares_place, declares_operand, declares_statement}
use Rattle.meaning.specs.Format.{well_formed, read_block, in_memory}
use Rattle.meaning.specs.Calls.{block_read, read_block_call, write_block_call}
use Rattle.theorems.proofs.Bytes.{is_byte}
use Rattle.theorems.proofs.Readable.{Readable, refused_number, done_readable}
use Rattle.theorems.proofs.BlockRoundTrip.{read_then_write}
use Rattle.table.specs.Table.{table_of}
use Rattle.table.specs.Taken.{block_of}
use Rattle.table.proofs.Rows.{table_length}
use Rattle.table.proofs.Alike.{lengths_small, call_alike}
use Rattle.table.proofs.Back.{PlaceFits, OperandFits, StatementFits, SlotsFit, table_back}
use Rattle.nephinor.specs.Packed.{packed}
use Rattle.nephinor.specs.Exports.{table_read, written_packed, table_written}

-- what stands behind a list that is filled up is what stands behind the list
module _ {A : Type 0} (d : A) where
  filled_at : (k : ℕ) (xs : List A) (i : ℕ) → get_or (xs ++ replicate k d) i d ≡ get_or xs i d
  filled_at k [] i = replicate_at k i d
  filled_at k (x ∷ xs) zero = refl
  filled_at k (x ∷ xs) (suc i) = filled_at k xs i

-- a block within the limits fits its slots
module _ (b : Block) (h : Readable b) where
  length_fits_lem : (i : ℕ) → get_or b.lengths i 0 ≤ 256
  length_fits_lem = lengths_small b.lengths h.lengths

  place_fits_lem : (p : Place) → declares_place b.variables b.lengths p ≡ true → PlaceFits p
  place_fits_lem (Variable v) e = omega (arith, ltb-true v b.variables e, h.variables)
  place_fits_lem (Cell a i) e = (
    omega (arith, ltb-true a (length b.lengths) (and_left _ _ e), h.arrays),
    omega (arith, ltb-true i (get_or b.lengths a 0) (and_right (ltb a (length b.lengths)) _ e), length_fits_lem a),
  )

  operand_fits_lem : (o : Operand) → declares_operand b.variables b.lengths o ≡ true → OperandFits o
  operand_fits_lem Nothing e = tt
  operand_fits_lem (Constant c) e = tt
  operand_fits_lem (Held p) e = place_fits_lem p e

  statement_fits_lem : (s : Statement) → well_formed s ≡ true → declares_statement b.variables b.lengths s ≡ true → StatementFits s
  statement_fits_lem s formed declares =
      record {
        operation = omega (arith, leb-true s.operation 7 (and_left _ _ (and_left _ _ formed)));
        destination = place_fits_lem s.destination (and_left _ _ (and_left _ _ declares));
        left = operand_fits_lem s.left (and_right (declares_place b.variables b.lengths s.destination) _ (and_left _ _ declares));
        right =
            operand_fits_lem s.right
            (and_right (declares_place b.variables b.lengths s.destination && declares_operand b.variables b.lengths s.left) _ declares);
      }

  blank_fits : StatementFits blank
  blank_fits = record { operation = omega arith; destination = omega arith; left = tt; right = tt }

  slot_fits : (i : ℕ) → StatementFits (get_or b.statements i blank)
  slot_fits i = either (below_or_not i (length b.statements))
    where
      either : (i < length b.statements) ⊎ (length b.statements ≤ i) → StatementFits (get_or b.statements i blank)
      either (inl low) =
          statement_fits_lem (get_or b.statements i blank) (all_at well_formed b.statements i blank h.formed low)
          (all_at (declares_statement b.variables b.lengths) b.statements i blank h.declares low)
      either (inr past) = subst StatementFits (sym (get_or-eq_default b.statements blank past)) blank_fits

  slots_fit : SlotsFit (in_memory b)
  slots_fit =
      record {
        variables = omega (arith, h.variables);
        live = omega (arith, h.variables, h.live);
        arrays = omega (arith, h.arrays);
        count = omega (arith, h.count);
        eight = omega (arith, length-append b.lengths (replicate (8 - length b.lengths) 0), length-replicate {A = ℕ} (8 - length b.lengths) 0, h.arrays);
        lengths = λ i low. omega (arith, filled_at 0 (8 - length b.lengths) b.lengths i, length_fits_lem i);
        many =
            omega (
              arith,
              length-append b.statements (replicate (64 - length b.statements) blank),
              length-replicate {A = Statement} (64 - length b.statements) blank,
              h.count,
            );
        statements = λ i low. subst StatementFits (sym (filled_at blank (64 - length b.statements) b.statements i)) (slot_fits i);
      }

-- and so does a block that was read
read_fits : (bytes : List ℕ) → (read_block_call bytes).status ≡ 0 → SlotsFit (read_block_call bytes).block
unfolding read_block_call
read_fits bytes status = by (read_block bytes) refl status
  where
    by : (answer : Answer Block) → read_block bytes ≡ answer → (block_read answer).status ≡ 0 → SlotsFit (block_read answer).block
    by (refused n) e zero-status = absurd (omega (arith, refused_number bytes n e))
    by (done b) e zero-status = slots_fit b (done_readable bytes b e)

-- Over the exports: the numbers that reading a block leaves, written into room enough, are the block's bytes, and the room behind them
-- keeps its contents.
pub table_round_trip : (bytes table room : List ℕ) → all is_byte bytes ≡ true → (read_block_call bytes).status ≡ 0 → 652 ≤ length table
    → length bytes ≤ length room
    → table_written (table_read table (read_block_call bytes)).table room
    ≡ record { number = packed 0 (length bytes) 0 0; room = bytes ++ drop (length bytes) room }
table_round_trip bytes table room are status long enough =
    let b = (read_block_call bytes).block in
    let fits = read_fits bytes status in
    let after = table_of b ++ drop (length (table_of b)) table in
    let whole : length (table_of b) ≡ 652 = table_length b fits.eight fits.many in
    let large : 652 ≤ length after = omega (arith, length-append (table_of b) (drop (length (table_of b)) table)) in
    let back : block_of after ≡ b = table_back b fits after λ i low. get_or-append (table_of b) (drop (length (table_of b)) table) 0 i (omega arith) in
    rw (eq-eqb (read_block_call bytes).status 0 status, le-leb 652 (length table) long, le-leb 652 (length after) large)
    (ap written_packed (sym (call_alike after room) ∙ ap (λ (slots : Slots). write_block_call slots room) back ∙ read_then_write bytes room are status enough))
