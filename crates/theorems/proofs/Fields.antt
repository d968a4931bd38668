-- Every field of an instruction that is allowed fits its byte.
use mathlib.Core.Path.{◌≡◌, refl}
use mathlib.Core.Bool.{true, ◌&&◌, not}
use mathlib.Core.Option.{Option, none, some}
use mathlib.Core.List.{List, [], ◌∷◌, ◌++◌, map}
use Prim.Native.Nat.{ℕ, ◌+◌, ◌≤◌, ◌<◌}
use native.Mathlib.Omega.{arith}
use lib.Dec.{eqb, ltb, leb}
use lib.ListN.{length, get_or, length-append}
use borrow.Author.Tests.{ltb-true, leb-true, le-leb, eqb-true}
use Rattle.basics.specs.Lists.{all, flat}
use Rattle.basics.proofs.Tests.{and_left, and_right, and_both}
use Rattle.basics.proofs.Parts.{all_at, all_append}
use Rattle.meaning.specs.declared.Place.TheVariants.{Variable, Cell}
use Rattle.meaning.specs.declared.Operand.{Operand}
use Rattle.meaning.specs.declared.Operand.TheVariants.{Nothing, Constant, Held}
use Rattle.meaning.specs.Block.{Block, declares_operand}
use Rattle.meaning.specs.List.{Instruction, S, L, C, G, O, W, D, X, one_or_none, lanes_fit, is_next, is_written, has_lane, one_written, declares_row, is_allowed, written_after, allowed}
use Rattle.meaning.proofs.Bounds.{lanes_two}
use Rattle.theorems.proofs.Bytes.{is_byte, byte}
use Rattle.theorems.proofs.Readable.{Readable, readable_length}
use Rattle.theorems.proofs.Instructions.{operation_fits, instruction_fits}
use Rattle.theorems.proofs.AreBytes.{place_fields, fields_fit}

lanes_byte : (k : ℕ) → lanes_fit k ≡ true → k < 256
lanes_byte k e = omega (arith, (lanes_two k e).1)

operation_byte : (operation : ℕ) (rb : Option ℕ) → operation_fits operation rb ≡ true → operation < 256
operation_byte operation none e = omega (arith, eqb-true operation 0 e)
operation_byte operation (some r) e = omega (arith, leb-true operation 7 (and_right (not (eqb operation 0)) _ e))

-- the lanes written so far: at most 96 registers, of at most 4 lanes
record Few (lanes : List ℕ) : Type 0 where
  registers : length lanes ≤ 96
  each_few : all (λ k. leb k 4) lanes ≡ true

few_more : (lanes : List ℕ) (r k : ℕ) → Few lanes → is_next lanes r ≡ true → k ≤ 4 → Few (lanes ++ k ∷ [])
few_more lanes r k f is_next_lem small =
    record {
      registers =
          omega (
            arith,
            length-append lanes (k ∷ []),
            eqb-true r (length lanes) (and_left (eqb r (length lanes)) _ is_next_lem),
            ltb-true r 96 (and_right (eqb r (length lanes)) _ is_next_lem),
          );
      each_few = all_append (λ x. leb x 4) lanes (k ∷ []) f.each_few (and_both (leb k 4) true (le-leb k 4 small) refl);
    }

next_byte : (lanes : List ℕ) (r : ℕ) → is_next lanes r ≡ true → r < 256
next_byte lanes r e = omega (arith, ltb-true r 96 (and_right (eqb r (length lanes)) _ e))

module _ (lanes : List ℕ) (f : Few lanes) where
  written_byte : (r k : ℕ) → is_written lanes r k ≡ true → r < 256
  written_byte r k e = omega (arith, f.registers, ltb-true r (length lanes) (and_left (ltb r (length lanes)) _ e))

  lane_bytes : (r lane : ℕ) → has_lane lanes r lane ≡ true → (r < 256) × (lane < 256)
  lane_bytes r lane e =
      let below = ltb-true r (length lanes) (and_left (ltb r (length lanes)) _ e) in
      let small = leb-true (get_or lanes r 0) 4 (all_at (λ k. leb k 4) lanes r 0 f.each_few below) in
      (omega (arith, f.registers, below), omega (arith, small, ltb-true lane (get_or lanes r 0) (and_right (ltb r (length lanes)) _ e)))

module _ (b : Block) (readable : Readable b) where
  place_bytes_lem : (o : Operand) → declares_operand b.variables b.lengths o ≡ true → all is_byte (place_fields o) ≡ true
  place_bytes_lem Nothing e = refl
  place_bytes_lem (Constant c) e = refl
  place_bytes_lem (Held (Variable v)) e = and_both (is_byte v) true (byte v (omega (arith, ltb-true v b.variables e, readable.variables))) refl
  place_bytes_lem (Held (Cell a i)) e =
      let array = ltb-true a (length b.lengths) (and_left (ltb a (length b.lengths)) _ e) in
      let index = ltb-true i (get_or b.lengths a 0) (and_right (ltb a (length b.lengths)) _ e) in
      and_both (is_byte a) _ (byte a (omega (arith, array, readable.arrays)))
      (and_both (is_byte i) true (byte i (omega (arith, index, (readable_length b readable a array).1))) refl)

  row_bytes : (k a i : ℕ) → 2 ≤ k → declares_row b k a i ≡ true → all is_byte (a ∷ i ∷ []) ≡ true
  row_bytes k a i two e =
      let array = ltb-true a (length b.lengths) (and_left (ltb a (length b.lengths)) _ e) in
      let index = leb-true (i + k) (get_or b.lengths a 0) (and_right (ltb a (length b.lengths)) _ e) in
      and_both (is_byte a) _ (byte a (omega (arith, array, readable.arrays)))
      (and_both (is_byte i) true (byte i (omega (arith, index, (readable_length b readable a array).1))) refl)

  operands_bytes : (os : List Operand) → all (declares_operand b.variables b.lengths) os ≡ true → all is_byte (flat (map place_fields os)) ≡ true
  operands_bytes [] e = refl
  operands_bytes (o ∷ os) e =
      all_append is_byte (place_fields o) (flat (map place_fields os)) (place_bytes_lem o (and_left (declares_operand b.variables b.lengths o) _ e))
      (operands_bytes os (and_right (declares_operand b.variables b.lengths o) _ e))

  second_bytes : (lanes : List ℕ) → Few lanes → (k : ℕ) (rb : Option ℕ) → one_written lanes k rb ≡ true → all is_byte (one_or_none rb) ≡ true
  second_bytes lanes f k none e = refl
  second_bytes lanes f k (some r) e = and_both (is_byte r) true (byte r (written_byte lanes f r k e)) refl

  instruction_fields : (lanes : List ℕ) → Few lanes → (x : Instruction) → is_allowed b lanes x ≡ true → instruction_fits x ≡ true → fields_fit x ≡ true
  instruction_fields lanes f (S s) e fits = and_both (is_byte s) true (byte s (omega (arith, ltb-true s (length b.statements) e, readable.count))) refl
  instruction_fields lanes f (L r k a i) e fits =
      and_both (is_byte r) _ (byte r (next_byte lanes r (and_left (is_next lanes r) _ e)))
      (and_both (is_byte k) _ (byte k (lanes_byte k fits)) (row_bytes k a i (lanes_two k fits).0 (and_right (is_next lanes r) _ e)))
  instruction_fields lanes f (C r cs) e fits =
      and_both (is_byte r) _ (byte r (next_byte lanes r e))
      (and_both (is_byte (length cs)) true (byte (length cs) (lanes_byte (length cs) (and_left (lanes_fit (length cs)) _ fits))) refl)
  instruction_fields lanes f (G r os) e fits =
      and_both (is_byte r) _ (byte r (next_byte lanes r (and_left (is_next lanes r) _ e)))
      (and_both (is_byte (length os)) _
      (byte (length os) (lanes_byte (length os) (and_left (lanes_fit (length os)) _ (and_left _ _ fits))))
      (operands_bytes os (and_right (is_next lanes r) _ e)))
  instruction_fields lanes f (O r operation k ra rb) e fits =
      let front : is_next lanes r && is_written lanes ra k ≡ true = and_left (is_next lanes r && is_written lanes ra k) _ e in
      and_both (is_byte r) _ (byte r (next_byte lanes r (and_left (is_next lanes r) _ front)))
      (and_both (is_byte operation) _ (byte operation (operation_byte operation rb (and_right (lanes_fit k) _ fits)))
      (and_both (is_byte k) _ (byte k (lanes_byte k (and_left (lanes_fit k) _ fits)))
      (and_both (is_byte ra) _ (byte ra (written_byte lanes f ra k (and_right (is_next lanes r) _ front)))
      (second_bytes lanes f k rb (and_right (is_next lanes r && is_written lanes ra k) _ e)))))
  instruction_fields lanes f (W r k a i) e fits =
      and_both (is_byte r) _ (byte r (written_byte lanes f r k (and_left (is_written lanes r k) _ e)))
      (and_both (is_byte k) _ (byte k (lanes_byte k fits)) (row_bytes k a i (lanes_two k fits).0 (and_right (is_written lanes r k) _ e)))
  instruction_fields lanes f (D r lane a i) e fits =
      let both = lane_bytes lanes f r lane (and_left (has_lane lanes r lane) _ e) in
      and_both (is_byte r) _ (byte r both.0) (and_both (is_byte lane) _ (byte lane both.1) (place_bytes_lem (Held (Cell a i)) (and_right (has_lane lanes r lane) _ e)))
  instruction_fields lanes f (X r lane v) e fits =
      let both = lane_bytes lanes f r lane (and_left (has_lane lanes r lane) _ e) in
      and_both (is_byte r) _ (byte r both.0) (and_both (is_byte lane) _ (byte lane both.1) (place_bytes_lem (Held (Variable v)) (and_right (has_lane lanes r lane) _ e)))

  few_after : (lanes : List ℕ) → Few lanes → (x : Instruction) → is_allowed b lanes x ≡ true → instruction_fits x ≡ true → Few (written_after lanes x)
  few_after lanes f (S s) e fits = f
  few_after lanes f (L r k a i) e fits = few_more lanes r k f (and_left (is_next lanes r) _ e) (lanes_two k fits).1
  few_after lanes f (C r cs) e fits = few_more lanes r (length cs) f e (lanes_two (length cs) (and_left (lanes_fit (length cs)) _ fits)).1
  few_after lanes f (G r os) e fits =
      few_more lanes r (length os) f (and_left (is_next lanes r) _ e) (lanes_two (length os) (and_left (lanes_fit (length os)) _ (and_left _ _ fits))).1
  few_after lanes f (O r operation k ra rb) e fits =
      few_more lanes r k f (and_left (is_next lanes r) _ (and_left (is_next lanes r && is_written lanes ra k) _ e)) (lanes_two k (and_left (lanes_fit k) _ fits)).1
  few_after lanes f (W r k a i) e fits = f
  few_after lanes f (D r lane a i) e fits = f
  few_after lanes f (X r lane v) e fits = f

  fields_from : (lanes : List ℕ) → Few lanes → (list : List Instruction) → allowed b lanes list ≡ true → all instruction_fits list ≡ true → all fields_fit list ≡ true
  unfolding allowed
  fields_from lanes f [] e fits = refl
  fields_from lanes f (x ∷ list) e fits =
      let this = and_left (is_allowed b lanes x) _ e in
      let this-fits = and_left (instruction_fits x) _ fits in
      and_both (fields_fit x) _ (instruction_fields lanes f x this this-fits)
      (fields_from (written_after lanes x) (few_after lanes f x this this-fits) list (and_right (is_allowed b lanes x) _ e) (and_right (instruction_fits x) _ fits))

  -- The fields of a list that is allowed fit their bytes.
  pub fields_fit_lem : (list : List Instruction) → allowed b [] list ≡ true → all instruction_fits list ≡ true → all fields_fit list ≡ true
  fields_fit_lem list e fits = fields_from [] (record { registers = omega arith; each_few = refl }) list e fits
