-- What is written are bytes: every number that stands in the bytes of a block within the limits, and of a list whose fields are bytes, is
-- below 256.
use mathlib.Core.Path.{◌≡◌, refl}
use mathlib.Core.Bool.{Bool, true, ◌&&◌}
use mathlib.Core.List.{List, [], ◌∷◌, ◌++◌, map}
use Prim.Native.Nat.{ℕ, ◌+◌}
use native.Mathlib.Omega.{arith}
use lib.Dec.{ltb, leb}
use lib.ListN.{length, get_or}
use borrow.Author.Tests.{ltb-true, leb-true}
use Rattle.basics.specs.Lists.{all, flat}
use Rattle.basics.proofs.Tests.{and_left, and_right, and_both}
use Rattle.basics.proofs.Parts.{all_first, all_others, all_append, all_ahead, all_behind, all_flat}
use Rattle.meaning.specs.declared.Place.{Place}
use Rattle.meaning.specs.declared.Place.TheVariants.{Variable, Cell}
use Rattle.meaning.specs.declared.Operand.{Operand}
use Rattle.meaning.specs.declared.Operand.TheVariants.{Nothing, Constant, Held}
use Rattle.meaning.specs.declared.Statement.{Statement}
use Rattle.meaning.specs.Block.{Block, declares_place, declares_operand, declares_statement}
use Rattle.meaning.specs.Format.{bytes_of, length_fits, place_bytes, operand_bytes, well_formed, is_operand, statement_width, record_bytes, body_bytes, block_bytes}
use Rattle.meaning.specs.List.{Instruction, S, L, C, G, O, W, D, X, instruction_bytes, led_by_length, one_or_none, records_bytes, list_bytes}
use Rattle.meaning.proofs.Bounds.{statement_width_lem}
use Rattle.theorems.proofs.Bytes.{is_byte, byte, bytes_are_bytes}
use Rattle.theorems.proofs.Readable.{Readable, readable_length}
use Rattle.theorems.proofs.Instructions.{instruction_fits, instruction_length}
use Rattle.theorems.proofs.ListRoundTrip.{ListFits}

-- the places, operands and statements that a block within the limits declares
module _ (b : Block) (h : Readable b) where
  place_bytes_lem : (p : Place) → declares_place b.variables b.lengths p ≡ true → all is_byte (place_bytes p) ≡ true
  place_bytes_lem (Variable v) names = and_both _ _ (byte v (omega (arith, ltb-true v b.variables names, h.variables))) refl
  place_bytes_lem (Cell a i) names =
      let below = ltb-true a (length b.lengths) (and_left (ltb a (length b.lengths)) _ names) in
      let inside = ltb-true i (get_or b.lengths a 0) (and_right (ltb a (length b.lengths)) _ names) in
      and_both _ _ (byte a (omega (arith, below, h.arrays))) (and_both _ _ (byte i (omega (arith, inside, readable_length b h a below))) refl)

  operand_bytes_lem : (o : Operand) → declares_operand b.variables b.lengths o ≡ true → all is_byte (operand_bytes o) ≡ true
  operand_bytes_lem Nothing names = refl
  operand_bytes_lem (Constant c) names = bytes_are_bytes 4 c
  operand_bytes_lem (Held p) names = place_bytes_lem p names

  record_bytes_lem : (s : Statement) → well_formed s ≡ true → declares_statement b.variables b.lengths s ≡ true → all is_byte (record_bytes s) ≡ true
  record_bytes_lem s formed names =
      let front = declares_place b.variables b.lengths s.destination && declares_operand b.variables b.lengths s.left in
      let names-front : front ≡ true = and_left front _ names in
      let known = leb-true s.operation 7 (and_left (leb s.operation 7) _ (and_left (leb s.operation 7 && is_operand s.left) _ formed)) in
      and_both _ _ (byte (statement_width s) (omega (arith, statement_width_lem s)))
      (and_both _ _ (byte s.operation (omega (arith, known)))
      (all_append is_byte (place_bytes s.destination ++ operand_bytes s.left) (operand_bytes s.right)
      (all_append is_byte (place_bytes s.destination) (operand_bytes s.left)
      (place_bytes_lem s.destination (and_left _ _ names-front))
      (operand_bytes_lem s.left (and_right (declares_place b.variables b.lengths s.destination) _ names-front)))
      (operand_bytes_lem s.right (and_right front _ names))))

  records_bytes_lem : (ss : List Statement) → all well_formed ss ≡ true → all (declares_statement b.variables b.lengths) ss ≡ true
      → all is_byte (flat (map record_bytes ss)) ≡ true
  records_bytes_lem [] formed names = refl
  records_bytes_lem (s ∷ ss) formed names =
      let declares = declares_statement b.variables b.lengths in
      all_append is_byte (record_bytes s) (flat (map record_bytes ss))
      (record_bytes_lem s (all_first well_formed s ss formed) (all_first declares s ss names))
      (records_bytes_lem ss (all_others well_formed s ss formed) (all_others declares s ss names))

  body_bytes_lem : all is_byte (body_bytes b) ≡ true
  body_bytes_lem =
      and_both _ _ (byte b.variables (omega (arith, h.variables)))
      (and_both _ _ (byte b.live (omega (arith, h.variables, h.live)))
      (and_both _ _ (byte (length b.lengths) (omega (arith, h.arrays)))
      (and_both _ _ (byte (length b.statements) (omega (arith, h.count)))
      (all_append is_byte (flat (map (bytes_of 2) b.lengths)) (flat (map record_bytes b.statements))
      (all_flat length_fits is_byte (bytes_of 2) (λ l fits. bytes_are_bytes 2 l) b.lengths h.lengths)
      (records_bytes_lem b.statements h.formed h.declares)))))

-- The bytes of a block within the limits are bytes.
pub block_bytes_lem : (b : Block) → Readable b → all is_byte (block_bytes b) ≡ true
unfolding block_bytes
block_bytes_lem b h = all_append is_byte (1 ∷ bytes_of 2 (3 + length (body_bytes b))) (body_bytes b) (bytes_are_bytes 2 (3 + length (body_bytes b))) (body_bytes_lem b h)

-- "other fields take one byte": the numbers of an instruction that are written as they are
abbrev pub place_fields : Operand → List ℕ
place_fields Nothing = []
place_fields (Constant c) = []
place_fields (Held (Variable v)) = v ∷ []
place_fields (Held (Cell a i)) = a ∷ i ∷ []

abbrev pub fields : Instruction → List ℕ
fields (S s) = s ∷ []
fields (L r k a i) = r ∷ k ∷ a ∷ i ∷ []
fields (C r cs) = r ∷ length cs ∷ []
fields (G r os) = r ∷ length os ∷ flat (map place_fields os)
fields (O r operation k ra rb) = r ∷ operation ∷ k ∷ ra ∷ one_or_none rb
fields (W r k a i) = r ∷ k ∷ a ∷ i ∷ []
fields (D r lane a i) = r ∷ lane ∷ a ∷ i ∷ []
fields (X r lane v) = r ∷ lane ∷ v ∷ []

abbrev pub fields_fit : Instruction → Bool
fields_fit i = all is_byte (fields i)

field_bytes : (o : Operand) → all is_byte (place_fields o) ≡ true → all is_byte (operand_bytes o) ≡ true
field_bytes Nothing fit = refl
field_bytes (Constant c) fit = bytes_are_bytes 4 c
field_bytes (Held (Variable v)) fit = fit
field_bytes (Held (Cell a i)) fit = fit

gathered_bytes : (os : List Operand) → all is_byte (flat (map place_fields os)) ≡ true → all is_byte (flat (map operand_bytes os)) ≡ true
gathered_bytes [] fit = refl
gathered_bytes (o ∷ os) fit =
    all_append is_byte (operand_bytes o) (flat (map operand_bytes os)) (field_bytes o (all_ahead is_byte (place_fields o) (flat (map place_fields os)) fit))
    (gathered_bytes os (all_behind is_byte (place_fields o) (flat (map place_fields os)) fit))

constants_bytes : (cs : List ℕ) → all is_byte (flat (map (bytes_of 4) cs)) ≡ true
constants_bytes [] = refl
constants_bytes (c ∷ cs) = all_append is_byte (bytes_of 4 c) (flat (map (bytes_of 4) cs)) (bytes_are_bytes 4 c) (constants_bytes cs)

instruction_bytes_lem : (i : Instruction) → fields_fit i ≡ true → all is_byte (instruction_bytes i) ≡ true
instruction_bytes_lem (S s) fit = fit
instruction_bytes_lem (L r k a i) fit = fit
instruction_bytes_lem (C r cs) fit = all_append is_byte (r ∷ length cs ∷ []) (flat (map (bytes_of 4) cs)) fit (constants_bytes cs)
instruction_bytes_lem (G r os) fit =
    all_append is_byte (r ∷ length os ∷ []) (flat (map operand_bytes os)) (all_ahead is_byte (r ∷ length os ∷ []) (flat (map place_fields os)) fit)
    (gathered_bytes os (all_behind is_byte (r ∷ length os ∷ []) (flat (map place_fields os)) fit))
instruction_bytes_lem (O r operation k ra rb) fit = fit
instruction_bytes_lem (W r k a i) fit = fit
instruction_bytes_lem (D r lane a i) fit = fit
instruction_bytes_lem (X r lane v) fit = fit

led_bytes : (list : List Instruction) → all instruction_fits list ≡ true → all fields_fit list ≡ true → all is_byte (records_bytes list) ≡ true
led_bytes [] fit fields_fit_lem = refl
led_bytes (i ∷ list) fit fields_fit_lem =
    all_append is_byte (led_by_length (instruction_bytes i)) (records_bytes list)
    (and_both _ _ (byte (length (instruction_bytes i)) (omega (arith, instruction_length i (all_first instruction_fits i list fit))))
    (instruction_bytes_lem i (all_first fields_fit i list fields_fit_lem)))
    (led_bytes list (all_others instruction_fits i list fit) (all_others fields_fit i list fields_fit_lem))

-- The bytes of a list within the limits are bytes, where its fields are.
pub list_bytes_lem : (list : List Instruction) → ListFits list → all fields_fit list ≡ true → all is_byte (list_bytes list) ≡ true
unfolding list_bytes
list_bytes_lem list h fields_fit_lem =
    all_append is_byte (1 ∷ bytes_of 2 (4 + length (records_bytes list))) (length list ∷ records_bytes list) (bytes_are_bytes 2 (4 + length (records_bytes list)))
    (and_both _ _ (byte (length list) (omega (arith, h.count))) (led_bytes list h.fit fields_fit_lem))
