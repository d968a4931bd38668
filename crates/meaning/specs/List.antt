-- "The list and its machine": instructions, their bytes and prices, which bytes are at fault (8), and what a list may not name (9).
use Rattle.std.specs.Prelude.{ℕ, zero, suc, ◌+◌, ◌*◌, Bool, true, false, ◌&&◌, ◌||◌, List, [], ◌∷◌, ◌++◌, map, eqb, ltb, leb, length, get_or, take, drop}
use Rattle.std.proofs.Math.Option.{Option, none, some}
use Rattle.basics.specs.Choice.{pick}
use Rattle.basics.specs.Lists.{all, sum, flat}
use Rattle.meaning.specs.declared.Operand.{Operand}
use Rattle.meaning.specs.declared.Statement.{Statement}
use Rattle.meaning.specs.declared.Place.TheVariants.{Variable, Cell}
use Rattle.meaning.specs.Block.{Block, statement, statement_price, cell_operand, declares_place, declares_operand}
use Rattle.meaning.specs.Format.{number, bytes_of, operand_bytes, operand_width, read_operand, is_operand}

-- "Instructions, with lanes k = 2 or 4": the fields in the table's order. C and G have as many lanes as constants or operands; a copy in O
-- has no rb.
pub data Instruction : Type 0 where
  S : (number : ℕ) → Instruction
  L : (r k array index : ℕ) → Instruction
  C : (r : ℕ) (constants : List ℕ) → Instruction
  G : (r : ℕ) (operands : List Operand) → Instruction
  O : (r operation k ra : ℕ) (rb : Option ℕ) → Instruction
  W : (r k array index : ℕ) → Instruction
  D : (r lane array index : ℕ) → Instruction
  X : (r lane variable : ℕ) → Instruction

-- the column "price"; "Copy in O is an instruction and has price 1."
abbrev pub instruction_price : List Statement → Instruction → ℕ
instruction_price ss (S s) = statement_price (statement ss s)
instruction_price ss (L r k a i) = 1
instruction_price ss (C r cs) = 1
instruction_price ss (G r os) = length os + sum (map cell_operand os)
instruction_price ss (O r operation k ra rb) = 1
instruction_price ss (W r k a i) = 1
instruction_price ss (D r lane a i) = 2
instruction_price ss (X r lane v) = 1

unfoldable pub list_price : List Statement → List Instruction → ℕ
list_price ss list = sum (map (instruction_price ss) list)

-- "Every instruction but S is a vector instruction."
abbrev pub is_vector : Instruction → Bool
is_vector (S s) = false
is_vector (L r k a i) = true
is_vector (C r cs) = true
is_vector (G r os) = true
is_vector (O r operation k ra rb) = true
is_vector (W r k a i) = true
is_vector (D r lane a i) = true
is_vector (X r lane v) = true

-- "code byte first"; "every constant of C takes 4 bytes and G's operands are written as in a block; other fields take one byte"
abbrev pub one_or_none : Option ℕ → List ℕ
one_or_none none = []
one_or_none (some r) = r ∷ []

abbrev pub instruction_bytes : Instruction → List ℕ
instruction_bytes (S s) = 0 ∷ s ∷ []
instruction_bytes (L r k a i) = 1 ∷ r ∷ k ∷ a ∷ i ∷ []
instruction_bytes (C r cs) = 2 ∷ r ∷ length cs ∷ flat (map (bytes_of 4) cs)
instruction_bytes (G r os) = 3 ∷ r ∷ length os ∷ flat (map operand_bytes os)
instruction_bytes (O r operation k ra rb) = 4 ∷ r ∷ operation ∷ k ∷ ra ∷ one_or_none rb
instruction_bytes (W r k a i) = 5 ∷ r ∷ k ∷ a ∷ i ∷ []
instruction_bytes (D r lane a i) = 6 ∷ r ∷ lane ∷ a ∷ i ∷ []
instruction_bytes (X r lane v) = 7 ∷ r ∷ lane ∷ v ∷ []

-- "records, each led by its remaining length"
abbrev pub led_by_length : List ℕ → List ℕ
led_by_length bytes = length bytes ∷ bytes

abbrev pub records_bytes : List Instruction → List ℕ
records_bytes list = flat (map (λ instruction. led_by_length (instruction_bytes instruction)) list)

-- "A list is version 1, total length (2 bytes), instruction count (at most 160), then records"
unfoldable pub list_bytes : List Instruction → List ℕ
list_bytes list = 1 ∷ bytes_of 2 (4 + length (records_bytes list)) ++ length list ∷ records_bytes list

-- "k not 2 or 4" is 8
abbrev pub lanes_fit : ℕ → Bool
lanes_fit k = eqb k 2 || eqb k 4

-- so many constants, so many operands, from the front of the bytes
abbrev pub read_constants : ℕ → List ℕ → List ℕ
read_constants zero bytes = []
read_constants (suc n) bytes = number (take 4 bytes) ∷ read_constants n (drop 4 bytes)

abbrev pub read_operands : ℕ → List ℕ → List Operand
read_operands zero bytes = []
read_operands (suc n) bytes = read_operand bytes ∷ read_operands n (drop (operand_width (read_operand bytes)) bytes)

-- an instruction, where its record has the form that it needs
abbrev pub form : Bool → Instruction → Option Instruction
form fits instruction = pick fits (some instruction) none

-- one field of a record, counted from its code
abbrev pub field : ℕ → List ℕ → ℕ
field i bytes = get_or bytes i 0

abbrev pub read_s : List ℕ → Option Instruction
read_s bytes = form (eqb (length bytes) 2) (S (field 1 bytes))

abbrev pub read_l : List ℕ → Option Instruction
read_l bytes = form (eqb (length bytes) 5 && lanes_fit (field 2 bytes)) (L (field 1 bytes) (field 2 bytes) (field 3 bytes) (field 4 bytes))

abbrev pub read_c : List ℕ → Option Instruction
read_c bytes =
    form (lanes_fit (field 2 bytes) && eqb (length bytes) (3 + 4 * field 2 bytes))
    (C (field 1 bytes) (read_constants (field 2 bytes) (drop 3 bytes)))

-- G's operands are all there and fill the record
abbrev pub operands_fill : List ℕ → List Operand → Bool
operands_fill bytes os = all is_operand os && eqb (length bytes) (3 + sum (map operand_width os))

abbrev pub read_g : List ℕ → Option Instruction
read_g bytes =
    form (lanes_fit (field 2 bytes) && operands_fill bytes (read_operands (field 2 bytes) (drop 3 bytes)))
    (G (field 1 bytes) (read_operands (field 2 bytes) (drop 3 bytes)))

-- "ra, rb (copy: no rb)"
abbrev pub read_o : List ℕ → Option Instruction
read_o bytes =
    pick (eqb (field 2 bytes) 0)
    (form (eqb (length bytes) 5 && lanes_fit (field 3 bytes)) (O (field 1 bytes) 0 (field 3 bytes) (field 4 bytes) none))
    (form (eqb (length bytes) 6 && lanes_fit (field 3 bytes) && leb (field 2 bytes) 7)
    (O (field 1 bytes) (field 2 bytes) (field 3 bytes) (field 4 bytes) (some (field 5 bytes))))

abbrev pub read_w : List ℕ → Option Instruction
read_w bytes = form (eqb (length bytes) 5 && lanes_fit (field 2 bytes)) (W (field 1 bytes) (field 2 bytes) (field 3 bytes) (field 4 bytes))

abbrev pub read_d : List ℕ → Option Instruction
read_d bytes = form (eqb (length bytes) 5) (D (field 1 bytes) (field 2 bytes) (field 3 bytes) (field 4 bytes))

abbrev pub read_x : List ℕ → Option Instruction
read_x bytes = form (eqb (length bytes) 4) (X (field 1 bytes) (field 2 bytes) (field 3 bytes))

-- the instruction that a record says, by its code; none is "broken record, unknown code, kind or operation, k not 2 or 4"
unfoldable pub read_instruction : List ℕ → Option Instruction
read_instruction bytes =
    get_or (read_s bytes ∷ read_l bytes ∷ read_c bytes ∷ read_g bytes ∷ read_o bytes ∷ read_w bytes ∷ read_d bytes ∷ read_x bytes ∷ []) (field 0 bytes) none

-- so many records, and no byte behind them
abbrev pub after_one : Instruction → Option (List Instruction) → Option (List Instruction)
after_one instruction none = none
after_one instruction (some list) = some (instruction ∷ list)

unfoldable pub read_records : ℕ → List ℕ → Option (List Instruction)
read_records zero [] = some []
read_records zero (byte ∷ bytes) = none
read_records (suc n) [] = none
read_records (suc n) (size ∷ bytes) =
    elim (leb size (length bytes)) [
      | false ↦ none
      | true ↦
          elim (read_instruction (take size bytes)) [
            | none ↦ none
            | some instruction ↦ after_one instruction (read_records n (drop size bytes))
          ]
    ]

-- 8: "list bytes at fault: under 4, version, length, over 160, broken record, unknown code, kind or operation, k not 2 or 4, bytes left over"
unfoldable pub read_list : List ℕ → Option (List Instruction)
read_list bytes =
    elim (leb 4 (length bytes) && eqb (field 0 bytes) 1 && eqb (number (take 2 (drop 1 bytes))) (length bytes) && leb (field 3 bytes) 160) [
      | false ↦ none
      | true ↦ read_records (field 3 bytes) (drop 4 bytes)
    ]

-- "L, C, G and O each write a new register, numbered 0, 1, 2 in order, at most 96." Here `written` has the lanes of each register so far.
abbrev pub is_next : List ℕ → ℕ → Bool
is_next written r = eqb r (length written) && ltb r 96

-- "A register that is read must be already written, with the same k; a lane must be below its k."
abbrev pub is_written : List ℕ → ℕ → ℕ → Bool
is_written written r k = ltb r (length written) && eqb (get_or written r 0) k

abbrev pub has_lane : List ℕ → ℕ → ℕ → Bool
has_lane written r lane = ltb r (length written) && ltb lane (get_or written r 0)

abbrev pub one_written : List ℕ → ℕ → Option ℕ → Bool
one_written written k none = true
one_written written k (some r) = is_written written r k

-- k cells in a row, all of them declared: they never run on into the next array
abbrev pub declares_row : Block → ℕ → ℕ → ℕ → Bool
declares_row b k array index = ltb array (length b.lengths) && leb (index + k) (get_or b.lengths array 0)

-- 9: "list reads well but names a statement, place, lane or register against the rules, a 97th register included"
abbrev pub is_allowed : Block → List ℕ → Instruction → Bool
is_allowed b written (S s) = ltb s (length b.statements)
is_allowed b written (L r k a i) = is_next written r && declares_row b k a i
is_allowed b written (C r cs) = is_next written r
is_allowed b written (G r os) = is_next written r && all (declares_operand b.variables b.lengths) os
is_allowed b written (O r operation k ra rb) = is_next written r && is_written written ra k && one_written written k rb
is_allowed b written (W r k a i) = is_written written r k && declares_row b k a i
is_allowed b written (D r lane a i) = has_lane written r lane && declares_place b.variables b.lengths (Cell a i)
is_allowed b written (X r lane v) = has_lane written r lane && declares_place b.variables b.lengths (Variable v)

abbrev pub written_after : List ℕ → Instruction → List ℕ
written_after written (S s) = written
written_after written (L r k a i) = written ++ k ∷ []
written_after written (C r cs) = written ++ length cs ∷ []
written_after written (G r os) = written ++ length os ∷ []
written_after written (O r operation k ra rb) = written ++ k ∷ []
written_after written (W r k a i) = written
written_after written (D r lane a i) = written
written_after written (X r lane v) = written

unfoldable pub allowed : Block → List ℕ → List Instruction → Bool
allowed b written [] = true
allowed b written (instruction ∷ list) = is_allowed b written instruction && allowed b (written_after written instruction) list
