-- "Bytes, big-endian, one version byte in front": reading a block and writing one, with the order of their refusals.
use Rattle.std.specs.Prelude.{ℕ, zero, suc, ◌+◌, ◌*◌, ◌/◌, ◌%◌, ◌^◌, Bool, true, false, ◌&&◌, not, List, [], ◌∷◌, ◌++◌, map, eqb, leb, length, get_or, take, drop, Option, Some, None}
use Rattle.basics.specs.Choice.{pick}
use Rattle.basics.specs.Lists.{all, fill, each, flat}
use Rattle.meaning.specs.declared.Place.{Place}
use Rattle.meaning.specs.declared.Place.TheVariants.{Variable, Cell}
use Rattle.meaning.specs.declared.Operand.{Operand}
use Rattle.meaning.specs.declared.Operand.TheVariants.{Nothing, Constant, Held}
use Rattle.meaning.specs.declared.Statement.{Statement}
use Rattle.meaning.specs.declared.Block.{Block as Slots}
use Rattle.meaning.specs.Numbers.{Answer, refused, done, demand, and_then}
use Rattle.meaning.specs.Block.{Block, declared, blank, is_copy, declares_statement}

-- "big-endian": the number that bytes say, and a number as so many bytes
abbrev pub number : List ℕ → ℕ
number bytes = each (λ byte n. n * 256 + byte) bytes 0

abbrev pub bytes_of : ℕ → ℕ → List ℕ
bytes_of zero n = []
bytes_of (suc width) n = n / 256 ^ width % 256 ∷ bytes_of width n

-- "a count or array length over its limit, length 0, or live-out above variables" is 3
abbrev pub counts_fit : ℕ → ℕ → ℕ → ℕ → Bool
counts_fit variables live arrays statements = leb variables 32 && leb live variables && leb arrays 8 && leb statements 64

abbrev pub length_fits : ℕ → Bool
length_fits n = leb 1 n && leb n 256

-- "Constant: 0 and 4 bytes. Variable: 1 and its number. Cell: 2, array, index."
abbrev pub place_bytes : Place → List ℕ
place_bytes (Variable v) = 1 ∷ v ∷ []
place_bytes (Cell a i) = 2 ∷ a ∷ i ∷ []

abbrev pub operand_bytes : Operand → List ℕ
operand_bytes Nothing = []
operand_bytes (Constant c) = 0 ∷ bytes_of 4 c
operand_bytes (Held p) = place_bytes p

-- how many bytes an operand takes
abbrev pub place_width : Place → ℕ
place_width (Variable v) = 2
place_width (Cell a i) = 3

abbrev pub operand_width : Operand → ℕ
operand_width Nothing = 0
operand_width (Constant c) = 5
operand_width (Held p) = place_width p

-- the operand at the front of the bytes, or Nothing: they end early, or the kind is unknown
unfoldable pub read_operand : List ℕ → Operand
read_operand [] = Nothing
read_operand (kind ∷ rest) =
    pick (eqb kind 0 && leb 4 (length rest)) (Constant (number (take 4 rest)))
    (pick (eqb kind 1 && leb 1 (length rest)) (Held (Variable (get_or rest 0 0)))
    (pick (eqb kind 2 && leb 2 (length rest)) (Held (Cell (get_or rest 0 0) (get_or rest 1 0)))
    Nothing))

abbrev pub is_operand : Operand → Bool
is_operand Nothing = false
is_operand (Constant c) = true
is_operand (Held p) = true

-- "then operation, destination, left and, except for copy, right"
abbrev pub statement_bytes : Statement → List ℕ
statement_bytes s = s.operation ∷ place_bytes s.destination ++ operand_bytes s.left ++ operand_bytes s.right

-- how many bytes that is
abbrev pub statement_width : Statement → ℕ
statement_width s = 1 + place_width s.destination + operand_width s.left + operand_width s.right

-- "unknown operation", "wrong operand count where not allowed": an operation up to 7, a left operand, and a right one except for copy
abbrev pub well_formed : Statement → Bool
well_formed s = leb s.operation 7 && is_operand s.left && pick (is_copy s) (not (is_operand s.right)) (is_operand s.right)

-- "Each statement begins with one byte that counts the rest of its record": the statement that the bytes behind the count say, where
-- they say one and no byte more. A constant as destination is no place, so that record is broken.
abbrev pub read_left : List ℕ → Place → Operand
read_left bytes destination = read_operand (drop (1 + place_width destination) bytes)

abbrev pub read_right : List ℕ → Place → Operand → Operand
read_right bytes destination l =
    pick (eqb (get_or bytes 0 0) 0) Nothing (read_operand (drop (1 + place_width destination + operand_width l) bytes))

abbrev pub read_statement : List ℕ → Place → Statement
read_statement bytes destination =
    record {
      operation = get_or bytes 0 0;
      destination = destination;
      left = read_left bytes destination;
      right = read_right bytes destination (read_left bytes destination);
    }

abbrev pub whole : List ℕ → Statement → Option Statement
whole bytes s = pick (well_formed s && eqb (length bytes) (statement_width s)) (Some s) None

abbrev pub read_behind : List ℕ → Operand → Option Statement
read_behind bytes Nothing = None
read_behind bytes (Constant c) = None
read_behind bytes (Held p) = whole bytes (read_statement bytes p)

unfoldable pub read_record : List ℕ → Option Statement
read_record bytes = read_behind bytes (read_operand (drop 1 bytes))

-- what has been read, and the bytes behind it
abbrev pub Rest : Type 0 → Type 0
Rest A = Answer (A × List ℕ)

abbrev pub in_front : {A : Type 0} → A → Rest (List A) → Rest (List A)
in_front x (refused refusal) = refused refusal
in_front x (done read) = done (x ∷ read.0, read.1)

-- "array lengths (4 if the bytes end, else 3, array by array)"
unfoldable pub read_lengths : ℕ → List ℕ → Rest (List ℕ)
read_lengths zero bytes = done ([], bytes)
read_lengths (suc n) bytes =
    elim (leb 2 (length bytes)) [
      | false ↦ refused 4
      | true ↦
          elim (length_fits (number (take 2 bytes))) [
            | false ↦ refused 3
            | true ↦ in_front (number (take 2 bytes)) (read_lengths n (drop 2 bytes))
          ]
    ]

-- "record by record 4 before 5"
unfoldable pub read_statements : ℕ → ℕ → List ℕ → List ℕ → Rest (List Statement)
read_statements zero variables lengths bytes = done ([], bytes)
read_statements (suc n) variables lengths [] = refused 4
read_statements (suc n) variables lengths (size ∷ bytes) =
    elim (leb size (length bytes)) [
      | false ↦ refused 4
      | true ↦
          elim (read_record (take size bytes)) [
            | None ↦ refused 4
            | Some s ↦
                elim (declares_statement variables lengths s) [
                  | false ↦ refused 5
                  | true ↦ in_front s (read_statements n variables lengths (drop size bytes))
                ]
          ]
    ]

-- "then bytes left over (4)"
abbrev pub nothing_left : {A : Type 0} → A × List ℕ → Answer A
nothing_left read = demand (eqb (length read.1) 0) 4 (done read.0)

-- "short (2), 1, stated length (2), header counts (3), array lengths (..), then record by record 4 before 5, then bytes left over (4)": "version 1; total length
-- (2 bytes, the whole block); variables; live-out count; arrays; statements (1 byte each); each array's length (2 bytes); then the statements"
abbrev pub read_body : List ℕ → Answer Block
read_body bytes =
    and_then (read_lengths (get_or bytes 5 0) (drop 7 bytes)) λ lengths.
    and_then (read_statements (get_or bytes 6 0) (get_or bytes 3 0) lengths.0 lengths.1) λ statements.
    and_then (nothing_left statements) λ read.
    done (record { variables = get_or bytes 3 0; live = get_or bytes 4 0; lengths = lengths.0; statements = read })

unfoldable pub read_block : List ℕ → Answer Block
read_block bytes =
    demand (leb 7 (length bytes)) 2
    (demand (eqb (get_or bytes 0 0) 1) 1
    (demand (eqb (number (take 2 (drop 1 bytes))) (length bytes)) 2
    (demand (counts_fit (get_or bytes 3 0) (get_or bytes 4 0) (get_or bytes 5 0) (get_or bytes 6 0)) 3
    (read_body bytes))))

-- the block in memory: slots that are not declared are zero
abbrev pub in_memory : Block → Slots
in_memory b =
    record {
      variables = b.variables;
      live = b.live;
      arrays = length b.lengths;
      count = length b.statements;
      lengths = fill 8 0 b.lengths;
      statements = fill 64 blank b.statements;
    }

-- a statement's record, its count in front
abbrev pub record_bytes : Statement → List ℕ
record_bytes s = statement_width s ∷ statement_bytes s

abbrev pub body_bytes : Block → List ℕ
body_bytes b =
    b.variables ∷ b.live ∷ length b.lengths ∷ length b.statements
    ∷ flat (map (bytes_of 2) b.lengths) ++ flat (map record_bytes b.statements)

unfoldable pub block_bytes : Block → List ℕ
block_bytes b = 1 ∷ bytes_of 2 (3 + length (body_bytes b)) ++ body_bytes b

-- "The writer: 3, 4, 5, 7, each over the whole block." (7 is where the room is lent.)
unfoldable pub write_block : Slots → Answer (List ℕ)
write_block slots =
    demand (counts_fit slots.variables slots.live slots.arrays slots.count && all length_fits (declared slots).lengths) 3
    (demand (all well_formed (declared slots).statements) 4
    (demand (all (declares_statement slots.variables (declared slots).lengths) (declared slots).statements) 5
    (done (block_bytes (declared slots)))))
