-- A statement and its record: "operation, destination, left and, except for copy, right". What is read is what was written, and the
-- other way round.
use Rattle.std.specs.Prelude.{Option, Some, None}
use mathlib.Core.Path.{◌≡◌, refl, sym, ap, ap₂, ◌∙◌}
use mathlib.Core.Bool.{Bool, true, false, ◌&&◌, not, false≢true}
use mathlib.Core.List.{List, [], ◌∷◌, ◌++◌, append_assoc, append-nil}
use Prim.Native.Nat.{ℕ, ◌+◌}
use native.Mathlib.Omega.{arith}
use lib.Dec.{eqb, leb}
use lib.ListN.{length, get_or, drop}
use lib.Seq.{drop-drop, drop_at}
use borrow.Author.Tests.{eqb-true, eq-eqb}
use Rattle.basics.specs.Choice.{pick}
use Rattle.basics.specs.Lists.{all}
use Rattle.basics.proofs.Tests.{and_left, and_right, and_both}
use Rattle.basics.proofs.Parts.{all_drop, pick_holds, whole_front, spelled_front}
use Rattle.meaning.specs.declared.Place.{Place}
use Rattle.meaning.specs.declared.Operand.{Operand}
use Rattle.meaning.specs.declared.Operand.TheVariants.{Nothing, Constant, Held}
use Rattle.meaning.specs.declared.Statement.{Statement}
use Rattle.meaning.specs.Block.{is_copy}
use Rattle.meaning.specs.Format.{place_bytes, operand_bytes, place_width, operand_width, read_operand, is_operand, statement_bytes, statement_width, well_formed, read_left, read_right, read_statement, whole, read_behind, read_record}
use Rattle.meaning.proofs.Lengths.{place_length, operand_length, statement_length}
use Rattle.theorems.proofs.Bytes.{is_byte}
use Rattle.theorems.proofs.Operands.{constant_fits, operand_fits_lem, operand_written, operand_read}
use Rattle.theorems.proofs.Reading.{Reads, said}

-- both of a statement's constants, where it has them, are below 2 ^ 32
abbrev pub constants_fit : Statement → Bool
constants_fit s = constant_fits s.left && constant_fits s.right

-- three parts and what is behind them
three_parts : (p l r behind two one whole : List ℕ) → r ++ behind ≡ two → l ++ two ≡ one → p ++ one ≡ whole → p ++ l ++ r ++ behind ≡ whole
three_parts p l r behind two one whole e f g =
    append_assoc (p ++ l) r behind
    ∙ append_assoc p l (r ++ behind)
    ∙ ap (λ (rest : List ℕ). p ++ (l ++ rest)) e
    ∙ ap (λ (rest : List ℕ). p ++ rest) f
    ∙ g

-- what is read of a record whose destination is p is written as its bytes
place_written : (bytes : List ℕ) (p : Place) → all is_byte bytes ≡ true → read_operand (drop 1 bytes) ≡ Held p
    → place_bytes p ++ drop (1 + place_width p) bytes ≡ drop 1 bytes
place_written bytes p are found =
    ap (λ (rest : List ℕ). place_bytes p ++ rest) (sym (drop-drop (place_width p) 1 bytes))
    ∙ rw found at (operand_written (drop 1 bytes) (all_drop is_byte 1 bytes are))

left_written : (bytes : List ℕ) (p : Place) → all is_byte bytes ≡ true
    → operand_bytes (read_left bytes p) ++ drop (1 + place_width p + operand_width (read_left bytes p)) bytes ≡ drop (1 + place_width p) bytes
left_written bytes p are =
    ap (λ (rest : List ℕ). operand_bytes (read_left bytes p) ++ rest) (sym (drop-drop (operand_width (read_left bytes p)) (1 + place_width p) bytes))
    ∙ operand_written (drop (1 + place_width p) bytes) (all_drop is_byte (1 + place_width p) bytes are)

right_written : (bytes : List ℕ) (p : Place) (l : Operand) → all is_byte bytes ≡ true
    → operand_bytes (read_right bytes p l) ++ drop (operand_width (read_right bytes p l)) (drop (1 + place_width p + operand_width l) bytes)
    ≡ drop (1 + place_width p + operand_width l) bytes
right_written bytes p l are =
    pick_holds
    (λ (r : Operand). operand_bytes r ++ drop (operand_width r) (drop (1 + place_width p + operand_width l) bytes) ≡ drop (1 + place_width p + operand_width l) bytes)
    (eqb (get_or bytes 0 0) 0) Nothing (read_operand (drop (1 + place_width p + operand_width l) bytes))
    (λ copy. refl)
    (λ other. operand_written (drop (1 + place_width p + operand_width l) bytes) (all_drop is_byte (1 + place_width p + operand_width l) bytes are))

read_written : (bytes : List ℕ) (p : Place) → all is_byte bytes ≡ true → read_operand (drop 1 bytes) ≡ Held p
    → length bytes ≡ statement_width (read_statement bytes p) → statement_bytes (read_statement bytes p) ≡ bytes
read_written bytes p are found sized =
    whole_front (statement_bytes (read_statement bytes p)) _ bytes
    (ap {B = List ℕ} (λ (rest : List ℕ). get_or bytes 0 0 ∷ rest)
    (three_parts (place_bytes p) (operand_bytes (read_left bytes p)) (operand_bytes (read_right bytes p (read_left bytes p))) _ _ _ _
    (right_written bytes p (read_left bytes p) are)
    (left_written bytes p are)
    (place_written bytes p are found))
    ∙ spelled_front 1 bytes 0 (omega (arith, sized)))
    (omega (arith, sized, statement_length (read_statement bytes p)))

right_fits : (bytes : List ℕ) (p : Place) (l : Operand) → all is_byte bytes ≡ true → constant_fits (read_right bytes p l) ≡ true
right_fits bytes p l are =
    let width = 1 + place_width p + operand_width l in
    pick_holds (λ (r : Operand). constant_fits r ≡ true) (eqb (get_or bytes 0 0) 0) Nothing (read_operand (drop width bytes)) (λ copy. refl)
    (λ other. operand_fits_lem (drop width bytes) (all_drop is_byte width bytes are))

read_fits : (bytes : List ℕ) (p : Place) → all is_byte bytes ≡ true → constants_fit (read_statement bytes p) ≡ true
read_fits bytes p are =
    and_both _ _ (operand_fits_lem (drop (1 + place_width p) bytes) (all_drop is_byte (1 + place_width p) bytes are)) (right_fits bytes p (read_left bytes p) are)

-- What a record that is whole says: a statement that is well formed, has constants of 32 bits, and is written as the record's bytes.
pub record Said (bytes : List ℕ) (s : Statement) : Type 0 where
  pub formed : well_formed s ≡ true
  pub fit : all is_byte bytes ≡ true → constants_fit s ≡ true
  pub sized : length bytes ≡ statement_width s
  pub written : all is_byte bytes ≡ true → statement_bytes s ≡ bytes

behind_said : (bytes : List ℕ) (o : Operand) → read_operand (drop 1 bytes) ≡ o → Reads (Said bytes) (said (read_behind bytes o))
behind_said bytes Nothing found = omega arith
behind_said bytes (Constant c) found = omega arith
behind_said bytes (Held p) found =
    let s = read_statement bytes p in
    pick_holds (λ (r : Option Statement). Reads (Said bytes) (said r)) (well_formed s && eqb (length bytes) (statement_width s)) (Some s) None
    (λ passed.
    let sized = eqb-true (length bytes) (statement_width s) (and_right (well_formed s) _ passed) in
    record { formed = and_left _ _ passed; fit = read_fits bytes p; sized = sized; written = λ are. read_written bytes p are found sized })
    (λ failed. omega arith)

pub record_said : (bytes : List ℕ) → Reads (Said bytes) (said (read_record bytes))
unfolding read_record
record_said bytes = behind_said bytes (read_operand (drop 1 bytes)) refl

-- the parts of a statement's bytes: what is behind the operation, behind the destination, behind the left operand
behind_operation : (s : Statement) → drop 1 (statement_bytes s) ≡ place_bytes s.destination ++ (operand_bytes s.left ++ operand_bytes s.right)
behind_operation s = append_assoc (place_bytes s.destination) (operand_bytes s.left) (operand_bytes s.right)

behind_destination : (s : Statement) → drop (1 + place_width s.destination) (statement_bytes s) ≡ operand_bytes s.left ++ operand_bytes s.right
behind_destination s =
    sym (drop-drop (place_width s.destination) 1 (statement_bytes s))
    ∙ ap (drop (place_width s.destination)) (behind_operation s)
    ∙ drop_at (place_bytes s.destination) _ (place_width s.destination) (place_length s.destination)

behind_left : (s : Statement) → drop (1 + place_width s.destination + operand_width s.left) (statement_bytes s) ≡ operand_bytes s.right
behind_left s =
    sym (drop-drop (operand_width s.left) (1 + place_width s.destination) (statement_bytes s))
    ∙ ap (drop (operand_width s.left)) (behind_destination s)
    ∙ drop_at (operand_bytes s.left) _ (operand_width s.left) (operand_length s.left)

-- what is read of them is the statement
left_is : (s : Statement) → is_operand s.left ≡ true → constants_fit s ≡ true → read_left (statement_bytes s) s.destination ≡ s.left
left_is s there fit =
    ap read_operand (behind_destination s) ∙ operand_read s.left (operand_bytes s.right) there (and_left _ _ fit)

no_operand : (o : Operand) → not (is_operand o) ≡ true → o ≡ Nothing
no_operand Nothing e = refl
no_operand (Constant c) e = absurd (false≢true e)
no_operand (Held p) e = absurd (false≢true e)

right_by : (copy : Bool) (o : Operand) → pick copy (not (is_operand o)) (is_operand o) ≡ true → constant_fits o ≡ true
    → pick copy Nothing (read_operand (operand_bytes o)) ≡ o
right_by true o e fits = sym (no_operand o e)
right_by false o e fits = ap read_operand (sym (append-nil (operand_bytes o))) ∙ operand_read o [] e fits

right_is : (s : Statement) → well_formed s ≡ true → constants_fit s ≡ true → read_right (statement_bytes s) s.destination s.left ≡ s.right
right_is s formed fit =
    ap (λ (rest : List ℕ). pick (is_copy s) Nothing (read_operand rest)) (behind_left s)
    ∙ right_by (is_copy s) s.right (and_right (leb s.operation 7 && is_operand s.left) _ formed) (and_right (constant_fits s.left) _ fit)

statement_is : (s : Statement) → well_formed s ≡ true → constants_fit s ≡ true → read_statement (statement_bytes s) s.destination ≡ s
statement_is s formed fit =
    let e = left_is s (and_right (leb s.operation 7) _ (and_left _ _ formed)) fit in
    ap₂ (λ (l r : Operand). record { operation = s.operation; destination = s.destination; left = l; right = r }) e
    (ap (read_right (statement_bytes s) s.destination) e ∙ right_is s formed fit)

destination_is : (s : Statement) → read_operand (drop 1 (statement_bytes s)) ≡ Held s.destination
destination_is s = ap read_operand (behind_operation s) ∙ operand_read (Held s.destination) _ refl refl

-- A statement that is well formed is read back from its bytes.
pub record_read : (s : Statement) → well_formed s ≡ true → constants_fit s ≡ true → read_record (statement_bytes s) ≡ Some s
unfolding read_record
record_read s formed fit =
    ap (read_behind (statement_bytes s)) (destination_is s)
    ∙ ap (whole (statement_bytes s)) (statement_is s formed fit)
    ∙ ap (λ (test : Bool). pick test (Some s) None) (and_both _ _ formed (eq-eqb _ _ (statement_length s)))
