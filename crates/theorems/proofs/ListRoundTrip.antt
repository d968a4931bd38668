-- A list and its bytes: what is written is read as it was written, and what is read is written as it was read.
use mathlib.Core.Path.{◌≡◌, refl, sym, ap, ap₂, subst, ◌∙◌}
use mathlib.Core.Bool.{Bool, true, false, ◌&&◌}
use mathlib.Core.Option.{Option, none, some}
use mathlib.Core.List.{List, [], ◌∷◌, ◌++◌}
use Prim.Native.Nat.{ℕ, zero, suc, ◌+◌, ◌*◌, ◌≤◌}
use native.Mathlib.Omega.{arith}
use lib.Dec.{eqb, leb}
use lib.ListN.{length, take, drop, length-append, take-append-drop}
use lib.Seq.{length-take-le, take_at, drop_at, drop-cons}
use borrow.Author.Tests.{leb-true, le-leb, eqb-true, eq-eqb}
use Rattle.basics.specs.Choice.{pick}
use Rattle.basics.specs.Lists.{all}
use Rattle.basics.proofs.Tests.{and_left, and_right, and_both}
use Rattle.basics.proofs.Parts.{all_first, all_others, all_take, all_drop, pick_holds}
use Rattle.meaning.specs.Format.{number, bytes_of}
use Rattle.meaning.specs.List.{Instruction, instruction_bytes, records_bytes, list_bytes, field, read_instruction, after_one, read_records, read_list}
use Rattle.theorems.proofs.Bytes.{is_byte}
use Rattle.theorems.proofs.Header.{header_written, header_stated}
use Rattle.theorems.proofs.Instructions.{instruction_fits, instruction_length, instruction_back, Told, Tells, instruction_told}

-- A list that can be written: "at most 160" instructions, each of which fits.
pub record ListFits (list : List Instruction) : Type 0 where
  pub count : length list ≤ 160
  pub fit : all instruction_fits list ≡ true

-- the readers' choices, as choices by a test and by what was found
abbrev onward : {A B : Type 0} → Option A → (A → Option B) → Option B
onward none next = none
onward (some a) next = next a

elim_pick : {A : Type 0} (test : Bool) (following : Option A) → elim test [ false ↦ none | true ↦ following ] ≡ pick test following none
elim_pick true following = refl
elim_pick false following = refl

elim_onward : {A B : Type 0} (found : Option A) (next : A → Option B) → elim found [ none ↦ none | some a ↦ next a ] ≡ onward found next
elim_onward none next = refl
elim_onward (some a) next = refl

-- the records, one after the other
records_more : (n size : ℕ) (bytes : List ℕ)
    → read_records (suc n) (size ∷ bytes)
    ≡ pick (leb size (length bytes)) (onward (read_instruction (take size bytes)) λ i. after_one i (read_records n (drop size bytes))) none
unfolding read_records
records_more n size bytes =
    elim_pick (leb size (length bytes)) _
    ∙ ap (λ (following : Option (List Instruction)). pick (leb size (length bytes)) following none) (elim_onward (read_instruction (take size bytes)) _)

records_back : (list : List Instruction) → all instruction_fits list ≡ true → read_records (length list) (records_bytes list) ≡ some list
unfolding read_records
records_back [] fit = refl
records_back (i ∷ list) fit =
    let bytes = instruction_bytes i in
    let behind = records_bytes list in
    records_more (length list) (length bytes) (bytes ++ behind)
    ∙ rw (
      le-leb (length bytes) (length (bytes ++ behind)) (omega (arith, length-append bytes behind)),
      take_at bytes behind (length bytes) refl,
      drop_at bytes behind (length bytes) refl,
      instruction_back i (all_first instruction_fits i list fit),
      records_back list (all_others instruction_fits i list fit),
    )

-- the records are short
pub records_length : (list : List Instruction) → all instruction_fits list ≡ true → length (records_bytes list) ≤ 24 * length list
records_length [] fit = omega arith
records_length (i ∷ list) fit =
    omega (
      arith,
      length-append (instruction_bytes i) (records_bytes list),
      instruction_length i (all_first instruction_fits i list fit),
      records_length list (all_others instruction_fits i list fit),
    )

-- the tests of the front of a list
abbrev front_fits : ℕ → ℕ → ℕ → ℕ → Bool
front_fits size version stated count = leb 4 size && eqb version 1 && eqb stated size && leb count 160

record Front (size version stated count : ℕ) : Type 0 where
  long : 4 ≤ size
  one : version ≡ 1
  whole : stated ≡ size
  few : count ≤ 160

front_fits_lem : (size version stated count : ℕ) → Front size version stated count → front_fits size version stated count ≡ true
front_fits_lem size version stated count f =
    and_both _ _
    (and_both _ _ (and_both _ _ (le-leb 4 size f.long) (eq-eqb version 1 f.one)) (eq-eqb stated size f.whole))
    (le-leb count 160 f.few)

front_of : (size version stated count : ℕ) → front_fits size version stated count ≡ true → Front size version stated count
front_of size version stated count e =
    record {
      long = leb-true 4 size (and_left _ _ (and_left _ _ (and_left _ _ e)));
      one = eqb-true version 1 (and_right (leb 4 size) _ (and_left _ _ (and_left _ _ e)));
      whole = eqb-true stated size (and_right (leb 4 size && eqb version 1) _ (and_left _ _ e));
      few = leb-true count 160 (and_right (leb 4 size && eqb version 1 && eqb stated size) _ e);
    }

list_stated : (list : List Instruction) → ListFits list → number (bytes_of 2 (4 + length (records_bytes list))) ≡ suc (suc (suc (suc (length (records_bytes list)))))
list_stated list h =
    ap (λ (n : ℕ). number (bytes_of 2 n)) (omega arith)
    ∙ header_stated (suc (length (records_bytes list))) (omega (arith, records_length list h.fit, h.count))

-- what records come to
record Listed (n : ℕ) (bytes : List ℕ) (list : List Instruction) : Type 0 where
  counted : length list ≡ n
  fit : all instruction_fits list ≡ true
  written : records_bytes list ≡ bytes

abbrev Lists : ℕ → List ℕ → Option (List Instruction) → Type 0
Lists n bytes none = Unit
Lists n bytes (some list) = Listed n bytes list

one_more : (n size : ℕ) (bytes : List ℕ) (i : Instruction) (answer : Option (List Instruction)) → size ≤ length bytes
    → Told (take size bytes) i → Lists n (drop size bytes) answer → Lists (suc n) (size ∷ bytes) (after_one i answer)
one_more n size bytes i none enough told h = tt
one_more n size bytes i (some list) enough told h =
    record {
      counted = ap suc h.counted;
      fit = and_both _ _ told.fits h.fit;
      written =
          ap₂ ◌∷◌ (ap length told.written ∙ length-take-le size bytes enough) (ap₂ ◌++◌ told.written h.written ∙ take-append-drop size bytes);
    }

one_told : (n size : ℕ) (bytes : List ℕ) (found : Option Instruction) (answer : Option (List Instruction)) → size ≤ length bytes
    → Tells (take size bytes) found → Lists n (drop size bytes) answer → Lists (suc n) (size ∷ bytes) (onward found λ i. after_one i answer)
one_told n size bytes none answer enough told h = tt
one_told n size bytes (some i) answer enough told h = one_more n size bytes i answer enough told h

records_told : (n : ℕ) (bytes : List ℕ) → all is_byte bytes ≡ true → Lists n bytes (read_records n bytes)
unfolding read_records
records_told zero [] are = record { counted = refl; fit = refl; written = refl }
records_told zero (byte ∷ bytes) are = tt
records_told (suc n) [] are = tt
records_told (suc n) (size ∷ bytes) are =
    let are-behind = all_others is_byte size bytes are in
    rw records_more
    (pick_holds (Lists (suc n) (size ∷ bytes)) (leb size (length bytes)) _ none
    (λ enough.
    one_told n size bytes (read_instruction (take size bytes)) (read_records n (drop size bytes)) (leb-true size (length bytes) enough)
    (instruction_told (take size bytes) (all_take is_byte size bytes are-behind))
    (records_told n (drop size bytes) (all_drop is_byte size bytes are-behind)))
    (λ short. tt))

-- What a list that is read comes to: it is within the limits, and is written as the bytes from which it was read.
pub record ListRead (bytes : List ℕ) (list : List Instruction) : Type 0 where
  pub fits : ListFits list
  pub written : list_bytes list ≡ bytes

abbrev Outcome : List ℕ → Option (List Instruction) → Type 0
Outcome bytes none = Unit
Outcome bytes (some list) = ListRead bytes list

list_outcome : (bytes : List ℕ) → all is_byte bytes ≡ true → Front (length bytes) (field 0 bytes) (number (take 2 (drop 1 bytes))) (field 3 bytes)
    → (answer : Option (List Instruction)) → Lists (field 3 bytes) (drop 4 bytes) answer → Outcome bytes answer
unfolding list_bytes
list_outcome bytes are front none h = tt
list_outcome bytes are front (some list) h =
    let body : length list ∷ records_bytes list ≡ drop 3 bytes = ap₂ ◌∷◌ h.counted h.written ∙ sym (drop-cons bytes 3 0 (omega (arith, front.long))) in
    let sized : 4 + length (records_bytes list) ≡ 3 + suc (length (records_bytes list)) = omega arith in
    record {
      fits = record { count = omega (arith, h.counted, front.few); fit = h.fit };
      written =
          ap (λ (n : ℕ). 1 ∷ bytes_of 2 n ++ length list ∷ records_bytes list) sized
          ∙ header_written bytes (length list ∷ records_bytes list) (omega (arith, front.long)) front.one front.whole body are;
    }

list_told : (bytes : List ℕ) → all is_byte bytes ≡ true → Outcome bytes (read_list bytes)
unfolding read_list
list_told bytes are =
    let test = front_fits (length bytes) (field 0 bytes) (number (take 2 (drop 1 bytes))) (field 3 bytes) in
    subst (Outcome bytes) (sym (elim_pick test (read_records (field 3 bytes) (drop 4 bytes))))
    (pick_holds (Outcome bytes) test (read_records (field 3 bytes) (drop 4 bytes)) none
    (λ passed. list_outcome bytes are (front_of _ _ _ _ passed) (read_records (field 3 bytes) (drop 4 bytes)) (records_told (field 3 bytes) (drop 4 bytes) (all_drop is_byte 4 bytes are)))
    (λ failed. tt))

-- A list within the limits has at most 3,844 bytes, so its length fits the two bytes that state it.
pub list_length : (list : List Instruction) → ListFits list → length (list_bytes list) ≤ 3844
unfolding list_bytes
list_length list h = omega (arith, records_length list h.fit, h.count)

-- Every list within the limits is read back from its bytes.
pub list_back : (list : List Instruction) → ListFits list → read_list (list_bytes list) ≡ some list
unfolding read_list list_bytes
list_back list h =
    let size = suc (suc (suc (suc (length (records_bytes list))))) in
    let stated = number (bytes_of 2 (4 + length (records_bytes list))) in
    elim_pick (front_fits size 1 stated (length list)) (read_records (length list) (records_bytes list))
    ∙ ap (λ (test : Bool). pick test (read_records (length list) (records_bytes list)) none)
    (front_fits_lem size 1 stated (length list) (record { long = omega arith; one = refl; whole = list_stated list h; few = h.count }))
    ∙ records_back list h.fit

-- A list that is read is within the limits, and is written as the bytes from which it was read.
pub list_read : (bytes : List ℕ) (list : List Instruction) → all is_byte bytes ≡ true → read_list bytes ≡ some list → ListRead bytes list
list_read bytes list are e = subst (Outcome bytes) e (list_told bytes are)

pub list_written : (bytes : List ℕ) (list : List Instruction) → all is_byte bytes ≡ true → read_list bytes ≡ some list → list_bytes list ≡ bytes
list_written bytes list are e = (list_read bytes list are e).written
