-- An instruction and its record: what is read is what was written, and the other way round.
use mathlib.Core.Path.{◌≡◌, refl, sym, ap, ap₂, ◌∙◌}
use mathlib.Core.Bool.{Bool, true, false, ◌&&◌, not}
use mathlib.Core.Option.{Option, none, some}
use mathlib.Core.List.{List, [], ◌∷◌, ◌++◌, map, append_assoc}
use Prim.Native.Nat.{ℕ, zero, suc, ◌+◌, ◌*◌, ◌^◌, ◌≤◌}
use native.Mathlib.Omega.{arith}
use lib.Dec.{eqb, ltb, leb}
use lib.ListN.{length, get_or, take, drop, length-append, length-drop, take-append-drop}
use lib.Seq.{length-take-le, drop-drop, drop_at}
use borrow.Author.Tests.{ltb-true, lt-ltb, eqb-true, eq-eqb, not-true}
use Rattle.basics.specs.Choice.{pick}
use Rattle.basics.specs.Lists.{all, sum, flat}
use Rattle.basics.proofs.Tests.{and_left, and_right, and_both}
use Rattle.basics.proofs.Parts.{all_first, all_others, all_take, all_drop, pick_holds, whole_front, spelled_front, spelled_whole, no_elements}
use Rattle.meaning.specs.declared.Operand.{Operand}
use Rattle.meaning.specs.Format.{number, bytes_of, operand_bytes, operand_width, read_operand, is_operand}
use Rattle.meaning.specs.List.{Instruction, S, L, C, G, O, W, D, X, instruction_bytes, lanes_fit, read_constants, read_operands, form, field, read_s, read_l, read_c, read_g, read_o, read_w, read_d, read_x, read_instruction, operands_fill}
use Rattle.meaning.proofs.Lengths.{operand_length}
use Rattle.meaning.proofs.Bounds.{operand_width_lem, lanes_two}
use Rattle.theorems.proofs.Bytes.{is_byte, number_bytes_fits, bytes_number}
use Rattle.theorems.proofs.Operands.{constant_fits, constant_fits_lem, operand_fits_lem, operand_written, operand_read}

-- "operation, ra, rb (copy: no rb)": an operation that is known, with rb exactly where it is no copy
abbrev pub operation_fits : ℕ → Option ℕ → Bool
operation_fits operation none = eqb operation 0
operation_fits operation (some rb) = not (eqb operation 0) && leb operation 7

-- an instruction that can be written: 2 or 4 lanes, constants below 2 ^ 32, operands that are there
abbrev pub instruction_fits : Instruction → Bool
instruction_fits (S s) = true
instruction_fits (L r k a i) = lanes_fit k
instruction_fits (C r cs) = lanes_fit (length cs) && all (λ c. ltb c (2 ^ 32)) cs
instruction_fits (G r os) = lanes_fit (length os) && all is_operand os && all constant_fits os
instruction_fits (O r operation k ra rb) = lanes_fit k && operation_fits operation rb
instruction_fits (W r k a i) = lanes_fit k
instruction_fits (D r lane a i) = true
instruction_fits (X r lane v) = true

-- the constants of C
constants_length : (cs : List ℕ) → length (flat (map (bytes_of 4) cs)) ≡ 4 * length cs
constants_length [] = refl
constants_length (c ∷ cs) = omega (arith, constants_length cs)

constants_back : (cs : List ℕ) → all (λ c. ltb c (2 ^ 32)) cs ≡ true → read_constants (length cs) (flat (map (bytes_of 4) cs)) ≡ cs
constants_back [] fit = refl
constants_back (c ∷ cs) fit =
    ap₂ ◌∷◌ (number_bytes_fits 4 c (ltb-true c (2 ^ 32) (and_left _ _ fit))) (constants_back cs (and_right (ltb c (2 ^ 32)) _ fit))

constants_count : (n : ℕ) (bytes : List ℕ) → length (read_constants n bytes) ≡ n
constants_count zero bytes = refl
constants_count (suc n) bytes = ap suc (constants_count n (drop 4 bytes))

constants_written : (n : ℕ) (bytes : List ℕ) → length bytes ≡ 4 * n → all is_byte bytes ≡ true → flat (map (bytes_of 4) (read_constants n bytes)) ≡ bytes
constants_written zero bytes sized are = sym (no_elements bytes (sized ∙ omega arith))
constants_written (suc n) bytes sized are =
    ap₂ ◌++◌ (bytes_number 4 (take 4 bytes) (length-take-le 4 bytes (omega arith)) (all_take is_byte 4 bytes are))
    (constants_written n (drop 4 bytes) (omega (arith, length-drop 4 bytes)) (all_drop is_byte 4 bytes are))
    ∙ take-append-drop 4 bytes

constants_fit_lem : (n : ℕ) (bytes : List ℕ) → length bytes ≡ 4 * n → all is_byte bytes ≡ true → all (λ c. ltb c (2 ^ 32)) (read_constants n bytes) ≡ true
constants_fit_lem zero bytes sized are = refl
constants_fit_lem (suc n) bytes sized are =
    and_both _ _ (lt-ltb (number (take 4 bytes)) (2 ^ 32) (constant_fits_lem bytes are (omega arith)))
    (constants_fit_lem n (drop 4 bytes) (omega (arith, length-drop 4 bytes)) (all_drop is_byte 4 bytes are))

-- the operands of G
operands_length : (os : List Operand) → length (flat (map operand_bytes os)) ≡ sum (map operand_width os)
operands_length [] = refl
operands_length (o ∷ os) = omega (arith, length-append (operand_bytes o) (flat (map operand_bytes os)), operand_length o, operands_length os)

operands_width : (os : List Operand) → sum (map operand_width os) ≤ 5 * length os
operands_width [] = omega arith
operands_width (o ∷ os) = omega (arith, operand_width_lem o, operands_width os)

operands_back : (os : List Operand) → all is_operand os ≡ true → all constant_fits os ≡ true → read_operands (length os) (flat (map operand_bytes os)) ≡ os
operands_back [] are fit = refl
operands_back (o ∷ os) are fit =
    let rest = flat (map operand_bytes os) in
    let e = operand_read o rest (all_first is_operand o os are) (all_first constant_fits o os fit) in
    ap₂ ◌∷◌ e
    (ap (λ (x : Operand). read_operands (length os) (drop (operand_width x) (operand_bytes o ++ rest))) e
    ∙ ap (read_operands (length os)) (drop_at (operand_bytes o) rest (operand_width o) (operand_length o))
    ∙ operands_back os (all_others is_operand o os are) (all_others constant_fits o os fit))

operands_count : (n : ℕ) (bytes : List ℕ) → length (read_operands n bytes) ≡ n
operands_count zero bytes = refl
operands_count (suc n) bytes = ap suc (operands_count n (drop (operand_width (read_operand bytes)) bytes))

operands_written : (n : ℕ) (bytes : List ℕ) → all is_byte bytes ≡ true
    → flat (map operand_bytes (read_operands n bytes)) ++ drop (sum (map operand_width (read_operands n bytes))) bytes ≡ bytes
operands_written zero bytes are = refl
operands_written (suc n) bytes are =
    let width = operand_width (read_operand bytes) in
    let others = read_operands n (drop width bytes) in
    append_assoc (operand_bytes (read_operand bytes)) (flat (map operand_bytes others)) (drop (width + sum (map operand_width others)) bytes)
    ∙ ap (λ (rest : List ℕ). operand_bytes (read_operand bytes) ++ (flat (map operand_bytes others) ++ rest)) (sym (drop-drop (sum (map operand_width others)) width bytes))
    ∙ ap (λ (rest : List ℕ). operand_bytes (read_operand bytes) ++ rest) (operands_written n (drop width bytes) (all_drop is_byte width bytes are))
    ∙ operand_written bytes are

operands_fit : (n : ℕ) (bytes : List ℕ) → all is_byte bytes ≡ true → all constant_fits (read_operands n bytes) ≡ true
operands_fit zero bytes are = refl
operands_fit (suc n) bytes are =
    let width = operand_width (read_operand bytes) in
    and_both _ _ (operand_fits_lem bytes are) (operands_fit n (drop width bytes) (all_drop is_byte width bytes are))

-- "records, each led by its remaining length": none is longer than 23 bytes
pub instruction_length : (i : Instruction) → instruction_fits i ≡ true → length (instruction_bytes i) ≤ 23
instruction_length (S s) fits = omega arith
instruction_length (L r k a i) fits = omega arith
instruction_length (C r cs) fits = omega (arith, constants_length cs, (lanes_two (length cs) (and_left _ _ fits)).1)
instruction_length (G r os) fits = omega (arith, operands_length os, operands_width os, (lanes_two (length os) (and_left _ _ (and_left _ _ fits))).1)
instruction_length (O r operation k ra none) fits = omega arith
instruction_length (O r operation k ra (some rb)) fits = omega arith
instruction_length (W r k a i) fits = omega arith
instruction_length (D r lane a i) fits = omega arith
instruction_length (X r lane v) fits = omega arith

form_met : (fits : Bool) (i : Instruction) → fits ≡ true → form fits i ≡ some i
form_met fits i e = ap (λ (t : Bool). form t i) e

-- a copy has no rb, another operation has one
copy_back : (r operation k ra : ℕ) → lanes_fit k ≡ true → operation ≡ 0 → read_o (4 ∷ r ∷ operation ∷ k ∷ ra ∷ []) ≡ some (O r operation k ra none)
copy_back r operation k ra lanes e = rw e (form_met (lanes_fit k) (O r 0 k ra none) lanes)

other_back : (r operation k ra rb : ℕ) → lanes_fit k ≡ true → eqb operation 0 ≡ false → leb operation 7 ≡ true
    → read_o (4 ∷ r ∷ operation ∷ k ∷ ra ∷ rb ∷ []) ≡ some (O r operation k ra (some rb))
other_back r operation k ra rb lanes e known =
    ap (λ (copy : Bool). pick copy none (form (lanes_fit k && leb operation 7) (O r operation k ra (some rb)))) e
    ∙ form_met (lanes_fit k && leb operation 7) (O r operation k ra (some rb)) (and_both _ _ lanes known)

-- constants and operands fill their records
constants_read : (r : ℕ) (cs : List ℕ) → lanes_fit (length cs) ≡ true → all (λ c. ltb c (2 ^ 32)) cs ≡ true → read_c (instruction_bytes (C r cs)) ≡ some (C r cs)
constants_read r cs lanes fit =
    form_met (lanes_fit (length cs) && eqb (suc (suc (suc (length (flat (map (bytes_of 4) cs)))))) (3 + 4 * length cs)) _
    (and_both (lanes_fit (length cs)) _ lanes (eq-eqb (suc (suc (suc (length (flat (map (bytes_of 4) cs)))))) (3 + 4 * length cs) (omega (arith, constants_length cs))))
    ∙ ap (λ (constants : List ℕ). some (C r constants)) (constants_back cs fit)

operands_read : (r : ℕ) (os : List Operand) → lanes_fit (length os) ≡ true → all is_operand os ≡ true → all constant_fits os ≡ true
    → read_g (instruction_bytes (G r os)) ≡ some (G r os)
operands_read r os lanes are fit =
    rw (operands_back os are fit)
    (form_met (lanes_fit (length os) && operands_fill (instruction_bytes (G r os)) os) (G r os)
    (and_both (lanes_fit (length os)) _ lanes
    (and_both (all is_operand os) _ are
    (eq-eqb (suc (suc (suc (length (flat (map operand_bytes os)))))) (3 + sum (map operand_width os)) (omega (arith, operands_length os))))))

-- An instruction that fits is read back from its bytes.
pub instruction_back : (i : Instruction) → instruction_fits i ≡ true → read_instruction (instruction_bytes i) ≡ some i
unfolding read_instruction
instruction_back (S s) fits = refl
instruction_back (L r k a i) fits = form_met (lanes_fit k) (L r k a i) fits
instruction_back (C r cs) fits = constants_read r cs (and_left (lanes_fit (length cs)) _ fits) (and_right (lanes_fit (length cs)) _ fits)
instruction_back (G r os) fits =
    let front : lanes_fit (length os) && all is_operand os ≡ true = and_left (lanes_fit (length os) && all is_operand os) _ fits in
    operands_read r os (and_left (lanes_fit (length os)) _ front) (and_right (lanes_fit (length os)) _ front) (and_right (lanes_fit (length os) && all is_operand os) _ fits)
instruction_back (O r operation k ra none) fits = copy_back r operation k ra (and_left (lanes_fit k) _ fits) (eqb-true operation 0 (and_right (lanes_fit k) _ fits))
instruction_back (O r operation k ra (some rb)) fits =
    let known = and_right (lanes_fit k) _ fits in
    other_back r operation k ra rb (and_left (lanes_fit k) _ fits) (not-true (eqb operation 0) (and_left (not (eqb operation 0)) _ known)) (and_right (not (eqb operation 0)) _ known)
instruction_back (W r k a i) fits = form_met (lanes_fit k) (W r k a i) fits
instruction_back (D r lane a i) fits = refl
instruction_back (X r lane v) fits = refl

-- What a record says that has a form: an instruction that fits, and is written as the record's bytes.
pub record Told (bytes : List ℕ) (i : Instruction) : Type 0 where
  pub fits : instruction_fits i ≡ true
  pub written : instruction_bytes i ≡ bytes

abbrev pub Tells : List ℕ → Option Instruction → Type 0
Tells bytes none = Unit
Tells bytes (some i) = Told bytes i

form_tells : (bytes : List ℕ) (test : Bool) (i : Instruction) → (test ≡ true → Told bytes i) → Tells bytes (form test i)
form_tells bytes test i h = pick_holds (Tells bytes) test (some i) none h (λ failed. tt)

-- the code in front
coded : (code : ℕ) (rest bytes : List ℕ) → field 0 bytes ≡ code → field 0 bytes ∷ rest ≡ bytes → code ∷ rest ≡ bytes
coded code rest bytes e h = ap (λ (c : ℕ). c ∷ rest) (sym e) ∙ h

-- each form by its code
module _ (bytes : List ℕ) where
  tells_S : field 0 bytes ≡ 0 → Tells bytes (read_s bytes)
  tells_S e =
      form_tells bytes (eqb (length bytes) 2) (S (field 1 bytes)) λ passed.
      record { fits = refl; written = coded 0 _ bytes e (spelled_whole 2 bytes 0 (eqb-true (length bytes) 2 passed)) }

  tells_L : field 0 bytes ≡ 1 → Tells bytes (read_l bytes)
  tells_L e =
      form_tells bytes (eqb (length bytes) 5 && lanes_fit (field 2 bytes)) (L (field 1 bytes) (field 2 bytes) (field 3 bytes) (field 4 bytes)) λ passed.
      record {
        fits = and_right (eqb (length bytes) 5) _ passed;
        written = coded 1 _ bytes e (spelled_whole 5 bytes 0 (eqb-true (length bytes) 5 (and_left (eqb (length bytes) 5) _ passed)));
      }

  tells_W : field 0 bytes ≡ 5 → Tells bytes (read_w bytes)
  tells_W e =
      form_tells bytes (eqb (length bytes) 5 && lanes_fit (field 2 bytes)) (W (field 1 bytes) (field 2 bytes) (field 3 bytes) (field 4 bytes)) λ passed.
      record {
        fits = and_right (eqb (length bytes) 5) _ passed;
        written = coded 5 _ bytes e (spelled_whole 5 bytes 0 (eqb-true (length bytes) 5 (and_left (eqb (length bytes) 5) _ passed)));
      }

  tells_D : field 0 bytes ≡ 6 → Tells bytes (read_d bytes)
  tells_D e =
      form_tells bytes (eqb (length bytes) 5) (D (field 1 bytes) (field 2 bytes) (field 3 bytes) (field 4 bytes)) λ passed.
      record { fits = refl; written = coded 6 _ bytes e (spelled_whole 5 bytes 0 (eqb-true (length bytes) 5 passed)) }

  tells_X : field 0 bytes ≡ 7 → Tells bytes (read_x bytes)
  tells_X e =
      form_tells bytes (eqb (length bytes) 4) (X (field 1 bytes) (field 2 bytes) (field 3 bytes)) λ passed.
      record { fits = refl; written = coded 7 _ bytes e (spelled_whole 4 bytes 0 (eqb-true (length bytes) 4 passed)) }

  tells_C : all is_byte bytes ≡ true → field 0 bytes ≡ 2 → Tells bytes (read_c bytes)
  tells_C are e =
      let k = field 2 bytes in
      let behind = drop 3 bytes in
      form_tells bytes (lanes_fit k && eqb (length bytes) (3 + 4 * k)) (C (field 1 bytes) (read_constants k behind)) λ passed.
      let whole = eqb-true (length bytes) (3 + 4 * k) (and_right (lanes_fit k) _ passed) in
      let sized : length behind ≡ 4 * k = omega (arith, whole, length-drop 3 bytes) in
      let are-behind = all_drop is_byte 3 bytes are in
      record {
        fits = and_both (lanes_fit (length (read_constants k behind))) _ (ap lanes_fit (constants_count k behind) ∙ and_left (lanes_fit k) _ passed) (constants_fit_lem k behind sized are-behind);
        written =
            coded 2 _ bytes e
            (ap₂ (λ (n : ℕ) (rest : List ℕ). field 0 bytes ∷ field 1 bytes ∷ n ∷ rest) (constants_count k behind) (constants_written k behind sized are-behind)
            ∙ spelled_front 3 bytes 0 (omega (arith, whole)));
      }

  tells_G : all is_byte bytes ≡ true → field 0 bytes ≡ 3 → Tells bytes (read_g bytes)
  tells_G are e =
      let k = field 2 bytes in
      let behind = drop 3 bytes in
      let os = read_operands k behind in
      form_tells bytes (lanes_fit k && operands_fill bytes os) (G (field 1 bytes) os) λ passed.
      let filled : operands_fill bytes os ≡ true = and_right (lanes_fit k) _ passed in
      let there : all is_operand os ≡ true = and_left (all is_operand os) _ filled in
      let whole = eqb-true (length bytes) (3 + sum (map operand_width os)) (and_right (all is_operand os) _ filled) in
      let are-behind = all_drop is_byte 3 bytes are in
      let same = whole_front (flat (map operand_bytes os)) _ behind (operands_written k behind are-behind) (omega (arith, whole, length-drop 3 bytes, operands_length os)) in
      record {
        fits =
            and_both (lanes_fit (length os) && all is_operand os) _
            (and_both (lanes_fit (length os)) _ (ap lanes_fit (operands_count k behind) ∙ and_left (lanes_fit k) _ passed) there)
            (operands_fit k behind are-behind);
        written =
            coded 3 _ bytes e
            (ap₂ (λ (n : ℕ) (rest : List ℕ). field 0 bytes ∷ field 1 bytes ∷ n ∷ rest) (operands_count k behind) same
            ∙ spelled_front 3 bytes 0 (omega (arith, whole)));
      }

  tells_copy : field 0 bytes ≡ 4 → eqb (field 2 bytes) 0 ≡ true
      → Tells bytes (form (eqb (length bytes) 5 && lanes_fit (field 3 bytes)) (O (field 1 bytes) 0 (field 3 bytes) (field 4 bytes) none))
  tells_copy e copy =
      form_tells bytes (eqb (length bytes) 5 && lanes_fit (field 3 bytes)) (O (field 1 bytes) 0 (field 3 bytes) (field 4 bytes) none) λ passed.
      record {
        fits = and_both (lanes_fit (field 3 bytes)) true (and_right (eqb (length bytes) 5) _ passed) refl;
        written =
            coded 4 _ bytes e
            (ap (λ (operation : ℕ). field 0 bytes ∷ field 1 bytes ∷ operation ∷ field 3 bytes ∷ field 4 bytes ∷ []) (sym (eqb-true (field 2 bytes) 0 copy))
            ∙ spelled_whole 5 bytes 0 (eqb-true (length bytes) 5 (and_left (eqb (length bytes) 5) _ passed)));
      }

  tells_other : field 0 bytes ≡ 4 → eqb (field 2 bytes) 0 ≡ false
      → Tells bytes
      (form (eqb (length bytes) 6 && lanes_fit (field 3 bytes) && leb (field 2 bytes) 7)
      (O (field 1 bytes) (field 2 bytes) (field 3 bytes) (field 4 bytes) (some (field 5 bytes))))
  tells_other e other =
      form_tells bytes (eqb (length bytes) 6 && lanes_fit (field 3 bytes) && leb (field 2 bytes) 7)
      (O (field 1 bytes) (field 2 bytes) (field 3 bytes) (field 4 bytes) (some (field 5 bytes))) λ passed.
      let front : eqb (length bytes) 6 && lanes_fit (field 3 bytes) ≡ true = and_left (eqb (length bytes) 6 && lanes_fit (field 3 bytes)) _ passed in
      record {
        fits =
            and_both (lanes_fit (field 3 bytes)) _ (and_right (eqb (length bytes) 6) _ front)
            (and_both (not (eqb (field 2 bytes) 0)) _ (ap not other) (and_right (eqb (length bytes) 6 && lanes_fit (field 3 bytes)) _ passed));
        written = coded 4 _ bytes e (spelled_whole 6 bytes 0 (eqb-true (length bytes) 6 (and_left (eqb (length bytes) 6) _ front)));
      }

  tells_O : field 0 bytes ≡ 4 → Tells bytes (read_o bytes)
  tells_O e = pick_holds (Tells bytes) (eqb (field 2 bytes) 0) _ _ (tells_copy e) (tells_other e)

  by_code : all is_byte bytes ≡ true → (code : ℕ) → field 0 bytes ≡ code
      → Tells bytes (get_or (read_s bytes ∷ read_l bytes ∷ read_c bytes ∷ read_g bytes ∷ read_o bytes ∷ read_w bytes ∷ read_d bytes ∷ read_x bytes ∷ []) code none)
  by_code are zero e = tells_S e
  by_code are (suc zero) e = tells_L e
  by_code are (suc (suc zero)) e = tells_C are e
  by_code are (suc (suc (suc zero))) e = tells_G are e
  by_code are (suc (suc (suc (suc zero)))) e = tells_O e
  by_code are (suc (suc (suc (suc (suc zero))))) e = tells_W e
  by_code are (suc (suc (suc (suc (suc (suc zero)))))) e = tells_D e
  by_code are (suc (suc (suc (suc (suc (suc (suc zero))))))) e = tells_X e
  by_code are (suc (suc (suc (suc (suc (suc (suc (suc code)))))))) e = tt

-- The instruction that is read from a record fits, and is written as that record.
pub instruction_told : (bytes : List ℕ) → all is_byte bytes ≡ true → Tells bytes (read_instruction bytes)
unfolding read_instruction
instruction_told bytes are = by_code bytes are (field 0 bytes) refl
