-- The records of C and G, stored piece by piece, are those of the instructions.
use mathlib.Core.Path.{◌≡◌, refl, sym, ap, ap₂, ◌∙◌}
use mathlib.Core.Bool.{true, false≢true}
use mathlib.Core.List.{List, [], ◌∷◌, ◌++◌, append-nil, append_assoc}
use Prim.Native.Nat.{ℕ, ◌+◌, ◌/◌, ◌%◌, ◌^◌}
use native.Mathlib.Omega.{arith}
use lib.ListN.{length, length-append}
use lib.Seq.{sets}
use Rattle.basics.proofs.Stores.{sets_append}
use Rattle.meaning.specs.declared.Place.TheVariants.{Variable, Cell}
use Rattle.meaning.specs.declared.Operand.{Operand}
use Rattle.meaning.specs.declared.Operand.TheVariants.{Nothing, Constant, Held}
use Rattle.meaning.specs.declared.Statement.{Statement}
use Rattle.meaning.specs.Format.{bytes_of, operand_bytes, is_operand}
use Rattle.meaning.specs.List.{C, G, instruction_bytes, instruction_price}
use Rattle.codes.specs.Codes.{operand_code}
use Rattle.codes.specs.Fitting.{operand_fits}
use Rattle.codes.proofs.Places.{cell_code_lem, place_not_constant}
use Rattle.codes.proofs.Operands.{constant_is_constant, cells_of_operand}
use Rattle.codes.proofs.Back.{array_back, index_back, variable_back, constant_back}
use Rattle.encode.specs.Records.{Listing, put_all, recorded}
use Rattle.encode.proofs.Encoding.{put_all_lem, as_recorded}
use Rattle.encode_lanes.specs.Lanes.{put_front, put_constant, put_constants, write_c, code_width, put_operand, put_operands, width_of, write_g}

-- one run of bytes behind another
in_two : (out table : List ℕ) (place behind : ℕ) (xs ys : List ℕ) → table ≡ sets out place xs → behind ≡ place + length xs
    → sets table behind ys ≡ sets out place (xs ++ ys)
in_two out table place behind xs ys e h =
    ap₂ (λ (t : List ℕ) (n : ℕ). sets t n ys) e h ∙ sym (sets_append out place xs ys)

-- "every constant of C takes 4 bytes"
four_bytes : (c : ℕ) → c / 16777216 % 256 ∷ c / 65536 % 256 ∷ c / 256 % 256 ∷ c % 256 ∷ [] ≡ bytes_of 4 c
four_bytes c =
    let last : c % 256 ≡ c / 256 ^ 0 % 256 = omega arith in
    ap (λ (byte : ℕ). c / 16777216 % 256 ∷ c / 65536 % 256 ∷ c / 256 % 256 ∷ byte ∷ []) last

put_constant_lem : (out : List ℕ) (place c : ℕ) → put_constant out place (operand_code (Constant c)) ≡ sets out place (bytes_of 4 c)
put_constant_lem out place c =
    ap (λ (k : ℕ). put_all out place (k / 16777216 % 256 ∷ k / 65536 % 256 ∷ k / 256 % 256 ∷ k % 256 ∷ [])) (constant_back c)
    ∙ put_all_lem out place (c / 16777216 % 256 ∷ c / 65536 % 256 ∷ c / 256 % 256 ∷ c % 256 ∷ [])
    ∙ ap (sets out place) (four_bytes c)

put_constants_lem : (out : List ℕ) (place c d : ℕ)
    → put_constants out place (operand_code (Constant c)) (operand_code (Constant d)) ≡ sets out place (bytes_of 4 c ++ bytes_of 4 d)
put_constants_lem out place c d =
    put_constant_lem (put_constant out place (operand_code (Constant c))) (place + 4) d
    ∙ in_two out (put_constant out place (operand_code (Constant c))) place (place + 4) (bytes_of 4 c) (bytes_of 4 d) (put_constant_lem out place c) refl

pub two_constants : (r c d : ℕ) (l : Listing)
    → write_c r 2 (operand_code (Constant c) ∷ operand_code (Constant d) ∷ 0 ∷ 0 ∷ []) l ≡ recorded (instruction_bytes (C r (c ∷ d ∷ []))) 1 l
two_constants r c d l =
    let place = l.written.size in
    let front : List ℕ = 11 ∷ 2 ∷ r ∷ 2 ∷ [] in
    as_recorded l (instruction_bytes (C r (c ∷ d ∷ []))) 1
    (put_constants (put_front l.out place 11 2 r 2) (place + 4) (operand_code (Constant c)) (operand_code (Constant d))) 11 1
    (put_constants_lem (put_front l.out place 11 2 r 2) (place + 4) c d
    ∙ in_two l.out (put_front l.out place 11 2 r 2) place (place + 4) front (bytes_of 4 c ++ bytes_of 4 d) (put_all_lem l.out place front) refl)
    refl refl

pub four_constants : (r a b c d : ℕ) (l : Listing)
    → write_c r 4 (operand_code (Constant a) ∷ operand_code (Constant b) ∷ operand_code (Constant c) ∷ operand_code (Constant d) ∷ []) l
    ≡ recorded (instruction_bytes (C r (a ∷ b ∷ c ∷ d ∷ []))) 1 l
four_constants r a b c d l =
    let place = l.written.size in
    let front : List ℕ = 19 ∷ 2 ∷ r ∷ 4 ∷ [] in
    let half = put_constants (put_front l.out place 19 2 r 4) (place + 4) (operand_code (Constant a)) (operand_code (Constant b)) in
    as_recorded l (instruction_bytes (C r (a ∷ b ∷ c ∷ d ∷ []))) 1
    (put_constants half (place + 12) (operand_code (Constant c)) (operand_code (Constant d))) 19 1
    (put_constants_lem half (place + 12) c d
    ∙ in_two l.out half place (place + 12) (front ++ (bytes_of 4 a ++ bytes_of 4 b)) (bytes_of 4 c ++ bytes_of 4 d)
    (put_constants_lem (put_front l.out place 19 2 r 4) (place + 4) a b
    ∙ in_two l.out (put_front l.out place 19 2 r 4) place (place + 4) front (bytes_of 4 a ++ bytes_of 4 b) (put_all_lem l.out place front) refl)
    refl)
    refl refl

-- "written as in a block"
operand_width_lem : (o : Operand) → operand_fits o ≡ true → is_operand o ≡ true → code_width (operand_code o) ≡ length (operand_bytes o)
operand_width_lem Nothing fits there = absurd (false≢true there)
operand_width_lem (Constant c) fits there = rw (constant_is_constant c)
operand_width_lem (Held (Variable v)) fits there = rw (place_not_constant (Variable v) fits, cell_code_lem (Variable v) fits)
operand_width_lem (Held (Cell a i)) fits there = rw (place_not_constant (Cell a i) fits, cell_code_lem (Cell a i) fits)

put_operand_lem : (out : List ℕ) (place : ℕ) (o : Operand) → operand_fits o ≡ true → is_operand o ≡ true
    → put_operand out place (operand_code o) ≡ sets out place (operand_bytes o)
put_operand_lem out place Nothing fits there = absurd (false≢true there)
put_operand_lem out place (Constant c) fits there =
    rw (constant_is_constant c)
    (put_constant_lem (put_all out place (0 ∷ [])) (place + 1) c ∙ in_two out (put_all out place (0 ∷ [])) place (place + 1) (0 ∷ []) (bytes_of 4 c) refl refl)
put_operand_lem out place (Held (Variable v)) fits there =
    rw (place_not_constant (Variable v) fits, cell_code_lem (Variable v) fits)
    (ap (λ (n : ℕ). put_all out place (1 ∷ n ∷ [])) (variable_back v fits) ∙ put_all_lem out place (1 ∷ v ∷ []))
put_operand_lem out place (Held (Cell a i)) fits there =
    rw (place_not_constant (Cell a i) fits, cell_code_lem (Cell a i) fits)
    (ap₂ (λ (m n : ℕ). put_all out place (2 ∷ m ∷ n ∷ [])) (array_back a i fits) (index_back a i fits) ∙ put_all_lem out place (2 ∷ a ∷ i ∷ []))

-- an operand that has bytes
pub record Gathered (o : Operand) : Type 0 where
  pub fits : operand_fits o ≡ true
  pub there : is_operand o ≡ true

put_operands_lem : (out : List ℕ) (place : ℕ) (o q : Operand) → Gathered o → Gathered q
    → put_operands out place (operand_code o) (operand_code q) ≡ sets out place (operand_bytes o ++ operand_bytes q)
put_operands_lem out place o q go gq =
    put_operand_lem (put_operand out place (operand_code o)) (place + code_width (operand_code o)) q gq.fits gq.there
    ∙ in_two out (put_operand out place (operand_code o)) place (place + code_width (operand_code o)) (operand_bytes o) (operand_bytes q)
    (put_operand_lem out place o go.fits go.there) (ap (λ (n : ℕ). place + n) (operand_width_lem o go.fits go.there))

two_widths : (o q : Operand) → Gathered o → Gathered q → width_of (operand_code o) (operand_code q) ≡ length (operand_bytes o ++ operand_bytes q)
two_widths o q go gq =
    ap₂ ◌+◌ (operand_width_lem o go.fits go.there) (operand_width_lem q gq.fits gq.there) ∙ sym (length-append (operand_bytes o) (operand_bytes q))

pub two_operands : (ss : List Statement) (r : ℕ) (o q : Operand) (l : Listing) → Gathered o → Gathered q
    → write_g r 2 (operand_code o ∷ operand_code q ∷ 0 ∷ 0 ∷ []) l
    ≡ recorded (instruction_bytes (G r (o ∷ q ∷ []))) (instruction_price ss (G r (o ∷ q ∷ []))) l
two_operands ss r o q l go gq =
    let place = l.written.size in
    let a = operand_code o in
    let b = operand_code q in
    let size = 3 + width_of a b in
    let front : List ℕ = size ∷ 3 ∷ r ∷ 2 ∷ [] in
    let lanes = operand_bytes o ++ operand_bytes q in
    let same : lanes ≡ operand_bytes o ++ (operand_bytes q ++ []) = ap (λ (rest : List ℕ). operand_bytes o ++ rest) (sym (append-nil (operand_bytes q))) in
    let sized : size ≡ length (3 ∷ r ∷ 2 ∷ (operand_bytes o ++ (operand_bytes q ++ []))) = omega (arith, two_widths o q go gq, ap length same) in
    as_recorded l (instruction_bytes (G r (o ∷ q ∷ []))) (instruction_price ss (G r (o ∷ q ∷ [])))
    (put_operands (put_front l.out place size 3 r 2) (place + 4) a b) size (2 + (_ + _))
    (put_operands_lem (put_front l.out place size 3 r 2) (place + 4) o q go gq
    ∙ in_two l.out (put_front l.out place size 3 r 2) place (place + 4) front lanes (put_all_lem l.out place front) refl
    ∙ ap₂ (λ (n : ℕ) (rest : List ℕ). sets l.out place (n ∷ 3 ∷ r ∷ 2 ∷ rest)) sized same)
    sized
    (omega (arith, cells_of_operand o go.fits, cells_of_operand q gq.fits))

pub four_operands : (ss : List Statement) (r : ℕ) (o p q s : Operand) (l : Listing) → Gathered o → Gathered p → Gathered q → Gathered s
    → write_g r 4 (operand_code o ∷ operand_code p ∷ operand_code q ∷ operand_code s ∷ []) l
    ≡ recorded (instruction_bytes (G r (o ∷ p ∷ q ∷ s ∷ []))) (instruction_price ss (G r (o ∷ p ∷ q ∷ s ∷ []))) l
four_operands ss r o p q s l go gp gq gs =
    let place = l.written.size in
    let a = operand_code o in
    let b = operand_code p in
    let c = operand_code q in
    let d = operand_code s in
    let size = 3 + width_of a b + width_of c d in
    let front : List ℕ = size ∷ 3 ∷ r ∷ 4 ∷ [] in
    let half = operand_bytes o ++ operand_bytes p in
    let rest = operand_bytes q ++ operand_bytes s in
    let table = put_front l.out place size 3 r 4 in
    let same : half ++ rest ≡ operand_bytes o ++ (operand_bytes p ++ (operand_bytes q ++ (operand_bytes s ++ []))) =
    append_assoc (operand_bytes o) (operand_bytes p) rest
    ∙ ap (λ (end : List ℕ). operand_bytes o ++ (operand_bytes p ++ (operand_bytes q ++ end))) (sym (append-nil (operand_bytes s))) in
    let sized : size ≡ length (3 ∷ r ∷ 4 ∷ (operand_bytes o ++ (operand_bytes p ++ (operand_bytes q ++ (operand_bytes s ++ []))))) =
    omega (arith, two_widths o p go gp, two_widths q s gq gs, ap length same, length-append half rest) in
    let stored : put_operands table (place + 4) a b ≡ sets l.out place (front ++ half) =
    put_operands_lem table (place + 4) o p go gp ∙ in_two l.out table place (place + 4) front half (put_all_lem l.out place front) refl in
    as_recorded l (instruction_bytes (G r (o ∷ p ∷ q ∷ s ∷ []))) (instruction_price ss (G r (o ∷ p ∷ q ∷ s ∷ [])))
    (put_operands (put_operands table (place + 4) a b) (place + 4 + width_of a b) c d) size (4 + (_ + _) + (_ + _))
    (put_operands_lem (put_operands table (place + 4) a b) (place + 4 + width_of a b) q s gq gs
    ∙ in_two l.out (put_operands table (place + 4) a b) place (place + 4 + width_of a b) (front ++ half) rest stored
    (omega (arith, two_widths o p go gp))
    ∙ ap₂ (λ (n : ℕ) (end : List ℕ). sets l.out place (n ∷ 3 ∷ r ∷ 4 ∷ end)) sized same)
    sized
    (omega (arith, cells_of_operand o go.fits, cells_of_operand p gp.fits, cells_of_operand q gq.fits, cells_of_operand s gs.fits))
