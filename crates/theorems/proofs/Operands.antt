-- An operand and its bytes: "Constant: 0 and 4 bytes. Variable: 1 and its number. Cell: 2, array, index." What is read is what was
-- written, and the other way round.
use mathlib.Core.Path.{◌≡◌, refl, sym, ap, ap₂, subst, ◌∙◌}
use mathlib.Core.Bool.{Bool, true, ◌&&◌, false≢true}
use mathlib.Core.List.{List, [], ◌∷◌, ◌++◌}
use Prim.Native.Nat.{ℕ, suc, ◌^◌, ◌≤◌, ◌<◌}
use native.Mathlib.Omega.{arith}
use lib.Dec.{eqb, ltb, leb}
use lib.ListN.{length, take, drop, take-append-drop}
use lib.Seq.{length-take-le}
use borrow.Author.Tests.{ltb-true, lt-ltb, leb-true, le-leb, eqb-true}
use Rattle.basics.specs.Lists.{all}
use Rattle.basics.proofs.Tests.{and_left, and_right}
use Rattle.basics.proofs.Parts.{all_others, all_take, pick_holds, spelled_front}
use Rattle.meaning.specs.declared.Place.TheVariants.{Variable, Cell}
use Rattle.meaning.specs.declared.Operand.{Operand}
use Rattle.meaning.specs.declared.Operand.TheVariants.{Nothing, Constant, Held}
use Rattle.meaning.specs.Format.{number, bytes_of, operand_bytes, operand_width, read_operand, is_operand}
use Rattle.theorems.proofs.Bytes.{is_byte, number_below, number_bytes_fits, bytes_number}

-- "All values are unsigned 32-bit": a constant is below 2 ^ 32
abbrev pub constant_fits : Operand → Bool
constant_fits Nothing = true
constant_fits (Constant c) = ltb c (2 ^ 32)
constant_fits (Held p) = true

-- bytes begin with those of the operand
abbrev Begins : List ℕ → Operand → Type 0
Begins bytes o = operand_bytes o ++ drop (operand_width o) bytes ≡ bytes

-- a kind, and so many bytes behind it
record Kind (kind : ℕ) (rest : List ℕ) (expected width : ℕ) : Type 0 where
  same : kind ≡ expected
  enough : width ≤ length rest

kind_of : (kind expected width : ℕ) (rest : List ℕ) → eqb kind expected && leb width (length rest) ≡ true → Kind kind rest expected width
kind_of kind expected width rest e =
    record { same = eqb-true kind expected (and_left _ _ e); enough = leb-true width (length rest) (and_right (eqb kind expected) _ e) }

constant_begins : (kind : ℕ) (rest : List ℕ) → all is_byte rest ≡ true → Kind kind rest 0 4 → Begins (kind ∷ rest) (Constant (number (take 4 rest)))
constant_begins kind rest bytes k =
    ap₂ ◌∷◌ (sym k.same)
    (ap (λ (front : List ℕ). front ++ drop 4 rest)
    (bytes_number 4 (take 4 rest) (length-take-le 4 rest k.enough) (all_take is_byte 4 rest bytes))
    ∙ take-append-drop 4 rest)

-- The operand that is read from bytes is written as the bytes that it was read from.
pub operand_written : (bytes : List ℕ) → all is_byte bytes ≡ true → operand_bytes (read_operand bytes) ++ drop (operand_width (read_operand bytes)) bytes ≡ bytes
unfolding read_operand
operand_written [] e = refl
operand_written (kind ∷ rest) e =
    pick_holds (Begins (kind ∷ rest)) (eqb kind 0 && leb 4 (length rest)) _ _
    (λ t. constant_begins kind rest (all_others is_byte kind rest e) (kind_of kind 0 4 rest t)) λ f.
    pick_holds (Begins (kind ∷ rest)) (eqb kind 1 && leb 1 (length rest)) _ _
    (λ t. let k = kind_of kind 1 1 rest t in ap₂ ◌∷◌ (sym k.same) (spelled_front 1 rest 0 k.enough)) λ f.
    pick_holds (Begins (kind ∷ rest)) (eqb kind 2 && leb 2 (length rest)) _ _
    (λ t. let k = kind_of kind 2 2 rest t in ap₂ ◌∷◌ (sym k.same) (spelled_front 2 rest 0 k.enough)) λ f. refl

-- A constant that is read fits 32 bits.
pub constant_fits_lem : (rest : List ℕ) → all is_byte rest ≡ true → 4 ≤ length rest → number (take 4 rest) < 2 ^ 32
constant_fits_lem rest are enough =
    subst (λ (width : ℕ). number (take 4 rest) < 256 ^ width) (length-take-le 4 rest enough) (number_below (take 4 rest) (all_take is_byte 4 rest are))

pub operand_fits_lem : (bytes : List ℕ) → all is_byte bytes ≡ true → constant_fits (read_operand bytes) ≡ true
unfolding read_operand
operand_fits_lem [] e = refl
operand_fits_lem (kind ∷ rest) e =
    pick_holds (λ (o : Operand). constant_fits o ≡ true) (eqb kind 0 && leb 4 (length rest)) _ _
    (λ t. lt-ltb (number (take 4 rest)) (2 ^ 32) (constant_fits_lem rest (all_others is_byte kind rest e) (kind_of kind 0 4 rest t).enough)) λ f.
    pick_holds (λ (o : Operand). constant_fits o ≡ true) (eqb kind 1 && leb 1 (length rest)) _ _ (λ t. refl) λ f.
    pick_holds (λ (o : Operand). constant_fits o ≡ true) (eqb kind 2 && leb 2 (length rest)) _ _ (λ t. refl) λ f. refl

-- And an operand that is written is read back, whatever stands behind it.
pub operand_read : (o : Operand) (rest : List ℕ) → is_operand o ≡ true → constant_fits o ≡ true → read_operand (operand_bytes o ++ rest) ≡ o
unfolding read_operand
operand_read Nothing rest is fits = absurd (false≢true is)
operand_read (Constant c) rest is fits = rw (le-leb 4 (length (bytes_of 4 c ++ rest)) (omega arith)) (ap Constant (number_bytes_fits 4 c (ltb-true c (2 ^ 32) fits)))
operand_read (Held (Variable v)) rest is fits = rw (le-leb 1 (suc (length rest)) (omega arith))
operand_read (Held (Cell a i)) rest is fits = rw (le-leb 2 (suc (suc (length rest))) (omega arith))
