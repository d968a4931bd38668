-- What is asked of a tuple's codes is what is asked of the tuple: neighbours of one array, constants; and the records of L, C and G.
use Rattle.std.proofs.Common.{◌≡◌, ℕ, Bool, true, false, ◌&&◌, List, [], ◌∷◌, map, length, sym, refl, ap, ◌∙◌, ap₂}
use mathlib.Core.Bool.{and-true}
use mathlib.Core.Option.{Option, none, some}
use Rattle.basics.specs.Choice.{pick}
use Rattle.basics.specs.Lists.{all, each}
use Rattle.basics.proofs.Tests.{and_left, and_right}
use Rattle.meaning.specs.declared.Place.TheVariants.{Variable, Cell}
use Rattle.meaning.specs.declared.Operand.{Operand}
use Rattle.meaning.specs.declared.Operand.TheVariants.{Nothing, Constant, Held}
use Rattle.meaning.specs.declared.Statement.{Statement}
use Rattle.meaning.specs.Format.{is_operand}
use Rattle.meaning.specs.List.{C, G, instruction_bytes, instruction_price, lanes_fit}
use Rattle.meaning.specs.Emission.{Emitted, extract_operand, are_in_row, row_start, with_constant, constants_of}
use Rattle.codes.specs.Codes.{place_code, operand_code, is_constant_code}
use Rattle.codes.specs.Fitting.{place_fits, operand_fits}
use Rattle.codes.proofs.Places.{place_not_constant}
use Rattle.codes.proofs.Operands.{operands_row, constant_is_constant}
use Rattle.codes.proofs.Back.{array_back, index_back}
use Rattle.encode.specs.Records.{Listing, recorded, write_cells}
use Rattle.encode_lanes.specs.Lanes.{write_c, write_g}
use Rattle.encode_lanes.proofs.Gathering.{two_constants, four_constants, two_operands, four_operands}
use Rattle.registers.proofs.Laned.{Laned, two, four, lane_code, tuple_of}
use Rattle.lanes.specs.Homes.{InLanes, extract_code, extract_tuple}
use Rattle.lanes.proofs.Extraction.{Stepped, operand_stepped}
use Rattle.fetch.specs.Fetching.{tuple_in_row, tuple_constant}

-- a tuple that can be fetched
pub record Fetchable (os : List Operand) : Type 0 where
  pub lanes : lanes_fit (length os) ≡ true
  pub fit : all operand_fits os ≡ true
  pub there : all is_operand os ≡ true

-- "ascending neighbours of one array"
pub row_codes : (os : List Operand) → Laned os → all operand_fits os ≡ true → tuple_in_row (tuple_of os) ≡ are_in_row os
row_codes os (two a b) fit =
    ap (λ (x : Bool). x && true) (sym (operands_row a b (and_left (operand_fits a) _ fit) (and_left (operand_fits b) _ (and_right (operand_fits a) _ fit))))
row_codes os (four a b c d) fit =
    let fb = and_right (operand_fits a) _ fit in
    let fc = and_right (operand_fits b) _ fb in
    let fd = and_right (operand_fits c) _ fc in
    sym
    (ap₂ (λ (x y : Bool). x && y) (operands_row a b (and_left (operand_fits a) _ fit) (and_left (operand_fits b) _ fb))
    (ap₂ (λ (x y : Bool). x && y) (operands_row b c (and_left (operand_fits b) _ fb) (and_left (operand_fits c) _ fc))
    (and-true _ ∙ operands_row c d (and_left (operand_fits c) _ fc) (and_left (operand_fits d) _ fd))))

-- with its array and its first index
abbrev pub RowAs : List Operand → Bool → Option (ℕ × ℕ) → Type 0
RowAs os true (some start) = (lane_code os 0 ≡ place_code (Cell start.0 start.1)) × (place_fits (Cell start.0 start.1) ≡ true)
RowAs os true none = ⊥
RowAs os false (some start) = ⊥
RowAs os false none = Unit

row_from_lem : (a b : Operand) (rest : List Operand) → all operand_fits (a ∷ b ∷ rest) ≡ true
    → RowAs (a ∷ b ∷ rest) (are_in_row (a ∷ b ∷ rest)) (row_start (a ∷ b ∷ rest))
row_from_lem Nothing b rest fit = tt
row_from_lem (Constant c) b rest fit = tt
row_from_lem (Held (Variable v)) Nothing rest fit = tt
row_from_lem (Held (Variable v)) (Constant c) rest fit = tt
row_from_lem (Held (Variable v)) (Held q) rest fit = tt
row_from_lem (Held (Cell a i)) b rest fit = by (are_in_row (Held (Cell a i) ∷ b ∷ rest))
  where
    by : (t : Bool) → RowAs (Held (Cell a i) ∷ b ∷ rest) t (pick t (some (a, i)) none)
    by true = (refl, and_left (place_fits (Cell a i)) (all operand_fits (b ∷ rest)) fit)
    by false = tt

pub row_as : (os : List Operand) → Laned os → all operand_fits os ≡ true → RowAs os (are_in_row os) (row_start os)
row_as os (two a b) fit = row_from_lem a b [] fit
row_as os (four a b c d) fit = row_from_lem a b (c ∷ d ∷ []) fit

-- "C for constants"
abbrev is_constant : Operand → Bool
is_constant Nothing = false
is_constant (Constant c) = true
is_constant (Held p) = false

constant_code : (o : Operand) → operand_fits o ≡ true → is_constant_code (operand_code o) ≡ is_constant o
constant_code Nothing fits = refl
constant_code (Constant c) fits = constant_is_constant c
constant_code (Held p) fits = place_not_constant p fits

pub constant_codes : (os : List Operand) → Laned os → all operand_fits os ≡ true → tuple_constant (tuple_of os) ≡ all is_constant os
constant_codes os (two a b) fit =
    ap₂ (λ (x y : Bool). x && (y && true)) (constant_code a (and_left (operand_fits a) _ fit)) (constant_code b (and_left (operand_fits b) _ (and_right (operand_fits a) _ fit)))
constant_codes os (four a b c d) fit =
    let fb = and_right (operand_fits a) _ fit in
    let fc = and_right (operand_fits b) _ fb in
    let fd = and_right (operand_fits c) _ fc in
    ap₂ (λ (x y : Bool). x && y) (constant_code a (and_left (operand_fits a) _ fit))
    (ap₂ (λ (x y : Bool). x && y) (constant_code b (and_left (operand_fits b) _ fb))
    (ap₂ (λ (x y : Bool). x && y) (constant_code c (and_left (operand_fits c) _ fc))
    (constant_code d (and_left (operand_fits d) _ fd) ∙ sym (and-true (is_constant d)))))

abbrev pub ConstantsAs : List Operand → Bool → Option (List ℕ) → Type 0
ConstantsAs os true (some cs) = os ≡ map Constant cs
ConstantsAs os true none = ⊥
ConstantsAs os false (some cs) = ⊥
ConstantsAs os false none = Unit

pub constants_as : (os : List Operand) → ConstantsAs os (all is_constant os) (constants_of os)
constants_as [] = refl
constants_as (Nothing ∷ rest) = tt
constants_as (Held p ∷ rest) = tt
constants_as (Constant c ∷ rest) = by (all is_constant rest) (constants_of rest) (constants_as rest)
  where
    by : (t : Bool) (cs : Option (List ℕ)) → ConstantsAs rest t cs → ConstantsAs (Constant c ∷ rest) t (with_constant c cs)
    by true (some cs) e = ap (λ (more : List Operand). Constant c ∷ more) e
    by true none e = e
    by false (some cs) e = e
    by false none e = tt

-- the records
pub row_record : (code r k a i price : ℕ) (l : Listing) → place_fits (Cell a i) ≡ true
    → write_cells code r k (place_code (Cell a i)) price l ≡ recorded (code ∷ r ∷ k ∷ a ∷ i ∷ []) price l
row_record code r k a i price l fits =
    ap₂ (λ (array index : ℕ). recorded (code ∷ r ∷ k ∷ array ∷ index ∷ []) price l) (array_back a i fits) (index_back a i fits)

pub constants_record : (r : ℕ) (cs : List ℕ) (l : Listing) → Laned cs
    → write_c r (length (map Constant cs)) (tuple_of (map Constant cs)).lanes l ≡ recorded (instruction_bytes (C r cs)) 1 l
constants_record r cs l (two c d) = two_constants r c d l
constants_record r cs l (four a b c d) = four_constants r a b c d l

pub operands_record : (ss : List Statement) (r : ℕ) (os : List Operand) (l : Listing) → Laned os → all operand_fits os ≡ true → all is_operand os ≡ true
    → write_g r (length os) (tuple_of os).lanes l ≡ recorded (instruction_bytes (G r os)) (instruction_price ss (G r os)) l
operands_record ss r os l (two a b) fit there =
    let fb = and_right (operand_fits a) _ fit in
    let tb = and_right (is_operand a) _ there in
    two_operands ss r a b l (record { fits = and_left (operand_fits a) _ fit; there = and_left (is_operand a) _ there })
    (record { fits = and_left (operand_fits b) _ fb; there = and_left (is_operand b) _ tb })
operands_record ss r os l (four a b c d) fit there =
    let fb = and_right (operand_fits a) _ fit in
    let fc = and_right (operand_fits b) _ fb in
    let fd = and_right (operand_fits c) _ fc in
    let tb = and_right (is_operand a) _ there in
    let tc = and_right (is_operand b) _ tb in
    let td = and_right (is_operand c) _ tc in
    four_operands ss r a b c d l (record { fits = and_left (operand_fits a) _ fit; there = and_left (is_operand a) _ there })
    (record { fits = and_left (operand_fits b) _ fb; there = and_left (is_operand b) _ tb })
    (record { fits = and_left (operand_fits c) _ fc; there = and_left (is_operand c) _ tc })
    (record { fits = and_left (operand_fits d) _ fd; there = and_left (is_operand d) _ td })

-- "in operand order": a lane that is not there has nothing to extract
pub tuple_stepped : (base : List ℕ) (ss : List Statement) (os : List Operand) (e : Emitted) (l : InLanes) → Laned os → all operand_fits os ≡ true
    → Stepped base ss e l → Stepped base ss (each extract_operand os e) (extract_tuple (tuple_of os) l)
tuple_stepped base ss os e l (two a b) fit h =
    let e1 = extract_operand a e in
    let l1 = extract_code (operand_code a) l in
    let e2 = extract_operand b e1 in
    let l2 = extract_code (operand_code b) l1 in
    operand_stepped base ss Nothing e2 (extract_code 0 l2) refl
    (operand_stepped base ss Nothing e2 l2 refl
    (operand_stepped base ss b e1 l1 (and_left (operand_fits b) _ (and_right (operand_fits a) _ fit))
    (operand_stepped base ss a e l (and_left (operand_fits a) _ fit) h)))
tuple_stepped base ss os e l (four a b c d) fit h =
    let fb = and_right (operand_fits a) _ fit in
    let fc = and_right (operand_fits b) _ fb in
    let fd = and_right (operand_fits c) _ fc in
    let e1 = extract_operand a e in
    let l1 = extract_code (operand_code a) l in
    let e2 = extract_operand b e1 in
    let l2 = extract_code (operand_code b) l1 in
    let e3 = extract_operand c e2 in
    let l3 = extract_code (operand_code c) l2 in
    operand_stepped base ss d e3 l3 (and_left (operand_fits d) _ fd)
    (operand_stepped base ss c e2 l2 (and_left (operand_fits c) _ fc)
    (operand_stepped base ss b e1 l1 (and_left (operand_fits b) _ fb) (operand_stepped base ss a e l (and_left (operand_fits a) _ fit) h)))
