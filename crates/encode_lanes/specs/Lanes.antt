-- The records of C and G, which go by their lanes: two of them, or four.
use Rattle.std.specs.Prelude.{ℕ, ◌+◌, ◌-◌, ◌/◌, ◌%◌, List, [], ◌∷◌, eqb, get_or}
use Rattle.basics.specs.Choice.{pick}
use Rattle.codes.specs.Codes.{is_cell_code, is_constant_code, cell_code}
use Rattle.encode.specs.Records.{Listing, put_all, record_behind, array_of, index_of, variable_of}

abbrev pub lane_at : List ℕ → ℕ → ℕ
lane_at lanes i = get_or lanes i 0

abbrev pub constant_of : ℕ → ℕ
constant_of code = (code - 4294967296) / 2

-- what C and G begin with: the length of the record, its code, the register and the lanes
abbrev pub put_front : List ℕ → ℕ → ℕ → ℕ → ℕ → ℕ → List ℕ
put_front out place size code r k = put_all out place (size ∷ code ∷ r ∷ k ∷ [])

-- "every constant of C takes 4 bytes"
abbrev pub put_constant : List ℕ → ℕ → ℕ → List ℕ
put_constant out place code =
    let c = constant_of code in
    put_all out place (c / 16777216 % 256 ∷ c / 65536 % 256 ∷ c / 256 % 256 ∷ c % 256 ∷ [])

abbrev pub put_constants : List ℕ → ℕ → ℕ → ℕ → List ℕ
put_constants out place first second = put_constant (put_constant out place first) (place + 4) second

abbrev pub write_c : ℕ → ℕ → List ℕ → Listing → Listing
write_c r k lanes l =
    let place = l.written.size in
    pick (eqb k 2)
    (record {
      out = put_constants (put_front l.out place 11 2 r k) (place + 4) (lane_at lanes 0) (lane_at lanes 1);
      written = record_behind l.written 11 1;
    })
    (record {
      out =
          put_constants (put_constants (put_front l.out place 19 2 r k) (place + 4) (lane_at lanes 0) (lane_at lanes 1)) (place + 12)
          (lane_at lanes 2) (lane_at lanes 3);
      written = record_behind l.written 19 1;
    })

-- an operand's bytes, "written as in a block", and how many they are
abbrev pub code_width : ℕ → ℕ
code_width code = pick (is_constant_code code) 5 (pick (is_cell_code code) 3 2)

abbrev pub put_operand : List ℕ → ℕ → ℕ → List ℕ
put_operand out place code =
    pick (is_constant_code code) (put_constant (put_all out place (0 ∷ [])) (place + 1) code)
    (pick (is_cell_code code) (put_all out place (2 ∷ array_of code ∷ index_of code ∷ [])) (put_all out place (1 ∷ variable_of code ∷ [])))

abbrev pub put_operands : List ℕ → ℕ → ℕ → ℕ → List ℕ
put_operands out place first second = put_operand (put_operand out place first) (place + code_width first) second

-- how many bytes and how many cells two operands have
abbrev pub width_of : ℕ → ℕ → ℕ
width_of first second = code_width first + code_width second

abbrev pub cells_of : ℕ → ℕ → ℕ
cells_of first second = cell_code first + cell_code second

-- "k + cell lanes"
abbrev pub gather_two : ℕ → ℕ → List ℕ → Listing → Listing
gather_two r k lanes l =
    let place = l.written.size in
    let a = lane_at lanes 0 in
    let b = lane_at lanes 1 in
    record {
      out = put_operands (put_front l.out place (3 + width_of a b) 3 r k) (place + 4) a b;
      written = record_behind l.written (3 + width_of a b) (2 + cells_of a b);
    }

abbrev pub gather_four : ℕ → ℕ → List ℕ → Listing → Listing
gather_four r k lanes l =
    let place = l.written.size in
    let a = lane_at lanes 0 in
    let b = lane_at lanes 1 in
    let c = lane_at lanes 2 in
    let d = lane_at lanes 3 in
    record {
      out = put_operands (put_operands (put_front l.out place (3 + width_of a b + width_of c d) 3 r k) (place + 4) a b) (place + 4 + width_of a b) c d;
      written = record_behind l.written (3 + width_of a b + width_of c d) (4 + cells_of a b + cells_of c d);
    }

abbrev pub write_g : ℕ → ℕ → List ℕ → Listing → Listing
write_g r k lanes l = pick (eqb k 2) (gather_two r k lanes l) (gather_four r k lanes l)
