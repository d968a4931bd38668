-- The records of instructions in the table of bytes: what stands there after so many instructions, and after one more.
use Rattle.std.proofs.Common.{◌≡◌, ℕ, suc, ◌+◌, ◌^◌, ◌<◌, List, [], ◌∷◌, ◌++◌, map, length, set, sym, refl, ap, ◌∙◌, ap₂, arith, length-append}
use mathlib.Core.List.{map-append}
use lib.Seq.{sets}
use Rattle.basics.specs.Lists.{sum, flat}
use Rattle.basics.proofs.Finding.{flat_append}
use Rattle.basics.proofs.Stores.{sets_append}
use Rattle.meaning.specs.declared.Statement.{Statement}
use Rattle.meaning.specs.List.{Instruction, instruction_bytes, instruction_price, led_by_length, records_bytes, list_price}
use Rattle.encode.specs.Records.{Listing, listing, put_from, put_all, record_behind, recorded}

-- bytes one behind the other are a run of stores
put_from_lem : (out : List ℕ) (place i : ℕ) (bytes : List ℕ) → put_from out place i bytes ≡ sets out (place + i) bytes
put_from_lem out place i [] = refl
put_from_lem out place i (byte ∷ bytes) =
    let e : place + (i + 1) ≡ suc (place + i) = omega arith in
    put_from_lem (set out (place + i) byte) place (i + 1) bytes ∙ ap (λ (n : ℕ). sets (set out (place + i) byte) n bytes) e

pub put_all_lem : (out : List ℕ) (place : ℕ) (bytes : List ℕ) → put_all out place bytes ≡ sets out place bytes
put_all_lem out place [] = refl
put_all_lem out place (byte ∷ bytes) =
    let e : place + 1 ≡ suc place = omega arith in
    put_from_lem (set out place byte) place 1 bytes ∙ ap (λ (n : ℕ). sets (set out place byte) n bytes) e

-- a record whose bytes were stored in pieces is that record
pub as_recorded : (l : Listing) (bytes : List ℕ) (price : ℕ) (out : List ℕ) (size cost : ℕ)
    → out ≡ sets l.out l.written.size (led_by_length bytes) → size ≡ length bytes → cost ≡ price
    → listing out (record_behind l.written size cost) ≡ recorded bytes price l
as_recorded l bytes price out size cost stored sized costs =
    ap₂ listing (stored ∙ sym (put_all_lem l.out l.written.size (led_by_length bytes))) (ap₂ (record_behind l.written) sized costs)

-- what one instruction more adds
sum_behind : (ns : List ℕ) (n : ℕ) → sum (ns ++ n ∷ []) ≡ sum ns + n
sum_behind [] n = omega arith
sum_behind (m ∷ ns) n = omega (arith, sum_behind ns n)

records_behind : (list : List Instruction) (i : Instruction) → records_bytes (list ++ i ∷ []) ≡ records_bytes list ++ led_by_length (instruction_bytes i)
records_behind list i =
    ap flat (map-append (λ (one : Instruction). led_by_length (instruction_bytes one)) list (i ∷ []))
    ∙ flat_append (map (λ (one : Instruction). led_by_length (instruction_bytes one)) list) (led_by_length (instruction_bytes i))

records_longer : (list : List Instruction) (i : Instruction)
    → length (records_bytes (list ++ i ∷ [])) ≡ length (records_bytes list) + suc (length (instruction_bytes i))
records_longer list i = ap length (records_behind list i) ∙ length-append (records_bytes list) (led_by_length (instruction_bytes i))

price_behind : (ss : List Statement) (list : List Instruction) (i : Instruction) → list_price ss (list ++ i ∷ []) ≡ list_price ss list + instruction_price ss i
unfolding list_price
price_behind ss list i = ap sum (map-append (instruction_price ss) list (i ∷ [])) ∙ sum_behind (map (instruction_price ss) list) (instruction_price ss i)

-- a list whose size, count and price no number wraps: far more than the limits allow
pub record Short (ss : List Statement) (list : List Instruction) : Type 0 where
  pub bytes : 4 + length (records_bytes list) < 2 ^ 16
  pub few : length list < 2 ^ 16
  pub cheap : list_price ss list < 2 ^ 64

pub shorter : (ss : List Statement) (list : List Instruction) (i : Instruction) → Short ss (list ++ i ∷ []) → Short ss list
shorter ss list i s =
    record {
      bytes = omega (arith, records_longer list i, s.bytes);
      few = omega (arith, length-append list (i ∷ []), s.few);
      cheap = omega (arith, price_behind ss list i, s.cheap);
    }

-- The bytes of these instructions stand behind the room for the header, over what was there, and size, count and price are theirs.
pub record Listed (base : List ℕ) (ss : List Statement) (list : List Instruction) (l : Listing) : Type 0 where
  pub out : l.out ≡ sets base 4 (records_bytes list)
  pub size : l.written.size ≡ 4 + length (records_bytes list)
  pub count : l.written.count ≡ length list
  pub price : l.written.price ≡ list_price ss list

pub record_listed : (base : List ℕ) (ss : List Statement) (list : List Instruction) (l : Listing) (i : Instruction)
    → Listed base ss list l → Short ss (list ++ i ∷ []) → Listed base ss (list ++ i ∷ []) (recorded (instruction_bytes i) (instruction_price ss i) l)
record_listed base ss list l i h s =
    record {
      out =
          put_all_lem l.out l.written.size (led_by_length (instruction_bytes i))
          ∙ ap₂ (λ (table : List ℕ) (place : ℕ). sets table place (led_by_length (instruction_bytes i))) h.out h.size
          ∙ sym (sets_append base 4 (records_bytes list) (led_by_length (instruction_bytes i)))
          ∙ ap (sets base 4) (sym (records_behind list i));
      size = omega (arith, h.size, records_longer list i, s.bytes);
      count = omega (arith, h.count, length-append list (i ∷ []), s.few);
      price = omega (arith, h.price, price_behind ss list i, s.cheap);
    }
