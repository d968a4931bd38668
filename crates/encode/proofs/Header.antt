-- The header in front of the records: what then stands in the first bytes is the whole list.
use Rattle.std.proofs.Common.{◌≡◌, ℕ, ◌+◌, ◌/◌, ◌%◌, ◌<◌, ◌≤◌, List, [], ◌∷◌, ◌++◌, length, take, drop, sym, ap, ◌∙◌, ap₂, append_assoc, arith, length-append, length-take-le, take_at, drop_at}
use lib.Seq.{sets, length-sets, sets-eq}
use Rattle.basics.proofs.Stores.{sets_front}
use Rattle.meaning.specs.declared.Statement.{Statement}
use Rattle.meaning.specs.List.{Instruction, records_bytes, list_price, list_bytes}
use Rattle.encode.specs.Records.{Listing, write_header, headed}
use Rattle.encode.proofs.Encoding.{put_all_lem, Listed}

-- The table begins with the bytes of the list, and its size, count and price are the list's.
pub record Made (ss : List Statement) (list : List Instruction) (l : Listing) : Type 0 where
  pub size : l.written.size ≡ length (list_bytes list)
  pub room : l.written.size ≤ length l.out
  pub bytes : take l.written.size l.out ≡ list_bytes list
  pub count : l.written.count ≡ length list
  pub price : l.written.price ≡ list_price ss list

module _ (base : List ℕ) (ss : List Statement) (list : List Instruction) (l : Listing) (h : Listed base ss list l)
    (room : 4 + length (records_bytes list) ≤ length base) (few : length list < 256) where
  abbrev front : List ℕ
  front = 1 ∷ l.written.size / 256 % 256 ∷ l.written.size % 256 ∷ l.written.count % 256 ∷ []

  abbrev behind : List ℕ
  behind = drop (4 + length (records_bytes list)) base

  header_stands : write_header l ≡ front ++ (records_bytes list ++ behind)
  header_stands =
      let early : length (take 4 base) ≡ 4 = length-take-le 4 base (omega arith) in
      put_all_lem l.out 0 front
      ∙ ap (λ (out : List ℕ). sets out 0 front) (h.out ∙ sets-eq (records_bytes list) base 4 room ∙ append_assoc (take 4 base) (records_bytes list) behind)
      ∙ sets_front (take 4 base ++ (records_bytes list ++ behind)) front
      (omega (arith, early, length-append (take 4 base) (records_bytes list ++ behind)))
      ∙ ap (λ (rest : List ℕ). front ++ rest) (drop_at (take 4 base) (records_bytes list ++ behind) 4 early)

  front_bytes : front ++ records_bytes list ≡ list_bytes list
  unfolding list_bytes
  front_bytes =
      let high : l.written.size / 256 % 256 ≡ (4 + length (records_bytes list)) / 256 % 256 = ap (λ (n : ℕ). n / 256 % 256) h.size in
      let low : l.written.size % 256 ≡ (4 + length (records_bytes list)) / 1 % 256 = omega (arith, h.size) in
      let count : l.written.count % 256 ≡ length list = omega (arith, h.count) in
      ap₂ (λ (a b : ℕ). 1 ∷ a ∷ b ∷ l.written.count % 256 ∷ records_bytes list) high low
      ∙ ap (λ (n : ℕ). 1 ∷ (4 + length (records_bytes list)) / 256 % 256 ∷ (4 + length (records_bytes list)) / 1 % 256 ∷ n ∷ records_bytes list) count

  -- so many bytes as the list has,
  listed_size : l.written.size ≡ length (list_bytes list)
  listed_size = omega (arith, h.size, ap length (sym front_bytes), length-append front (records_bytes list))

  -- and these bytes.
  listed_bytes : take l.written.size (write_header l) ≡ list_bytes list
  listed_bytes =
      let regrouped : write_header l ≡ (front ++ records_bytes list) ++ behind = header_stands ∙ sym (append_assoc front (records_bytes list) behind) in
      ap (take l.written.size) (regrouped ∙ ap (λ (bytes : List ℕ). bytes ++ behind) front_bytes)
      ∙ take_at (list_bytes list) behind l.written.size (sym listed_size)

  header_length : length (write_header l) ≡ length base
  header_length =
      ap length (put_all_lem l.out 0 front) ∙ length-sets l.out 0 front ∙ ap length h.out ∙ length-sets base 4 (records_bytes list)

  -- Records with the header in front are the list.
  pub headed_made : Made ss list (headed l)
  headed_made =
      record { size = listed_size; room = omega (arith, h.size, header_length); bytes = listed_bytes; count = h.count; price = h.price }
