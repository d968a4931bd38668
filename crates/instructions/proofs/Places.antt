-- The record at a place is the one that a list's records begin with there: `instruction_at` and `end_at` say what `read_records` reads.
use mathlib.Core.Path.{◌≡◌, refl}
use mathlib.Core.Logic.{⊎_elim}
use mathlib.Core.Option.{Option, none, some}
use mathlib.Core.List.{List, [], ◌∷◌}
use Prim.Native.Nat.{ℕ, suc, ◌+◌, ◌-◌, ◌≤◌, ◌<◌}
use native.Mathlib.Numerals.{add-one}
use native.Mathlib.Omega.{arith}
use lib.Dec.{leb}
use lib.ListN.{length, get_or, take, drop, length-drop, drop_of_length-le}
use lib.Seq.{drop-cons, drop-drop}
use borrow.Author.Tests.{le-ltb, lt-ltb, le-leb, lt-leb}
use Rattle.basics.specs.Choice.{pick}
use Rattle.basics.proofs.Tests.{below_or_not}
use Rattle.meaning.specs.List.{Instruction, read_instruction, after_one, read_records}
use Rattle.instructions.specs.Next.{instruction_at, end_at, behind}

-- the records at the front of the bytes, by what the count in front says
front_short : (n size : ℕ) (rest : List ℕ) → length rest < size → read_records (suc n) (size ∷ rest) ≡ none
unfolding read_records
front_short n size rest h = rw (lt-leb size (length rest) h, read_records)

front_behind : (n : ℕ) (rest : List ℕ) (read : Option Instruction)
    → elim read [ none ↦ none | some instruction ↦ after_one instruction (read_records n rest) ] ≡ behind read (read_records n rest)
front_behind n rest none = refl
front_behind n rest (some instruction) = refl

front_whole :
    (n size : ℕ) (rest : List ℕ) → size ≤ length rest
    → read_records (suc n) (size ∷ rest) ≡ behind (read_instruction (take size rest)) (read_records n (drop size rest))
unfolding read_records
front_whole n size rest h = rw (le-leb size (length rest) h, read_records) (front_behind n (drop size rest) (read_instruction (take size rest)))

left_over : (byte : ℕ) (rest : List ℕ) → read_records 0 (byte ∷ rest) ≡ none
unfolding read_records
left_over byte rest = refl

nothing_left_lem : read_records 0 [] ≡ some []
unfolding read_records
nothing_left_lem = refl

module _ (bytes : List ℕ) (start : ℕ) where
  -- no byte is left, or fewer than the first one counts
  pub no_bytes : length bytes ≤ start → (none ≡ instruction_at bytes start) × (start ≡ end_at bytes start)
  unfolding instruction_at end_at
  no_bytes h = rw (le-ltb start (length bytes) h) (refl, refl)

  pub too_short :
      start < length bytes → length bytes - (start + 1) < get_or bytes start 0 → (none ≡ instruction_at bytes start) × (start ≡ end_at bytes start)
  unfolding instruction_at end_at
  too_short there h =
      rw (lt-ltb start (length bytes) there, lt-leb (get_or bytes start 0) (length bytes - (start + 1)) h) (refl, refl)

  pub whole_record :
      start < length bytes → get_or bytes start 0 ≤ length bytes - (start + 1)
      → (read_instruction (take (get_or bytes start 0) (drop (start + 1) bytes)) ≡ instruction_at bytes start)
      × (start + 1 + get_or bytes start 0 ≡ end_at bytes start)
  unfolding instruction_at end_at
  whole_record there h =
      rw (lt-ltb start (length bytes) there, le-leb (get_or bytes start 0) (length bytes - (start + 1)) h) (refl, refl)

  -- the same, with the part of the bytes from one place to another
  pub cut_record :
      (size : ℕ) → size ≡ get_or bytes start 0 → start < length bytes → size ≤ length bytes - (start + 1)
      → (read_instruction (take (start + 1 + size - (start + 1)) (drop (start + 1) bytes)) ≡ instruction_at bytes start)
      × (start + 1 + size ≡ end_at bytes start)
  cut_record size e there h =
      let part : start + 1 + size - (start + 1) ≡ size = omega arith in
      rw (part, e) (whole_record there (omega arith))

  -- the records from a place on: the one that stands there, and those behind it
  records_none :
      (n : ℕ) → length bytes ≤ start
      → read_records (suc n) (drop start bytes) ≡ behind (instruction_at bytes start) (read_records n (drop (end_at bytes start) bytes))
  unfolding read_records
  records_none n past = rw (← (no_bytes past).0, drop_of_length-le bytes past)

  records_short :
      (n : ℕ) → start < length bytes → length bytes - (start + 1) < get_or bytes start 0
      → read_records (suc n) (drop start bytes) ≡ behind (instruction_at bytes start) (read_records n (drop (end_at bytes start) bytes))
  unfolding read_records
  records_short n there short =
      rw (← (too_short there short).0, drop-cons bytes start 0 there)
      (front_short n (get_or bytes start 0) (drop (suc start) bytes) (omega (arith, length-drop (suc start) bytes)))

  records_whole :
      (n : ℕ) → start < length bytes → get_or bytes start 0 ≤ length bytes - (start + 1)
      → read_records (suc n) (drop start bytes) ≡ behind (instruction_at bytes start) (read_records n (drop (end_at bytes start) bytes))
  records_whole n there fits =
      let next : start + 1 + get_or bytes start 0 ≡ suc start + get_or bytes start 0 = omega arith in
      rw (
        ← (whole_record there fits).0,
        ← (whole_record there fits).1,
        drop-cons bytes start 0 there,
        next,
        add-one,
        ← drop-drop (get_or bytes start 0) (suc start) bytes,
      )
      (front_whole n (get_or bytes start 0) (drop (suc start) bytes) (omega (arith, length-drop (suc start) bytes)))

  pub records_at : (n : ℕ) → read_records (suc n) (drop start bytes) ≡ behind (instruction_at bytes start) (read_records n (drop (end_at bytes start) bytes))
  records_at n =
      ⊎_elim
      (λ there. ⊎_elim (records_short n there) (records_whole n there) (below_or_not (length bytes - (start + 1)) (get_or bytes start 0)))
      (records_none n)
      (below_or_not start (length bytes))

  -- behind the last record stands no byte
  pub records_end : read_records 0 (drop start bytes) ≡ pick (leb (length bytes) start) (some []) none
  records_end =
      ⊎_elim
      (λ there. rw (lt-leb (length bytes) start there, drop-cons bytes start 0 there) (left_over (get_or bytes start 0) (drop (suc start) bytes)))
      (λ past. rw (le-leb (length bytes) start past, drop_of_length-le bytes past) nothing_left_lem)
      (below_or_not start (length bytes))
