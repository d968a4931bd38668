-- One turn of each loop, by what the code tests: the next array length, and the next statement.
use Rattle.std.specs.Prelude.{Some, None, slice_range}
use mathlib.Core.Logic.{◌⊎◌, inl, inr}
use mathlib.Core.Path.{◌≡◌, ◌∙◌}
use mathlib.Core.List.{List}
use Prim.Native.Nat.{ℕ, suc, ◌+◌, ◌*◌, ◌-◌, ◌≤◌, ◌<◌}
use native.Mathlib.Nat.{add-zero}
use native.Mathlib.Numerals.{add-one}
use native.Mathlib.Omega.{arith}
use lib.ListN.{length, get_or, take, drop, length-drop, drop_of_length-le}
use lib.Seq.{drop-cons, get_or-drop}
use borrow.Author.Tests.{le-leb, lt-leb}
use Rattle.meaning.specs.declared.Statement.{Statement}
use Rattle.meaning.specs.Numbers.{refused, done, demand}
use Rattle.meaning.specs.Block.{declares_statement}
use Rattle.meaning.specs.Format.{number, length_fits, read_record}
use Rattle.reader.specs.Next.{next_length, record_next, next_statement}
use Rattle.reader.proofs.Numbers.{number_two}

module _ (bytes : List ℕ) (start : ℕ) where
  -- the two bytes at a place, as a number
  pub two_at : start + 2 ≤ length bytes → number (take 2 (drop start bytes)) ≡ get_or bytes start 0 * 256 + get_or bytes (start + 1) 0
  two_at h =
      number_two (drop start bytes) (omega (arith, length-drop start bytes))
      ∙ rw (get_or-drop start bytes 0 0, get_or-drop start bytes 1 0, add-zero)

  pub length_ends : length bytes < start + 2 → next_length (drop start bytes) ≡ refused 4
  unfolding next_length
  length_ends h = rw (lt-leb 2 (length (drop start bytes)) (omega (arith, length-drop start bytes)))

module _ (bytes : List ℕ) (start size : ℕ) (there : start + 2 ≤ length bytes) (e : size ≡ get_or bytes start 0 * 256 + get_or bytes (start + 1) 0) where
  pub said : next_length (drop start bytes) ≡ demand (length_fits size) 3 (done size)
  unfolding next_length
  said = rw (le-leb 2 (length (drop start bytes)) (omega (arith, length-drop start bytes)), two_at bytes start there, e)

module _ (variables : ℕ) (lengths bytes : List ℕ) (start : ℕ) where
  pub no_record_left : length bytes ≤ start → next_statement variables lengths start (drop start bytes) ≡ refused 4
  unfolding next_statement
  no_record_left h = rw (drop_of_length-le bytes h)

  pub record_ends :
      (size : ℕ) → start < length bytes → size ≡ get_or bytes start 0 → (start + 1 + size < start + 1) ⊎ (length bytes < start + 1 + size)
      → next_statement variables lengths start (drop start bytes) ≡ refused 4
  unfolding next_statement
  record_ends size there e (inl low) = absurd (omega arith)
  record_ends size there e (inr past) =
      rw (drop-cons bytes start 0 there, lt-leb (get_or bytes start 0) (length (drop (suc start) bytes)) (omega (arith, length-drop (suc start) bytes, e)))

module _ (variables : ℕ) (lengths bytes : List ℕ) (start size : ℕ) (there : start < length bytes) (e : size ≡ get_or bytes start 0) where
  part : take (start + 1 + size - (start + 1)) (drop (start + 1) bytes) ≡ take (get_or bytes start 0) (drop (suc start) bytes)
  part =
      let n : start + 1 + size - (start + 1) ≡ get_or bytes start 0 = omega arith in
      rw (n, add-one)

  module _ (record_bytes : List ℕ) (fits : start + 1 + size ≤ length bytes) (is : record_bytes ≡ slice_range bytes (start + 1) (start + 1 + size)) where
    cut :
        next_statement variables lengths start (drop start bytes)
        ≡ record_next variables lengths (start + 1 + size) (read_record record_bytes)
    unfolding next_statement
    cut =
        rw (
          is,
          part,
          drop-cons bytes start 0 there,
          le-leb (get_or bytes start 0) (length (drop (suc start) bytes)) (omega (arith, length-drop (suc start) bytes)),
          e,
        )

    pub record_broken : read_record record_bytes ≡ None → next_statement variables lengths start (drop start bytes) ≡ refused 4
    record_broken broken = cut ∙ rw broken

    pub record_whole :
        (s : Statement) → read_record record_bytes ≡ Some s
        → next_statement variables lengths start (drop start bytes)
        ≡ demand (declares_statement variables lengths s) 5 (done (s, start + 1 + size))
    record_whole s whole = cut ∙ rw whole
