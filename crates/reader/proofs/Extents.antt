-- How much is read: as many lengths and statements as the counts say, the lengths from two bytes each.
use Rattle.std.specs.Prelude.{Option, Some, None}
use mathlib.Core.Path.{◌≡◌, refl, ap, ◌∙◌}
use mathlib.Core.Bool.{Bool, true, false}
use mathlib.Core.List.{List, [], ◌∷◌}
use Prim.Native.Nat.{ℕ, zero, suc, ◌+◌, ◌≤◌}
use native.Mathlib.Omega.{arith}
use lib.Dec.{leb}
use lib.ListN.{length, take, drop, length-drop}
use lib.Seq.{drop-drop}
use borrow.Author.Tests.{leb-true}
use Rattle.meaning.specs.declared.Statement.{Statement}
use Rattle.meaning.specs.Numbers.{refused, done}
use Rattle.meaning.specs.Block.{declares_statement}
use Rattle.meaning.specs.Format.{Rest, number, length_fits, in_front, read_record, read_lengths, read_statements}

abbrev pub LengthsExtent : ℕ → List ℕ → Rest (List ℕ) → Type 0
LengthsExtent n bytes (refused number) = Unit {0}
LengthsExtent n bytes (done read) = (length read.0 ≡ n) × (read.1 ≡ drop (n + n) bytes) × (n + n ≤ length bytes)

one_more :
    (n x : ℕ) (bytes : List ℕ) (rest : Rest (List ℕ)) → 2 ≤ length bytes → LengthsExtent n (drop 2 bytes) rest
    → LengthsExtent (suc n) bytes (in_front x rest)
one_more n x bytes (refused number) two extent = tt
one_more n x bytes (done read) two extent =
    let further : 2 + (n + n) ≡ suc n + suc n = omega arith in
    (ap suc extent.0, extent.1 ∙ rw (drop-drop, further), omega (arith, extent.2, length-drop 2 bytes))

length_by_length :
    (a b : Bool) (n x : ℕ) (bytes : List ℕ) (rest : Rest (List ℕ)) → leb 2 (length bytes) ≡ a → LengthsExtent n (drop 2 bytes) rest
    → LengthsExtent (suc n) bytes (elim a [ false ↦ refused 4 | true ↦ elim b [ false ↦ refused 3 | true ↦ in_front x rest ] ])
length_by_length true true n x bytes rest e extent = one_more n x bytes rest (leb-true 2 (length bytes) e) extent
length_by_length true false n x bytes rest e extent = tt
length_by_length false b n x bytes rest e extent = tt

pub lengths_extent : (n : ℕ) (bytes : List ℕ) → LengthsExtent n bytes (read_lengths n bytes)
unfolding read_lengths
lengths_extent zero bytes = (refl, refl, omega arith)
lengths_extent (suc n) bytes =
    length_by_length (leb 2 (length bytes)) (length_fits (number (take 2 bytes))) n (number (take 2 bytes)) bytes
    (read_lengths n (drop 2 bytes)) refl (lengths_extent n (drop 2 bytes))

abbrev pub StatementsExtent : ℕ → Rest (List Statement) → Type 0
StatementsExtent n (refused number) = Unit {0}
StatementsExtent n (done read) = length read.0 ≡ n

one_statement : (n : ℕ) (s : Statement) (rest : Rest (List Statement)) → StatementsExtent n rest → StatementsExtent (suc n) (in_front s rest)
one_statement n s (refused number) extent = tt
one_statement n s (done read) extent = ap suc extent

declared_or_not :
    (a : Bool) (n : ℕ) (s : Statement) (rest : Rest (List Statement)) → StatementsExtent n rest
    → StatementsExtent (suc n) (elim a [ false ↦ refused 5 | true ↦ in_front s rest ])
declared_or_not true n s rest extent = one_statement n s rest extent
declared_or_not false n s rest extent = tt

record_by_record :
    (a : Bool) (found : Option Statement) (n variables : ℕ) (sizes : List ℕ) (rest : Rest (List Statement)) → StatementsExtent n rest
    → StatementsExtent (suc n)
    (elim a [
      | false ↦ refused 4
      | true ↦
          elim found [
            | None ↦ refused 4
            | Some s ↦ elim (declares_statement variables sizes s) [ false ↦ refused 5 | true ↦ in_front s rest ]
          ]
    ])
record_by_record true None n variables sizes rest extent = tt
record_by_record true (Some s) n variables sizes rest extent = declared_or_not (declares_statement variables sizes s) n s rest extent
record_by_record false found n variables sizes rest extent = tt

pub statements_extent :
    (n variables : ℕ) (sizes bytes : List ℕ) → StatementsExtent n (read_statements n variables sizes bytes)
unfolding read_statements
statements_extent zero variables sizes bytes = refl
statements_extent (suc n) variables sizes [] = tt
statements_extent (suc n) variables sizes (size ∷ bytes) =
    record_by_record (leb size (length bytes)) (read_record (take size bytes)) n variables sizes
    (read_statements n variables sizes (drop size bytes)) (statements_extent n variables sizes (drop size bytes))
