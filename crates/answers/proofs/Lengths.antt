-- How long the lines and sentences are at most, so that the buffers are large enough.
use mathlib.Core.Path.{◌≡◌, refl}
use mathlib.Core.Bool.{Bool, true, false}
use mathlib.Core.List.{List, [], ◌∷◌, ◌++◌}
use Prim.Native.Nat.{ℕ, ◌+◌, ◌≤◌}
use native.Mathlib.Omega.{arith}
use borrow.Author.Tests.{leb-true}
use lib.Dec.{eqb, ltb}
use lib.ListN.{length, take, length-append, length-take}
use Rattle.basics.specs.Choice.{pick}
use Rattle.text.specs.Text.{words, decimal, field, hex}
use Rattle.text.proofs.Spelling.{length_decimal, length_hex}
use Rattle.meaning.specs.Calls.{ListMade}
use Rattle.answers.specs.Lines.{space, line_feed, first_line, second_line, list_lines}
use Rattle.answers.specs.Sentences.{other_version, other_length, over_limit, broken_record, not_declared, no_room, sentence, refusal, too_many_bytes, usage, complaint}

pub length_field : (n end : ℕ) → length (field n end) ≤ 21
length_field n end =
    let e : length (field n end) ≡ length (decimal n) + 1 = length-append (decimal n) (end ∷ []) in
    omega (arith, length_decimal n)

pub length_first : (status size block_cost list_cost : ℕ) → length (first_line status size block_cost list_cost) ≤ 84
length_first status size block_cost list_cost =
    let one = field status space in
    let two = field size space in
    let three = field block_cost space in
    let four = field list_cost line_feed in
    let e : length (first_line status size block_cost list_cost) ≡ length (one ++ two ++ three) + length four =
    length-append (one ++ two ++ three) four in
    omega (
      arith,
      length-append (one ++ two) three,
      length-append one two,
      length_field status space,
      length_field size space,
      length_field block_cost space,
      length_field list_cost line_feed,
    )

pub length_second : (size : ℕ) (room : List ℕ) → length room ≤ 4096 → length (second_line size room) ≤ 8193
length_second size room small =
    let e : length (second_line size room) ≡ length (hex (take size room)) + 1 = length-append (hex (take size room)) (line_feed ∷ []) in
    omega (arith, length_hex (take size room), length-take size room)

either_short : (test : Bool) (xs ys : List ℕ) (most : ℕ) → length xs ≤ most → length ys ≤ most → length (pick test xs ys) ≤ most
either_short true xs ys most first second = first
either_short false xs ys most first second = second

pub length_lines : (made : ListMade) → length made.room ≤ 4096 → length (list_lines made) ≤ 8277
unfolding list_lines
length_lines made small =
    let first = first_line made.status made.size made.block_cost made.list_cost in
    let second = second_line made.size made.room in
    let one = length_first made.status made.size made.block_cost made.list_cost in
    let two = length_second made.size made.room small in
    either_short (eqb made.status 0) (first ++ second) first 8277 (omega (arith, length-append first second, one, two)) (omega (arith, one))

pub length_sentence : (number : ℕ) → length (sentence number) ≤ 170
unfolding sentence
length_sentence number =
    let five = either_short (eqb number 7) no_room [] 170 (leb-true (length no_room) 170 refl) (leb-true 0 170 refl) in
    let four = either_short (eqb number 5) not_declared _ 170 (leb-true (length not_declared) 170 refl) five in
    let three = either_short (eqb number 4) broken_record _ 170 (leb-true (length broken_record) 170 refl) four in
    let two = either_short (eqb number 3) over_limit _ 170 (leb-true (length over_limit) 170 refl) three in
    let one = either_short (eqb number 2) other_length _ 170 (leb-true (length other_length) 170 refl) two in
    either_short (eqb number 1) other_version _ 170 (leb-true (length other_version) 170 refl) one

pub length_refusal : (number : ℕ) → length (refusal number) ≤ 300
unfolding refusal
length_refusal number =
    let said = words "refused with " in
    let colon = words ": " in
    let listed = words "The numbers are listed in docs/PROMISES.md under \"Numbers returned\".\n" in
    omega (
      arith,
      length-append (said ++ decimal number ++ colon ++ sentence number) listed,
      length-append (said ++ decimal number ++ colon) (sentence number),
      length-append (said ++ decimal number) colon,
      length-append said (decimal number),
      length_decimal number,
      length_sentence number,
    )

pub length_complaint : (number given : ℕ) → length (complaint number given) ≤ 300
unfolding complaint
length_complaint number given =
    let more = either_short (eqb given 0) usage [] 125 (leb-true (length usage) 125 refl) (leb-true 0 125 refl) in
    either_short (ltb 4096 given) too_many_bytes _ 300 (leb-true (length too_many_bytes) 300 refl)
    (omega (arith, length-append (sentence number) (pick (eqb given 0) usage []), length_sentence number, more))
