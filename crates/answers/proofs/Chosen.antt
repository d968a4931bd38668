-- Which lines and which sentence the tests of the code choose.
use mathlib.Core.Path.{◌≡◌, sym}
use mathlib.Core.List.{List, ◌++◌, append-nil}
use Prim.Native.Nat.{ℕ, ◌≤◌, ◌<◌}
use borrow.Author.Tests.{lt-ltb, le-ltb, eq-eqb, ne_eqb}
use lib.ListN.{length}
use Rattle.meaning.specs.Calls.{ListMade, make_list_call}
use Rattle.answers.specs.Lines.{first_line, second_line, list_lines, overlong, made_of}
use Rattle.answers.specs.Sentences.{sentence, too_many_bytes, usage, complaint}

module _ (made : ListMade) where
  pub two_lines :
      made.status ≡ 0
      → first_line made.status made.size made.block_cost made.list_cost ++ second_line made.size made.room ≡ list_lines made
  unfolding list_lines
  two_lines done = rw (eq-eqb made.status 0 done)

  pub one_line :
      (made.status ≡ 0 → ⊥) → first_line made.status made.size made.block_cost made.list_cost ≡ list_lines made
  unfolding list_lines
  one_line refused = rw (ne_eqb made.status 0 refused)

-- what is made of the input: a refusal where it has over 4,096 bytes
module _ (input room : List ℕ) where
  pub over : 4096 < length input → overlong room ≡ made_of input room
  over long = rw (lt-ltb 4096 (length input) long)

  pub not_over : length input ≤ 4096 → make_list_call input room ≡ made_of input room
  not_over fits = rw (le-ltb 4096 (length input) fits)

module _ (number given : ℕ) where
  pub too_long_lem : 4096 < given → too_many_bytes ≡ complaint number given
  unfolding complaint
  too_long_lem over = rw (lt-ltb 4096 given over)

  pub with_usage : given ≤ 4096 → given ≡ 0 → sentence number ++ usage ≡ complaint number given
  unfolding complaint
  with_usage fits none = rw (le-ltb 4096 given fits, eq-eqb given 0 none)

  pub sentence_alone : given ≤ 4096 → (given ≡ 0 → ⊥) → sentence number ≡ complaint number given
  unfolding complaint
  sentence_alone fits some = rw (le-ltb 4096 given fits, ne_eqb given 0 some) (sym (append-nil (sentence number)))
