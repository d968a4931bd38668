-- The records of a list, one after the other: where each stands, what is left to say at each, and what is said when all are read.
use mathlib.Core.Path.{◌≡◌, refl, sym, ap, ◌∙◌}
use mathlib.Core.Bool.{Bool, true, false}
use mathlib.Core.List.{List, [], ◌++◌}
use Prim.Native.Nat.{ℕ, zero, suc, ◌+◌, ◌-◌, ◌≤◌, ◌<◌}
use native.Mathlib.Numerals.{add-one}
use native.Mathlib.Omega.{arith}
use lib.Dec.{eqb}
use lib.ListN.{get_or}
use borrow.Author.Tests.{eq-eqb, ne_eqb}
use Rattle.basics.specs.Choice.{pick}
use Rattle.basics.proofs.Counting.{more, none_left}
use Rattle.meaning.specs.declared.Statement.{Statement}
use Rattle.instructions.specs.Next.{instruction_at, end_at}
use Rattle.text.specs.Text.{no_line}
use Rattle.account_list.specs.Shown.{line_meant, lines_from, list_text}

-- where record i stands: the first behind the header
abbrev pub place_of : List ℕ → ℕ → ℕ
place_of bytes zero = 4
place_of bytes (suc i) = end_at bytes (place_of bytes i)

pub place_next : (bytes : List ℕ) (i : ℕ) → place_of bytes (i + 1) ≡ end_at bytes (place_of bytes i)
place_next bytes i = rw add-one

pub lines_more :
    (ss : List Statement) (bytes : List ℕ) (n start : ℕ)
    → lines_from ss bytes (suc n) start ≡ line_meant ss (instruction_at bytes start) ++ lines_from ss bytes n (end_at bytes start)
unfolding lines_from
lines_more ss bytes n start = refl

pub lines_end : (ss : List Statement) (bytes : List ℕ) (start : ℕ) → lines_from ss bytes 0 start ≡ []
unfolding lines_from
lines_end ss bytes start = refl

module _ (ss : List Statement) (bytes : List ℕ) (count : ℕ) where
  -- what is left to say at record i
  abbrev pub lines_left : ℕ → List ℕ
  lines_left i = lines_from ss bytes (count - i) (place_of bytes i)

  pub left_next : (i : ℕ) → i < count → lines_left i ≡ line_meant ss (instruction_at bytes (place_of bytes i)) ++ lines_left (i + 1)
  left_next i low =
      ap (λ (n : ℕ). lines_from ss bytes n (place_of bytes i)) (more count i low)
      ∙ lines_more ss bytes (count - (i + 1)) (place_of bytes i)
      ∙ ap (λ (start : ℕ). line_meant ss (instruction_at bytes (place_of bytes i)) ++ lines_from ss bytes (count - (i + 1)) start) (sym (place_next bytes i))

  pub left_none : (i : ℕ) → count ≤ i → lines_left i ≡ []
  left_none i past = ap (λ (n : ℕ). lines_from ss bytes n (place_of bytes i)) (none_left count i past) ∙ lines_end ss bytes (place_of bytes i)

  pub left_whole : lines_left 0 ≡ lines_from ss bytes count 4
  left_whole =
      let all-records : count - 0 ≡ count = omega arith in
      rw all-records

-- the section, by its count: no record, or so many
module _ (ss : List Statement) (bytes : List ℕ) (count : ℕ) (e : count ≡ get_or bytes 3 0) where
  by_count : (test : Bool) → eqb count 0 ≡ test → pick test no_line (lines_from ss bytes count 4) ≡ list_text ss bytes
  unfolding list_text
  by_count test h = rw (← e, h)

  pub none_listed : count ≡ 0 → no_line ≡ list_text ss bytes
  none_listed none = by_count true (eq-eqb count 0 none)

  pub some_listed : (count ≡ 0 → ⊥) → lines_from ss bytes count 4 ≡ list_text ss bytes
  some_listed some = by_count false (ne_eqb count 0 some)
