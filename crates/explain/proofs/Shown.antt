-- What is printed in each case, and that the buffer is large enough for it: the bytes that are written are all of the text.
use mathlib.Core.Path.{◌≡◌}
use mathlib.Core.Bool.{true, false}
use mathlib.Core.List.{List, []}
use Prim.Native.Nat.{ℕ, ◌≤◌, ◌<◌}
use native.Mathlib.Omega.{arith}
use borrow.Author.Tests.{lt-ltb, le-ltb}
use lib.Dec.{eqb, ltb}
use lib.ListN.{length, get_or, take}
use Rattle.basics.specs.Lists.{all}
use Rattle.theorems.proofs.Bytes.{is_byte}
use Rattle.maker.proofs.Answers.{are_bytes}
use Rattle.text.specs.Puts.{Puts}
use Rattle.text.proofs.Putting.{reads_as, both, nothing, within, front}
use Rattle.account.specs.Account.{explained}
use Rattle.account_lengths.proofs.Short.{Short, said, ◌then◌, at_most, either}
use Rattle.account_lengths.proofs.Account.{account}
use Rattle.explain.specs.Printed.{too_many_bytes, usage, printed}

printed_short : (input : List ℕ) → all is_byte input ≡ true → Short (printed input) 60000
unfolding printed
printed_short input are =
    either (ltb 4096 (length input)) (at_most 60000 (said too_many_bytes) (omega arith))
    (at_most 60000 (account input are then either (eqb (length input) 0) (said usage) (at_most (length usage) (said []) (omega arith)))
    (omega arith))

-- all of the text stands in the first bytes of the buffer
abbrev Shown : List ℕ → List ℕ → ℕ → Type 0
Shown input after behind = (take behind after ≡ printed input) × (behind ≤ length after)

module _ (input before : List ℕ) {after : List ℕ} {behind : ℕ} (known : (i : ℕ) → get_or input i 0 < 256) (room : 60000 ≤ length before) where
  shown : Puts (printed input) before 0 after behind → Shown input after behind
  shown puts = (front puts (omega (arith, (printed_short input (are_bytes input known)).short, room)), within puts (omega arith))

  -- input of too many bytes
  pub too_many : 4096 < length input → Puts too_many_bytes before 0 after behind → Shown input after behind
  unfolding printed
  too_many many puts = shown (reads_as puts (rw (lt-ltb 4096 (length input) many)))

  -- no input, and how the program is used
  pub no_input :
      {middle : List ℕ} {between : ℕ}
      → length input ≤ 4096
      → eqb (length input) 0 ≡ true
      → Puts (explained input) before 0 middle between
      → Puts usage middle between after behind
      → Shown input after behind
  unfolding printed
  no_input few none puts more = shown (reads_as (both puts more) (rw (le-ltb 4096 (length input) few, none)))

  -- all other input
  pub some_input :
      length input ≤ 4096
      → eqb (length input) 0 ≡ false
      → Puts (explained input) before 0 after behind
      → Shown input after behind
  unfolding printed
  some_input few some puts =
      shown (reads_as (both puts (nothing after behind)) (rw (le-ltb 4096 (length input) few, some)))
