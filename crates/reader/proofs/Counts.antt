-- "header counts (3)": what the test of the counts says of each of them.
use mathlib.Core.Path.{◌≡◌}
use mathlib.Core.Bool.{true, ◌&&◌}
use Prim.Native.Nat.{ℕ, ◌≤◌}
use lib.Dec.{leb}
use borrow.Author.Tests.{leb-true}
use Rattle.basics.proofs.Tests.{and_left, and_right}
use Rattle.meaning.specs.Format.{counts_fit}

pub arrays_within : (v l a s : ℕ) → counts_fit v l a s ≡ true → a ≤ 8
arrays_within v l a s e =
    leb-true a 8 (and_right (leb v 32 && leb l v) (leb a 8) (and_left (leb v 32 && leb l v && leb a 8) (leb s 64) e))

pub statements_within : (v l a s : ℕ) → counts_fit v l a s ≡ true → s ≤ 64
statements_within v l a s e = leb-true s 64 (and_right (leb v 32 && leb l v && leb a 8) (leb s 64) e)
