-- What holds at each turn of the loops of `text::put_words`.
use Prim.Native.Nat.{ℕ}
use lib.ListN.{length, drop}
use Rattle.text.proofs.Putting.{Putting}
use Rattle.text.proofs.put_words.Given as goal

abbrev pub invariant-loop-word : goal.invariant-loop-word
invariant-loop-word l = Putting (λ (k : ℕ). drop k l.words) (length l.words) l.fn.out l.at l.out l.behind l.word-index
