-- `put_words` meets its contract: each turn puts the next byte.
use Prim.Native.Nat.{ℕ}
use lib.ListN.{drop}
use Rattle.text.proofs.Putting.{start, next, finish, drop_next, drop_none}
use Rattle.text.proofs.put_words.Goals as goal

pub loop-word-init : goal.loop-word-init
loop-word-init c = start (λ (k : ℕ). drop k c.args.words.now)

pub loop-word-preserved : goal.loop-word-preserved
loop-word-preserved c =
    let words = c.args.words.now in
    let more = c.loop-word-test.true in
    next (λ (k : ℕ). drop k words) c.loop-word.invariant more (drop_next words c.loop-word.word-index more) c.put-behind.ensures

pub returns : goal.returns
returns c =
    let words = c.args.words.now in
    finish (λ (k : ℕ). drop k words) c.loop-word.invariant (drop_none words c.loop-word.word-index c.loop-word-test.false)
