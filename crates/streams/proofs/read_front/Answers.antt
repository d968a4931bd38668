-- `streams::read_front` meets its contract: what a read puts behind the bytes in front is what the reader loses in it.
use Rattle.std.proofs.Common.{◌≡◌, ℕ, ◌+◌, ◌-◌, ◌≤◌, List, ◌++◌, arith, length, take, sym, ap, ◌∙◌, subst, le_refl, drop_at, length-take-le}
use Rattle.std.proofs.lemmas.Slice.{take-put_mid_below}
use Rattle.std.specs.Io.KnownBytes.{Consumes}
use Rattle.std.proofs.KnownBytes.{Consumes-trans}
use mathlib.Core.Path.{ap₂}
use borrow.Rule.Slice.PartMut.{put_mid, post_of}
use lib.Seq.{take-add, take-append-le}
use Rattle.streams.proofs.read_front.Goals as goal

-- the bytes in front, once n more stand behind the first f of them
more_in_front : (f k n : ℕ) (xs part : List ℕ) → f ≤ length xs → n ≤ length part → take f xs ++ take n part ≡ take (f + n) (put_mid f k xs part)
more_in_front f k n xs part within fits =
    let behind : List ℕ = post_of f k xs in
    let front : take f (put_mid f k xs part) ≡ take f xs = take-put_mid_below _ _ _ _ _ (le_refl _) within in
    let next = ap (take n) (drop_at (take f xs) (part ++ behind) f (length-take-le f xs within)) ∙ take-append-le n part behind fits in
    sym (take-add f n (put_mid f k xs part) ∙ ap₂ (λ a b. a ++ b) front next)

pub loop-filled-preserved : goal.loop-filled-preserved
loop-filled-preserved g c =
    let room = length c.loop-filled.buffer - c.loop-filled.filled in
    let joined = more_in_front c.loop-filled.filled room c.in_ok-n.n c.loop-filled.buffer c.read.new.buf c.loop-filled.invariant.0 c.in_ok-n.ensures.bound.0 in (
      omega (arith, c.in_ok-n.ensures.bound.0),
      subst (Consumes _ _) joined (Consumes-trans _ _ _ _ _ c.loop-filled.invariant.1 c.in_ok-n.ensures.bytes.0),
    )
