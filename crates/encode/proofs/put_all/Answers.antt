-- `encode::put_all` meets its contract: the bytes that are left are still to be stored.
use Rattle.std.proofs.Common.{◌≡◌, ℕ, suc, ◌+◌, List, drop, sym, ap, ◌∙◌, arith}
use Rattle.std.proofs.lemmas.List.{at_drop_more, at_drop_all}
use lib.Seq.{sets}
use Rattle.encode.proofs.Encoding.{put_all_lem}
use Rattle.encode.proofs.put_all.Goals as goal

pub loop-i-preserved : goal.loop-i-preserved
loop-i-preserved c =
    let i = c.loop-i.i in
    let bytes = c.args.bytes.now in
    let behind : suc (c.args.place + i) ≡ c.args.place + (i + 1) = omega arith in
    c.loop-i.invariant
    ∙ at_drop_more (sets c.loop-i.out (c.args.place + i)) bytes i 0 c.loop-i-test.true
    ∙ ap (λ (out : List ℕ). sets out (suc (c.args.place + i)) (drop (i + 1) bytes)) (sym c.put.ensures)
    ∙ ap (λ (at : ℕ). sets c.put.new.slice at (drop (i + 1) bytes)) behind

pub returns : goal.returns
returns c =
    sym
    (put_all_lem c.args.out.now c.args.place c.args.bytes.now
    ∙ c.loop-i.invariant
    ∙ at_drop_all (sets c.loop-i.out (c.args.place + c.loop-i.i)) c.args.bytes.now c.loop-i.i c.loop-i-test.false)
