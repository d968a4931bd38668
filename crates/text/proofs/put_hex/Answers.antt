-- `put_hex` meets its contract: each turn puts the two letters of the next byte.
use Rattle.text.proofs.Putting.{start, next, finish}
use Rattle.text.proofs.Spelling.{hex_from, hex_next, hex_none}
use Rattle.text.proofs.put_hex.Goals as goal

pub loop-byte-init : goal.loop-byte-init
loop-byte-init c = start (hex_from c.args.bytes.now)

pub loop-byte-preserved : goal.loop-byte-preserved
loop-byte-preserved c =
    let bytes = c.args.bytes.now in
    let more = c.loop-byte-test.true in
    next (hex_from bytes) c.loop-byte.invariant more (hex_next bytes c.loop-byte.byte-index more) c.put_pair-behind.ensures

pub returns : goal.returns
returns c =
    let bytes = c.args.bytes.now in
    finish (hex_from bytes) c.loop-byte.invariant (hex_none bytes c.loop-byte.byte-index c.loop-byte-test.false)
