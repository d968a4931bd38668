-- `choice::choose` meets its contract.
use Rattle.choice.proofs.Chosen.{packed_holds, plain_instead}
use Rattle.choice.proofs.choose.Goals as goal

pub returns-then-packed-price : goal.returns-then-packed-price
returns-then-packed-price c =
    packed_holds _ _ _ _ _ c.requires.holds c.requires.priced c.if-packed-price.true

pub returns : goal.returns
returns c =
    plain_instead _ _ _ _ _ _ c.args.packed _ c.requires.legal c.requires.counted c.requires.stated c.requires.room
    c.requires.holds c.requires.priced c.if-packed-price.false c.write_plain.ensures
