-- `sections::put_units` meets its contract: its parts, one behind the other.
use mathlib.Core.Path.{ap₂}
use Rattle.basics.proofs.Mapped.{unmapped}
use Rattle.text.proofs.Putting.{reads_as, both}
use Rattle.meaning.specs.Block.{declared}
use Rattle.maker.proofs.Answers.{declared_count}
use Rattle.account.specs.Prices.{choice_line}
use Rattle.account.proofs.OfBlock.{pairing_of_block, packing_of_block}
use borrow.Author.Rules.{rules}
use Rattle.account.proofs.sections.put_units.Goals as goal

pub returns : goal.returns
returns c =
    let ss = (declared c.args.block).statements in
    let counted = declared_count c.args.block _ c.at_most-n.ensures (search (rules, unmapped)) in
    both
    (both
    (reads_as c.put_pairing-behind_pairing.ensures (pairing_of_block ss c.requires.readable.count _ _ _ _ _ c.follow-followed.ensures.follows _ counted))
    (reads_as c.put_packing-behind_packing.ensures (packing_of_block ss c.requires.readable.count _ _ _ _ _ c.follow-followed.ensures.follows)))
    (reads_as c.put_choice.ensures (ap₂ choice_line c.block_price-price.ensures c.follow-followed.ensures.price_value))
