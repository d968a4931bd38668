-- `fits::all_well_formed` meets its contract: all statements that are declared are tried.
use Rattle.std.proofs.Common.{rules, tests, ◌∙◌, take}
use Rattle.std.proofs.lemmas.Iterator.{YieldsList-from_slice}
use Rattle.std.proofs.lemmas.Iterator.Search.{all_from_yields_List}
use Rattle.meaning.specs.Format.{well_formed}
use Rattle.writer.proofs.Alls.{same_all}
use Rattle.writer.proofs.fits.all_well_formed.Goals as goal

pub returns : goal.returns
returns c =
    let xs = take c.args.block.count c.args.block.statements in
    all_from_yields_List well_formed _ _ c.all.result c.all.ensures.ran (YieldsList-from_slice xs (search rules)) (λ x b q k. search (rules, tests))
    ∙ same_all well_formed xs
