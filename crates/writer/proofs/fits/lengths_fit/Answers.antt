-- `fits::lengths_fit` meets its contract: all lengths that are declared are tried.
use Rattle.std.proofs.Common.{rules, tests, ◌∙◌, take}
use Rattle.std.proofs.lemmas.Iterator.{YieldsList-from_slice}
use Rattle.std.proofs.lemmas.Iterator.Search.{all_from_yields_List}
use Rattle.meaning.specs.Format.{length_fits}
use Rattle.writer.proofs.Alls.{same_all}
use Rattle.writer.proofs.fits.lengths_fit.Goals as goal

pub returns : goal.returns
returns c =
    let xs = take c.args.block.arrays c.args.block.lengths in
    all_from_yields_List length_fits _ _ c.all.result c.all.ensures.ran (YieldsList-from_slice xs (search rules)) (λ x b q k. search (rules, tests))
    ∙ same_all length_fits xs
