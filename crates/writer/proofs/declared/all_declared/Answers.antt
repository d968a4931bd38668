-- `declared::all_declared` meets its contract: all statements that are declared are tried.
use Rattle.std.proofs.Common.{rules, tests, ◌∙◌, take}
use Rattle.std.proofs.lemmas.Iterator.{YieldsList-from_slice}
use Rattle.std.proofs.lemmas.Iterator.Search.{all_from_yields_List}
use Rattle.meaning.specs.Block.{declares_statement}
use Rattle.writer.proofs.Alls.{same_all}
use Rattle.writer.proofs.declared.all_declared.Goals as goal

pub returns : goal.returns
returns c =
    let b = c.args.block in
    let xs = take b.count b.statements in
    all_from_yields_List (declares_statement b.variables (take b.arrays b.lengths)) _ _ c.all.result c.all.ensures.ran (YieldsList-from_slice xs (search rules)) (λ x t q k. search (rules, tests))
    ∙ same_all (declares_statement b.variables (take b.arrays b.lengths)) xs
