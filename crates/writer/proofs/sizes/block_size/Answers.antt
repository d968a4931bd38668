-- `sizes::block_size` meets its contract: the widths of the records are summed.
use mathlib.Core.Path.{◌≡◌}
use native.Mathlib.Omega.{arith}
use borrow.Author.Rules.{rules}
use lib.ListN.{length, take, length-take}
use Rattle.std.specs.List.{sum_by}
use Rattle.std.proofs.Common.{tests}
use Rattle.std.proofs.lemmas.Iterator.{YieldsList-from_slice, YieldsList-from_map}
use Rattle.std.proofs.lemmas.Iterator.Consumers.{fits_by_from_yields_list, sum_by_from_yields_List}
use Rattle.writer.proofs.Whole.{width, widths, widths_few, block_size, records_of}
use Rattle.writer.proofs.sizes.block_size.Goals as goal

pub sum-records-requires-clause-fits : goal.sum-records-requires-clause-fits
sum-records-requires-clause-fits c =
    let ss = take c.from.result c.args.block.statements in
    fits_by_from_yields_list width ss c.map.result _
    (YieldsList-from_map _ width (YieldsList-from_slice ss (search rules)) c.map.ensures.closure (λ x r q k. search (rules, tests)))
    (omega (arith, widths_few ss, length-take c.from.result c.args.block.statements))

summed : (c : goal.After-from-2) → c.sum-records.result ≡ sum_by width (take c.from.result c.args.block.statements)
summed c =
    let ss = take c.from.result c.args.block.statements in
    sum_by_from_yields_List width ss c.map.result c.sum-records.result c.sum-records.ensures.ran
    (YieldsList-from_map _ width (YieldsList-from_slice ss (search rules)) c.map.ensures.closure (λ x r q k. search (rules, tests)))

pub overflow_add-result-2 : goal.overflow_add-result-2
overflow_add-result-2 c =
    record { fits = omega (arith, summed c, widths_few (take c.from.result c.args.block.statements), length-take c.from.result c.args.block.statements) }

pub returns : goal.returns
returns c =
    let b = c.args.block in
    let eight : length b.lengths ≡ 8 = search rules in
    let records : sum_by width (take c.from.result b.statements) ≡ length (records_of b) = rw c.from.ensures (widths (take b.count b.statements)) in
    omega (arith, summed c, block_size b (omega arith))
