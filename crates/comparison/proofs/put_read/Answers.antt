-- `put_read` meets its contract: the lengths that are lent are those that the block declares.
use mathlib.Core.Path.{◌≡◌, ◌∙◌, ap}
use mathlib.Core.List.{List}
use Prim.Native.Nat.{ℕ, min}
use native.Mathlib.Omega.{arith}
use lib.ListN.{length, take, length-take}
use Rattle.basics.proofs.Lists.{take_least}
use Rattle.basics.proofs.Mapped.{unmapped}
use Rattle.text.proofs.Putting.{reads_as}
use Rattle.comparison.specs.Compared.{sized_text}
use Rattle.comparison.proofs.Parts.{within_limits}
use borrow.Author.Rules.{rules}
use Rattle.comparison.proofs.put_read.Goals as goal

pub slice_bounds-put_sized-end : goal.slice_bounds-put_sized-end
slice_bounds-put_sized-end c =
    let slots : length c.args.block.lengths ≡ 8 = search (rules, unmapped) in
    omega (arith, slots, c.at_most-arrays.ensures, length-take c.at_most-arrays.result c.args.block.lengths)

pub put_sized-requires : goal.put_sized-requires
put_sized-requires c =
    let slots : length c.args.block.lengths ≡ 8 = search (rules, unmapped) in
    let arrays : c.at_most-arrays.result ≡ min c.args.block.arrays (length c.args.block.lengths) = omega (arith, slots, c.at_most-arrays.ensures) in
    let same : take c.at_most-arrays.result c.args.block.lengths ≡ take c.args.block.arrays c.args.block.lengths =
    ap (λ (n : ℕ). take n c.args.block.lengths) arrays ∙ take_least c.args.block.arrays c.args.block.lengths in
    let limits = within_limits c.args.bytes.now c.args.block (take c.at_most-arrays.result c.args.block.lengths) c.requires same in
    record { few_arrays = limits.0; lengths_fit = limits.1.0; few_variables = limits.1.1 }

pub returns : goal.returns
returns c =
    let slots : length c.args.block.lengths ≡ 8 = search (rules, unmapped) in
    let arrays : c.at_most-arrays.result ≡ min c.args.block.arrays (length c.args.block.lengths) = omega (arith, slots, c.at_most-arrays.ensures) in
    let same : take c.at_most-arrays.result c.args.block.lengths ≡ take c.args.block.arrays c.args.block.lengths =
    ap (λ (n : ℕ). take n c.args.block.lengths) arrays ∙ take_least c.args.block.arrays c.args.block.lengths in
    reads_as c.put_sized.ensures (ap (λ (lengths : List ℕ). sized_text c.args.bytes.now lengths c.args.block.variables c.args.block.live c.args.rest.now) same)
