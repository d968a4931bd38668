-- `put::put_block` meets its contract: the counts, the lengths and the statements, one stored behind the other.
use mathlib.Core.Path.{◌≡◌, refl, ◌∙◌}
use mathlib.Core.List.{[], ◌∷◌}
use native.Mathlib.Omega.{arith}
use borrow.Author.Rules.{rules}
use lib.ListN.{length}
use lib.Seq.{sets, length-sets}
use Rattle.std.proofs.lemmas.List.{same_lists}
use Rattle.writer.proofs.Part.{part_stored}
use Rattle.table.proofs.Rows.{block_stored}
use Rattle.table.proofs.put.put_block.Goals as goal

pub returns : goal.returns
returns c =
    let b = c.args.block in
    let eight : length b.lengths ≡ 8 = search rules in
    let counts = b.variables ∷ b.live ∷ b.arrays ∷ b.count ∷ [] in
    let counted : c.copy_from_slice.new.self ≡ counts = c.copy_from_slice.ensures.after ∙ rw (c.from.ensures, c.from-2.ensures, c.from-3.ensures, c.from-4.ensures) in
    let widened : c.copy_from_slice-2.new.self ≡ b.lengths = c.copy_from_slice-2.ensures.after ∙ same_lists _ _ (omega (arith, c.map.ensures.items.long)) (λ k d h. let called = (c.map.ensures.items.at k d d (omega (arith, c.map.ensures.items.long))).2 in search rules) in
    let one = part_stored c.args.table.now counts 0 4 counted refl (omega (arith, c.requires)) in
    let two = part_stored (sets c.args.table.now 0 counts) b.lengths 4 12 widened (omega arith) (omega (arith, c.requires, length-sets c.args.table.now 0 counts)) in
    c.put_statements.ensures ∙ rw (one, two) (block_stored b c.args.table.now eight)
