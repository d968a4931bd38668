-- The list that is chosen: it is within the rules, it never costs more than its block, and less exactly where it has a vector instruction.
use mathlib.Core.Path.{◌≡◌}
use mathlib.Core.Bool.{true}
use native.Mathlib.Omega.{arith}
use lib.Dec.{ltb}
use borrow.Author.Tests.{ltb-true}
use Rattle.basics.specs.Lists.{all}
use Rattle.basics.proofs.Parts.{pick_holds}
use Rattle.meaning.specs.Block.{Block, block_price}
use Rattle.meaning.specs.List.{list_price}
use Rattle.meaning.specs.Emission.{emission}
use Rattle.meaning.specs.Choice.{scheduled_units, packed_list, plain_list, chosen_list}
use Rattle.theorems.specs.Units.{Units}
use Rattle.theorems.proofs.Records.{constants_fit}
use Rattle.theorems.proofs.Readable.{Readable}
use Rattle.theorems.proofs.Prices.{Priced, packed_priced, plain_priced}
use Rattle.theorems.proofs.Lawful.{Lawful, lawful_from, end, size, packed_registers, plain_lawful}

-- the packed list is within the rules
pub packed_lawful : (b : Block) → Readable b → all constants_fit b.statements ≡ true → Units b.statements (scheduled_units b.statements) → Lawful b (packed_list b)
unfolding packed_list emission
packed_lawful b readable constants u =
    let ends = end b readable constants u in
    lawful_from b (packed_list b) readable (ends.list (packed_registers b readable constants u)) (omega (arith, ends.short, size b readable constants u)) ends.fit

-- and so is the list that is chosen;
pub chosen_lawful : (b : Block) → Readable b → all constants_fit b.statements ≡ true → Units b.statements (scheduled_units b.statements) → Lawful b (chosen_list b)
unfolding chosen_list
chosen_lawful b readable constants u =
    pick_holds (Lawful b) (ltb (list_price b.statements (packed_list b)) (block_price b.statements)) (packed_list b) (plain_list b)
    (λ below. packed_lawful b readable constants u) (λ above. plain_lawful b readable)

-- and its price.
pub chosen_priced : (b : Block) → Units b.statements (scheduled_units b.statements) → Priced b (chosen_list b)
unfolding chosen_list
chosen_priced b u =
    pick_holds (Priced b) (ltb (list_price b.statements (packed_list b)) (block_price b.statements)) (packed_list b) (plain_list b)
    (λ below. packed_priced b u (ltb-true _ _ below)) (λ above. plain_priced b)
