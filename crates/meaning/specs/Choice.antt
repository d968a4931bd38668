-- "Choice": all phases one after the other, and the list that is the answer.
use Rattle.std.specs.Prelude.{ℕ, zero, suc, ◌+◌, List, [], ◌∷◌, ltb, length}
use Rattle.basics.specs.Choice.{pick}
use Rattle.meaning.specs.declared.Statement.{Statement}
use Rattle.meaning.specs.Block.{Block, block_price}
use Rattle.meaning.specs.List.{Instruction, S, list_price}
use Rattle.meaning.specs.Seeding.{seed}
use Rattle.meaning.specs.Extension.{extend}
use Rattle.meaning.specs.Combination.{combine}
use Rattle.meaning.specs.Schedule.{schedule}
use Rattle.meaning.specs.Emission.{emission}

-- the phases: seed, extend, combine, schedule, emit
unfoldable pub scheduled_units : List Statement → List (List ℕ)
scheduled_units ss = schedule ss (combine ss (extend ss (seed ss)))

unfoldable pub packed_list : Block → List Instruction
packed_list b = emission b.statements b.live (scheduled_units b.statements)

-- "S for every statement in block order"
abbrev pub plain_from : ℕ → ℕ → List Instruction
plain_from zero s = []
plain_from (suc n) s = S s ∷ plain_from n (s + 1)

unfoldable pub plain_list : Block → List Instruction
plain_list b = plain_from (length b.statements) 0

-- "This list is the answer if its price is below the block's; else S for every statement in block order."
unfoldable pub chosen_list : Block → List Instruction
chosen_list b = pick (ltb (list_price b.statements (packed_list b)) (block_price b.statements)) (packed_list b) (plain_list b)
