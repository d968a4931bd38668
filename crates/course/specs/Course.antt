-- The tables that the phases leave, one after the other: what they say of the block's pairs and units.
use Rattle.std.specs.Prelude.{◌≡◌, ℕ, List}
use Rattle.meaning.specs.declared.Statement.{Statement}
use Rattle.meaning.specs.Seeding.{seed}
use Rattle.meaning.specs.Extension.{extend}
use Rattle.meaning.specs.Combination.{combine}
use Rattle.meaning.specs.Choice.{scheduled_units}
use Rattle.pairs.specs.Admission.{tables, tables_of}
use Rattle.units.specs.Words.{InOrder}
use Rattle.units.specs.Waiting.{Waits}
use Rattle.course.specs.declared.Found.{Found}

-- the admitted pairs, the units that chains are cut into (with what each of them needs, which is not lent out), and the scheduled units
pub record Follows (ss : List Statement) (order next packs scheduled : List ℕ) (found : Found) : Type 0 where
  pub paired : tables order next found.pairs found.rights ≡ tables_of (extend ss (seed ss))
  pub direct : List ℕ
  pub needs : List ℕ
  pub waits : Waits direct (combine ss (extend ss (seed ss))) packs needs found.waiting
  pub in_order : InOrder (scheduled_units ss) scheduled found.units
