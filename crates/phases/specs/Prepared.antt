-- What tables say that the phases may ask of: five lists beside a block that was read, and the same of a block's statements and its tables
-- as one struct.
use Rattle.std.specs.Prelude.{◌≡◌, ◌≤◌, true, ℕ, List, length}
use Rattle.basics.specs.Lists.{all}
use Rattle.meaning.specs.declared.Statement.{Statement}
use Rattle.meaning.specs.Block.{Block}
use Rattle.codes.specs.Fitting.{statement_fits}
use Rattle.facts.specs.declared.Tables.{Tables}
use Rattle.facts.specs.Tied.{Stated, Named}
use Rattle.reach.specs.Tied.{Defined}
use Rattle.choice.specs.Promises.{Legal}

pub record Prepared (b : Block) (facts numbers writers lefts rights : List ℕ) : Type 0 where
  pub legal : Legal b
  pub stated : Stated b.statements facts
  pub defined : Defined b.statements facts
  pub named : Named b.statements numbers writers lefts rights

pub record TablesPrepared (ss : List Statement) (t : Tables) : Type 0 where
  pub few : length ss ≤ 64
  pub fit : all statement_fits ss ≡ true
  pub stated : Stated ss t.facts
  pub defined : Defined ss t.facts
  pub named : Named ss t.numbers t.writers t.lefts t.rights
