-- What the rows and the columns of definitions say of the statements. The phases rest on this, and not on how they are filled.
use Rattle.std.specs.Prelude.{◌≡◌, ℕ, ◌<◌, ◌&&◌, List, ltb, length, get_or}
use Rattle.std.proofs.Math.Option.{Option, none, some}
use Rattle.basics.specs.Sets.{nobody, has}
use Rattle.meaning.specs.declared.Statement.{Statement}
use Rattle.meaning.specs.Block.{statement}
use Rattle.meaning.specs.Dependence.{depends_on, reachability}
use Rattle.meaning.specs.Estimate.{definition}
use Rattle.meaning.specs.Extension.{reads_result}
use Rattle.facts.specs.Facts.{fact_at}

-- a statement's number, 64 where there is none
abbrev pub number_of : Option ℕ → ℕ
number_of none = 64
number_of (some s) = s

-- what each statement depends on, and all that paths lead to from it
pub record Rowed (ss : List Statement) (direct reached : List ℕ) : Type 0 where
  pub depends : (later earlier : ℕ) → has (get_or direct later 0) earlier ≡ depends_on ss later earlier
  pub reaching : (s : ℕ) → s < length ss → get_or reached s 0 ≡ get_or (reachability ss) s nobody

-- last definitions, and the readers of each statement's result
pub record Defined (ss : List Statement) (facts : List ℕ) : Type 0 where
  pub lefts : (s : ℕ) → s < length ss → fact_at facts 320 s ≡ number_of (definition ss s (statement ss s).left)
  pub rights : (s : ℕ) → s < length ss → fact_at facts 384 s ≡ number_of (definition ss s (statement ss s).right)
  pub readers : (s t : ℕ) → s < length ss → has (fact_at facts 448 s) t ≡ ltb t (length ss) && reads_result ss s t
