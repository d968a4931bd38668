-- The tables that are filled one after the other say what the phases ask.
use mathlib.Core.Path.{◌≡◌, refl, sym, subst}
use Prim.Native.Nat.{◌≤◌}
use mathlib.Core.Bool.{true}
use mathlib.Core.List.{List}
use lib.ListN.{length}
use lib.Seq.{take-length}
use Rattle.basics.specs.Lists.{all}
use Rattle.meaning.specs.declared.Statement.{Statement}
use Rattle.codes.specs.Fitting.{statement_fits}
use Rattle.facts.specs.declared.Tables.{Tables}
use Rattle.facts.specs.Filled.{no_tables}
use Rattle.reach.specs.Rows.{filled_tables}
use Rattle.phases.specs.Prepared.{TablesPrepared}
use Rattle.phases.proofs.Tables.{tables_prepared}

module _ (ss : List Statement) (few : length ss ≤ 64) (fit : all statement_fits ss ≡ true) where
  from_nothing : TablesPrepared ss (filled_tables ss no_tables)
  from_nothing = tables_prepared ss few fit ss (length ss) refl (take-length ss) _ _ _ _ _ _ refl refl refl refl refl refl

  pub filled_prepared : (before after : Tables) → before ≡ no_tables → after ≡ filled_tables ss before → TablesPrepared ss after
  filled_prepared before after e filled =
      subst (TablesPrepared ss) (sym filled) (subst (λ (t : Tables). TablesPrepared ss (filled_tables ss t)) (sym e) from_nothing)
