-- The columns of a block in memory: the first n of its slots are its statements.
use mathlib.Core.Path.{◌≡◌, refl, subst}
use mathlib.Core.Bool.{true}
use mathlib.Core.List.{List}
use Prim.Native.Nat.{ℕ, ◌≤◌}
use native.Mathlib.Omega.{arith}
use lib.ListN.{length, take, replicate, length-take}
use Rattle.basics.specs.Lists.{all}
use Rattle.meaning.specs.declared.Statement.{Statement}
use Rattle.codes.specs.Fitting.{statement_fits}
use Rattle.facts.specs.declared.Tables.{Tables}
use Rattle.facts.specs.Facts.{stated_facts}
use Rattle.facts.specs.Filled.{no_tables, with_facts, with_places}
use Rattle.facts.specs.Tied.{Stated, Named}
use Rattle.facts.proofs.Columns.{stated_facts_lem, statements_stated}
use Rattle.facts.proofs.Named.{places_named}
use Rattle.reach.specs.Rows.{with_definitions, with_readers, filled_tables}
use Rattle.reach.specs.Tied.{Defined}
use Rattle.reach.proofs.Columns.{stated_sized, no_readers_yet}
use Rattle.reach.proofs.Defining.{defined, stated_gathered}

module _ (slots : List Statement) (n : ℕ) (few : n ≤ 64) (there : n ≤ length slots) (fit : all statement_fits (take n slots) ≡ true)
    (numbers writers lefts rights : List ℕ) (named : Named (take n slots) numbers writers lefts rights) where
  so_many : length (take n slots) ≡ n
  so_many = omega (arith, length-take n slots)

  within : length (take n slots) ≤ 64
  within = omega (arith, length-take n slots)

  -- the facts that the statements fill by themselves, from zeros
  stated : Stated (take n slots) (stated_facts slots n (replicate 512 0))
  stated = stated_facts_lem slots n few there fit

  pub slots_defined : Defined (take n slots) (with_readers n (with_definitions n numbers writers (stated_facts slots n (replicate 512 0))))
  slots_defined =
      subst (λ (k : ℕ). Defined (take n slots) (with_readers k (with_definitions k numbers writers (stated_facts slots n (replicate 512 0))))) so_many
      (defined (take n slots) within fit numbers writers lefts rights named _ stated (stated_sized slots n few) (no_readers_yet slots n few))

  pub slots_stated : Stated (take n slots) (with_readers n (with_definitions n numbers writers (stated_facts slots n (replicate 512 0))))
  slots_stated =
      subst (λ (k : ℕ). Stated (take n slots) (with_readers k (with_definitions k numbers writers (stated_facts slots n (replicate 512 0))))) so_many
      (stated_gathered (take n slots) within fit numbers writers lefts rights named _ stated (stated_sized slots n few) (no_readers_yet slots n few))

-- The tables as a whole, filled from nothing: they say of the statements what the phases ask.
module _ (ss : List Statement) (few : length ss ≤ 64) (fit : all statement_fits ss ≡ true) where
  abbrev placed : Tables
  placed = with_places (length ss) (with_facts ss no_tables)

  says : Stated ss placed.facts
  says = statements_stated ss few fit

  names : Named ss placed.numbers placed.writers placed.lefts placed.rights
  names = places_named ss (length ss) placed.facts refl few says _ _ _ refl refl refl

  pub filled_named : Named ss (filled_tables ss no_tables).numbers (filled_tables ss no_tables).writers (filled_tables ss no_tables).lefts (filled_tables ss no_tables).rights
  filled_named = names

  pub filled_stated : Stated ss (filled_tables ss no_tables).facts
  filled_stated =
      stated_gathered ss few fit placed.numbers placed.writers placed.lefts placed.rights names placed.facts says (stated_sized ss (length ss) few)
      (no_readers_yet ss (length ss) few)

  pub filled_defined : Defined ss (filled_tables ss no_tables).facts
  filled_defined =
      defined ss few fit placed.numbers placed.writers placed.lefts placed.rights names placed.facts says (stated_sized ss (length ss) few)
      (no_readers_yet ss (length ss) few)
