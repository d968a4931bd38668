-- The phases one after the other, as the code calls them: what the laws of Scheduling say of the statements themselves and their tables.
use mathlib.Core.Path.{◌≡◌, refl, subst}
use Prim.Native.Nat.{ℕ}
use mathlib.Core.List.{List}
use lib.ListN.{length, replicate}
use lib.Seq.{take-length}
use Rattle.meaning.specs.declared.Statement.{Statement}
use Rattle.meaning.specs.Seeding.{seed}
use Rattle.meaning.specs.Extension.{extend}
use Rattle.meaning.specs.Combination.{combine}
use Rattle.meaning.specs.Choice.{scheduled_units}
use Rattle.facts.specs.declared.Tables.{Tables as Filled}
use Rattle.reach.specs.Rows.{direct_rows, reached_rows}
use Rattle.pairs.specs.Admission.{Tables, empty, tables_of, seeded_tables}
use Rattle.estimate.specs.Costs.{priced}
use Rattle.estimate.proofs.Estimates.{all_priced}
use Rattle.extend.specs.Visits.{visit_tables_from}
use Rattle.units.specs.Words.{InOrder}
use Rattle.units.specs.Waiting.{Waits}
use Rattle.combine.specs.Cutting.{Tables as Cut}
use Rattle.phases.specs.Prepared.{TablesPrepared}
use Rattle.phases.specs.Ordered.{waiting_units, Ordered}
use Rattle.phases.proofs.Scheduling.{pairs_extended as extended_by, units_wait as wait_by, units_scheduled}

module _ (ss : List Statement) (t : Filled) (prepared : TablesPrepared ss t) where
  pub tables_priced : priced t.facts
  tables_priced = all_priced ss t.facts prepared.few prepared.fit prepared.stated prepared.defined

  -- the tables as the phases leave them, one after the other
  module _ (direct reached : List ℕ) (pairs : Tables)
      (ed : direct ≡ direct_rows ss (length ss) t.numbers t.writers t.lefts t.rights) (er : reached ≡ reached_rows direct (length ss))
      (ee : pairs ≡ visit_tables_from (length ss) t.facts reached 0 (seeded_tables ss (length ss) t.facts reached t.numbers t.writers t.lefts t.rights empty)) where
    -- The tables of pairs have the pairs of the block.
    pub pairs_extended : pairs ≡ tables_of (extend ss (seed ss))
    pairs_extended = extended_by ss ss (take-length ss) t prepared (length ss) direct reached _ pairs refl ed er refl ee

    abbrev waiting : Cut
    waiting = waiting_units (length ss) reached direct pairs.next pairs.rights

    -- The units that wait are those of the block's chains.
    pub units_wait : (c : Cut) → c ≡ waiting → Waits direct (combine ss (extend ss (seed ss))) c.units c.needs c.waiting
    units_wait = wait_by ss ss (take-length ss) t prepared (length ss) direct reached _ pairs refl ed er refl ee

    -- The order that the phases leave has the scheduled units of the block.
    pub tables_scheduled : (before order : List ℕ) (size : ℕ) → before ≡ replicate 64 0
        → Ordered (length ss) reached direct pairs.next pairs.rights before order size → InOrder (scheduled_units ss) order size
    tables_scheduled before order size eb ordered =
        let o : Ordered (length ss) reached direct pairs.next pairs.rights (replicate 64 0) order size =
        subst (λ (b : List ℕ). Ordered (length ss) reached direct pairs.next pairs.rights b order size) eb ordered in
        units_scheduled ss ss (take-length ss) t prepared (length ss) direct reached _ pairs refl ed er refl ee waiting refl order size
        o.units_long o.needs_long o.words o.sized
