-- The phases one after the other: what each leaves in its tables is what the next one's law asks for, so that the order at the end has the
-- scheduled units of the block.
use mathlib.Core.Path.{◌≡◌, refl, sym, ap, ap₂, subst, subst₂, ◌∙◌}
use Prim.Native.Nat.{ℕ, ◌≤◌, ◌<◌}
use mathlib.Core.List.{List}
use lib.ListN.{length, take, replicate, length-replicate}
use lib.Seq.{get_or-take}
use Rattle.meaning.specs.declared.Statement.{Statement}
use Rattle.meaning.specs.Block.{Block, blank, statement}
use Rattle.meaning.specs.Seeding.{seed}
use Rattle.meaning.specs.Extension.{extend}
use Rattle.meaning.specs.Combination.{combine}
use Rattle.meaning.specs.Choice.{scheduled_units}
use Rattle.theorems.proofs.Pairing.{seed_admitted, pairs_admitted}
use Rattle.theorems.proofs.Combination.{combined_units}
use Rattle.facts.specs.declared.Tables.{Tables as Filled}
use Rattle.reach.specs.Rows.{direct_rows, reached_rows}
use Rattle.reach.specs.Tied.{Rowed}
use Rattle.reach.proofs.Reaching.{rowed}
use Rattle.pairs.specs.Admission.{Tables, empty, tables_of, seeded_tables}
use Rattle.pairs.specs.Tied.{Paired}
use Rattle.pairs.proofs.Tables.{tables_paired}
use Rattle.pairs.proofs.Seeding.{seeded_tables_lem}
use Rattle.extend.specs.Visits.{visit_tables_from}
use Rattle.extend.proofs.Visiting.{extend_tied}
use Rattle.units.specs.Words.{InOrder}
use Rattle.units.specs.Waiting.{Waits}
use Rattle.combine.specs.Cutting.{Tables as Cut, tables as cut-tables, combined}
use Rattle.combine.proofs.Tied.{combined_waits}
use Rattle.schedule.specs.Stages.{Stage, scheduled_tables}
use Rattle.schedule.proofs.Steps.{schedule_in_order}
use Rattle.phases.specs.Prepared.{Prepared, TablesPrepared}
use Rattle.phases.proofs.Fits.{legal_fits}

zeros_long : length (replicate {A = ℕ} 64 0) ≡ 64
zeros_long = length-replicate {A = ℕ} 64 0

module _ (ss slots : List Statement) (front : take (length ss) slots ≡ ss) (t : Filled) (prepared : TablesPrepared ss t) where
  in_slots_lem : (i : ℕ) → i < length ss → statement slots i ≡ statement ss i
  in_slots_lem i below = sym (get_or-take (length ss) slots i blank below) ∙ ap (λ (rows : List Statement). statement rows i) front

  abbrev direct : List ℕ
  direct = direct_rows slots (length ss) t.numbers t.writers t.lefts t.rights

  abbrev reached : List ℕ
  reached = reached_rows direct (length ss)

  rows : Rowed ss direct reached
  rows = rowed ss prepared.few prepared.fit t.numbers t.writers t.lefts t.rights prepared.named slots in_slots_lem

  seeded : seeded_tables slots (length ss) t.facts reached t.numbers t.writers t.lefts t.rights empty ≡ tables_of (seed ss)
  seeded = seeded_tables_lem ss t.facts direct reached prepared.few prepared.stated rows t.numbers t.writers t.lefts t.rights prepared.fit prepared.named slots (length ss) front refl

  extended : visit_tables_from (length ss) t.facts reached 0 (seeded_tables slots (length ss) t.facts reached t.numbers t.writers t.lefts t.rights empty) ≡ tables_of (extend ss (seed ss))
  extended =
      ap (visit_tables_from (length ss) t.facts reached 0) seeded
      ∙ extend_tied ss t.facts direct reached prepared.few prepared.fit prepared.stated rows prepared.defined (seed ss) (seed_admitted ss)

  abbrev pairs : Tables
  pairs = visit_tables_from (length ss) t.facts reached 0 (seeded_tables slots (length ss) t.facts reached t.numbers t.writers t.lefts t.rights empty)

  abbrev waiting : Cut
  waiting = combined (length ss) reached direct pairs.next pairs.rights (cut-tables (replicate 64 0) (replicate 64 0) 0)

  waits : Waits direct (combine ss (extend ss (seed ss))) waiting.units waiting.needs waiting.waiting
  waits =
      combined_waits ss (extend ss (seed ss)) direct reached pairs.next pairs.rights prepared.few (pairs_admitted ss)
      (subst (λ (t : Tables). Paired (extend ss (seed ss)) t.next t.rights) (sym extended) (tables_paired ss (extend ss (seed ss)) (pairs_admitted ss) prepared.few))
      rows (replicate 64 0) (replicate 64 0) (subst (λ (k : ℕ). length ss ≤ k) (sym zeros_long) prepared.few) (subst (λ (k : ℕ). length ss ≤ k) (sym zeros_long) prepared.few)

  in_order : 64 ≤ length waiting.units → 64 ≤ length waiting.needs
      → let s = scheduled_tables (length ss) direct waiting.units waiting.needs waiting.waiting (replicate 64 0) in InOrder (scheduled_units ss) s.order s.size
  unfolding scheduled_units
  in_order units_long needs_long =
      schedule_in_order ss direct reached rows prepared.few (combine ss (extend ss (seed ss))) waiting.units waiting.needs (replicate 64 0) waiting.waiting
      (combined_units ss (extend ss (seed ss)) (pairs_admitted ss)) waits units_long needs_long (subst (λ (k : ℕ). length ss ≤ k) (sym zeros_long) prepared.few)

  -- the tables as the phases leave them, one after the other
  module _ (n : ℕ) (d r : List ℕ) (s e : Tables) (counted : length ss ≡ n) (ed : d ≡ direct_rows slots n t.numbers t.writers t.lefts t.rights) (er : r ≡ reached_rows d n)
      (es : s ≡ seeded_tables slots n t.facts r t.numbers t.writers t.lefts t.rights empty) (ee : e ≡ visit_tables_from n t.facts r 0 s) where
    same_direct : d ≡ direct
    same_direct = ed ∙ ap (λ (k : ℕ). direct_rows slots k t.numbers t.writers t.lefts t.rights) (sym counted)

    same_reached : r ≡ reached
    same_reached = er ∙ ap₂ reached_rows same_direct (sym counted)

    same_seeded : s ≡ seeded_tables slots (length ss) t.facts reached t.numbers t.writers t.lefts t.rights empty
    same_seeded = es ∙ ap₂ (λ (k : ℕ) (rows : List ℕ). seeded_tables slots k t.facts rows t.numbers t.writers t.lefts t.rights empty) (sym counted) same_reached

    same_pairs : e ≡ pairs
    same_pairs =
        ee ∙ ap₂ (λ (k : ℕ) (rows : List ℕ). visit_tables_from k t.facts rows 0 s) (sym counted) same_reached ∙ ap (visit_tables_from (length ss) t.facts reached 0) same_seeded

    -- The tables of pairs have the pairs of the block.
    pub pairs_extended : e ≡ tables_of (extend ss (seed ss))
    pairs_extended = same_pairs ∙ extended

    module _ (c : Cut) (ec : c ≡ combined n r d e.next e.rights (cut-tables (replicate 64 0) (replicate 64 0) 0)) where
      same_waiting : c ≡ waiting
      same_waiting =
          ec
          ∙ ap₂ (λ (k : ℕ) (rows : List ℕ). combined k rows d e.next e.rights (cut-tables (replicate 64 0) (replicate 64 0) 0)) (sym counted) same_reached
          ∙ ap₂ (λ (rows : List ℕ) (t : Tables). combined (length ss) reached rows t.next t.rights (cut-tables (replicate 64 0) (replicate 64 0) 0)) same_direct same_pairs

      -- The units that wait are those of the block's chains.
      pub units_wait : Waits d (combine ss (extend ss (seed ss))) c.units c.needs c.waiting
      units_wait =
          subst₂ (λ (rows : List ℕ) (t : Cut). Waits rows (combine ss (extend ss (seed ss))) t.units t.needs t.waiting) (sym same_direct) (sym same_waiting) waits

      -- The order that the phases leave, one after the other, has the scheduled units of the block.
      pub units_scheduled : (order : List ℕ) (size : ℕ) → 64 ≤ length c.units → 64 ≤ length c.needs
          → order ≡ (scheduled_tables n d c.units c.needs c.waiting (replicate 64 0)).order
          → size ≡ (scheduled_tables n d c.units c.needs c.waiting (replicate 64 0)).size
          → InOrder (scheduled_units ss) order size
      units_scheduled order size long long' eo ez =
          let whole : scheduled_tables n d c.units c.needs c.waiting (replicate 64 0) ≡ scheduled_tables (length ss) direct waiting.units waiting.needs waiting.waiting (replicate 64 0) =
          ap₂ (λ (k : ℕ) (rows : List ℕ). scheduled_tables k rows c.units c.needs c.waiting (replicate 64 0)) (sym counted) same_direct
          ∙ ap (λ (t : Cut). scheduled_tables (length ss) direct t.units t.needs t.waiting (replicate 64 0)) same_waiting in
          subst₂ (InOrder (scheduled_units ss)) (sym (eo ∙ ap (λ (t : Stage). t.order) whole)) (sym (ez ∙ ap (λ (t : Stage). t.size) whole))
          (in_order (subst (λ (t : Cut). 64 ≤ length t.units) same_waiting long) (subst (λ (t : Cut). 64 ≤ length t.needs) same_waiting long'))

-- The same of a block that was read.
module _ (b : Block) (slots : List Statement) (front : take (length b.statements) slots ≡ b.statements)
    (facts numbers writers lefts rights : List ℕ) (prepared : Prepared b facts numbers writers lefts rights)
    (n : ℕ) (d r : List ℕ) (s e : Tables) (counted : length b.statements ≡ n) (ed : d ≡ direct_rows slots n numbers writers lefts rights) (er : r ≡ reached_rows d n)
    (es : s ≡ seeded_tables slots n facts r numbers writers lefts rights empty) (ee : e ≡ visit_tables_from n facts r 0 s)
    (c : Cut) (ec : c ≡ combined n r d e.next e.rights (cut-tables (replicate 64 0) (replicate 64 0) 0)) where
  pub block_scheduled : (order : List ℕ) (size : ℕ) → 64 ≤ length c.units → 64 ≤ length c.needs
      → order ≡ (scheduled_tables n d c.units c.needs c.waiting (replicate 64 0)).order
      → size ≡ (scheduled_tables n d c.units c.needs c.waiting (replicate 64 0)).size
      → InOrder (scheduled_units b.statements) order size
  block_scheduled =
      units_scheduled b.statements slots front (record { facts = facts; numbers = numbers; writers = writers; lefts = lefts; rights = rights })
      (record {
        few = prepared.legal.readable.count;
        fit = legal_fits b prepared.legal;
        stated = prepared.stated;
        defined = prepared.defined;
        named = prepared.named;
      })
      n d r s e counted ed er es ee c ec
