-- The phases as they are called one after the other leave the tables of the statements' pairs and units.
use mathlib.Core.Path.{◌≡◌, ap, ap₂, ◌∙◌}
use Prim.Native.Nat.{ℕ}
use mathlib.Core.List.{List}
use lib.ListN.{length, replicate}
use Rattle.meaning.specs.declared.Statement.{Statement}
use Rattle.facts.specs.declared.Tables.{Tables as Filled}
use Rattle.reach.specs.Rows.{direct_rows, reached_rows}
use Rattle.pairs.specs.declared.Admitted.{Admitted}
use Rattle.pairs.specs.Admission.{tables, admitted_tables, empty, seeded_tables}
use Rattle.extend.specs.Visits.{visit_tables_from}
use Rattle.combine.specs.Cutting.{tables as cut-tables, combined}
use Rattle.phases.specs.Prepared.{TablesPrepared}
use Rattle.phases.specs.Ordered.{Ordered}
use Rattle.phases.proofs.Scheduled.{pairs_extended, units_wait, tables_scheduled}
use Rattle.course.specs.Course.{Follows}

module _ (ss : List Statement) (t : Filled) (prepared : TablesPrepared ss t) where
  pub followed_by : (direct reached order next packs₀ scheduled₀ packs needs scheduled : List ℕ) (a : Admitted) (waiting size : ℕ)
      → packs₀ ≡ replicate 64 0 → scheduled₀ ≡ replicate 64 0
      → direct ≡ direct_rows ss (length ss) t.numbers t.writers t.lefts t.rights
      → reached ≡ reached_rows direct (length ss)
      → admitted_tables a ≡ visit_tables_from (length ss) t.facts reached 0 (seeded_tables ss (length ss) t.facts reached t.numbers t.writers t.lefts t.rights empty)
      → cut-tables packs needs waiting ≡ combined (length ss) reached direct a.next a.rights (cut-tables packs₀ (replicate 64 0) 0)
      → Ordered (length ss) reached direct a.next a.rights scheduled₀ scheduled size
      → order ≡ a.order → next ≡ a.next
      → Follows ss order next packs scheduled (record { pairs = a.count; rights = a.rights; waiting = waiting; units = size })
  followed_by direct reached order next packs₀ scheduled₀ packs needs scheduled a waiting size ep es ed er ee ec ordered eo en =
      record {
        paired = ap₂ (λ (o n : List ℕ). tables o n a.count a.rights) eo en ∙ pairs_extended ss t prepared direct reached (admitted_tables a) ed er ee;
        direct = direct;
        needs = needs;
        waits =
            units_wait ss t prepared direct reached (admitted_tables a) ed er ee (cut-tables packs needs waiting)
            (ec ∙ ap (λ (p : List ℕ). combined (length ss) reached direct a.next a.rights (cut-tables p (replicate 64 0) 0)) ep);
        in_order = tables_scheduled ss t prepared direct reached (admitted_tables a) ed er ee scheduled₀ scheduled size es ordered;
      }
