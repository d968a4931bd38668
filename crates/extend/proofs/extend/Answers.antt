-- `extend::extend` meets its contract: a visit to each pair in order of admission, at most n of them.
-- one visit more, where there is a pair to visit; no pair left; no visit left
use mathlib.Core.Path.{◌≡◌, refl, sym, ap, ap₂, ◌∙◌}
use mathlib.Core.List.{List}
use Prim.Native.Nat.{ℕ, suc, ◌+◌, ◌-◌, ◌≤◌, ◌<◌}
use native.Mathlib.Omega.{arith}
use lib.ListN.{get_or}
use borrow.Author.Tests.{lt-ltb, le-ltb}
use Rattle.basics.proofs.Counting.{more, none_left}
use Rattle.meaning.specs.Pairs.{Pair, pair}
use Rattle.pairs.specs.Admission.{Tables, admitted_tables}
use Rattle.extend.specs.Visits.{visit_tables, visit_tables_from}
use Rattle.extend.proofs.extend.Goals as goal

visits-more : (n : ℕ) (facts reached : List ℕ) (i : ℕ) (t : Tables) → i < t.size
    → visit_tables_from (suc n) facts reached i t
    ≡ visit_tables_from n facts reached (i + 1) (visit_tables facts reached (pair (get_or t.order i 64) (get_or t.next (get_or t.order i 64) 64)) t)
unfolding visit_tables_from
visits-more n facts reached i t h = rw (lt-ltb i t.size h, visit_tables_from)

visits-done : (n : ℕ) (facts reached : List ℕ) (i : ℕ) (t : Tables) → t.size ≤ i → visit_tables_from (suc n) facts reached i t ≡ t
unfolding visit_tables_from
visits-done n facts reached i t h = rw (le-ltb i t.size h, visit_tables_from)

visits-end : (facts reached : List ℕ) (i : ℕ) (t : Tables) → visit_tables_from 0 facts reached i t ≡ t
unfolding visit_tables_from
visits-end facts reached i t = refl

pub returns-then-admitted-i-clause-extended : goal.returns-then-admitted-i-clause-extended
returns-then-admitted-i-clause-extended c =
    let t = admitted_tables c.loop-i.admitted in
    sym (
    c.loop-i.invariant.0
    ∙ ap (λ (k : ℕ). visit_tables_from k c.args.tables.now.facts c.args.reached c.loop-i.i t) (more c.args.n c.loop-i.i c.loop-i-test.true)
    ∙ visits-done (c.args.n - (c.loop-i.i + 1)) c.args.tables.now.facts c.args.reached c.loop-i.i t c.if-admitted-i.true
    )

pub loop-i-preserved : goal.loop-i-preserved
loop-i-preserved c =
    let t = admitted_tables c.loop-i.admitted in (
      c.loop-i.invariant.0
          ∙ ap (λ (k : ℕ). visit_tables_from k c.args.tables.now.facts c.args.reached c.loop-i.i t) (more c.args.n c.loop-i.i c.loop-i-test.true)
          ∙ visits-more (c.args.n - (c.loop-i.i + 1)) c.args.tables.now.facts c.args.reached c.loop-i.i t c.if-admitted-i.false
          ∙ ap (visit_tables_from (c.args.n - (c.loop-i.i + 1)) c.args.tables.now.facts c.args.reached (c.loop-i.i + 1))
          (sym
          (c.visit.ensures.visited
          ∙ ap (λ (p : Pair). visit_tables c.args.tables.now.facts c.args.reached p t) (ap₂ pair c.number_at-left.ensures.0 (c.number_at-right.ensures.0 ∙ ap (λ (k : ℕ). get_or c.loop-i.admitted.next k 64) c.number_at-left.ensures.0)))),
      omega (arith, c.loop-i.invariant.1, c.visit.ensures.counted),
    )

pub returns-after-loop-i-clause-extended : goal.returns-after-loop-i-clause-extended
returns-after-loop-i-clause-extended c =
    let t = admitted_tables c.loop-i.admitted in
    sym (
    c.loop-i.invariant.0
    ∙ ap (λ (k : ℕ). visit_tables_from k c.args.tables.now.facts c.args.reached c.loop-i.i t) (none_left c.args.n c.loop-i.i c.loop-i-test.false)
    ∙ visits-end c.args.tables.now.facts c.args.reached c.loop-i.i t
    )
