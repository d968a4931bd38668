-- One step over the tables, as the code takes it: what the two searches answer decides it, and at most one unit more is scheduled.
use mathlib.Core.Path.{◌≡◌, refl, ap, ◌∙◌}
use mathlib.Core.Bool.{true, false}
use mathlib.Core.List.{List}
use Prim.Native.Nat.{ℕ, zero, suc, ◌+◌, ◌≤◌, ◌<◌}
use native.Mathlib.Omega.{arith}
use lib.Dec.{eqb, ltb}
use borrow.Author.Tests.{lt-ltb, le-ltb}
use Rattle.basics.specs.Choice.{pick}
use Rattle.basics.proofs.Parts.{pick_holds}
use Rattle.schedule.specs.Stages.{Stage, ready_at, pack_at, lowest_waiting, taken, dissolved, unready_step, stepped, steps_from}

module _ (direct : List ℕ) (s : Stage) where
  pub step_takes : (at : ℕ) → lowest_waiting (ready_at s.needs s.scheduled) s.waiting ≡ at → at < 64 → stepped direct s ≡ taken at s
  unfolding stepped
  step_takes at e h =
      ap (λ (ready : ℕ). pick (ltb ready 64) (taken ready s) (unready_step direct s)) e
      ∙ ap (λ test. pick test (taken at s) (unready_step direct s)) (lt-ltb at 64 h)

  pub step_unready : (at : ℕ) → lowest_waiting (ready_at s.needs s.scheduled) s.waiting ≡ at → 64 ≤ at → stepped direct s ≡ unready_step direct s
  unfolding stepped
  step_unready at e h =
      ap (λ (ready : ℕ). pick (ltb ready 64) (taken ready s) (unready_step direct s)) e
      ∙ ap (λ test. pick test (taken at s) (unready_step direct s)) (le-ltb at 64 h)

  pub step_dissolves : (at : ℕ) → lowest_waiting (pack_at s.table) s.waiting ≡ at → at < 64 → unready_step direct s ≡ dissolved direct at s
  step_dissolves at e h =
      ap (λ (pack : ℕ). pick (ltb pack 64) (dissolved direct pack s) s) e
      ∙ ap (λ test. pick test (dissolved direct at s) s) (lt-ltb at 64 h)

  pub step_none : (at : ℕ) → lowest_waiting (pack_at s.table) s.waiting ≡ at → 64 ≤ at → unready_step direct s ≡ s
  step_none at e h =
      ap (λ (pack : ℕ). pick (ltb pack 64) (dissolved direct pack s) s) e
      ∙ ap (λ test. pick test (dissolved direct at s) s) (le-ltb at 64 h)

  pub size_grows : (stepped direct s).size ≤ s.size + 1
  unfolding stepped
  size_grows =
      let ready = lowest_waiting (ready_at s.needs s.scheduled) s.waiting in
      let pack = lowest_waiting (pack_at s.table) s.waiting in
      pick_holds Grown (ltb ready 64) (taken ready s) (unready_step direct s) (λ e. omega arith) λ e.
      pick_holds Grown (ltb pack 64) (dissolved direct pack s) s (λ f. omega arith) (λ f. omega arith)
    where
      Grown : Stage → Type 0
      Grown after = after.size ≤ s.size + 1

  -- what remains of the steps
  pub steps_more : (k n : ℕ) → n ≡ suc k → eqb s.waiting 0 ≡ false → steps_from n direct s ≡ steps_from k direct (stepped direct s)
  unfolding steps_from
  steps_more k n e f =
      ap (λ (steps : ℕ). steps_from steps direct s) e
      ∙ ap (λ test. elim test [ true ↦ s | false ↦ steps_from k direct (stepped direct s) ]) f

  pub steps_over : (k : ℕ) → eqb s.waiting 0 ≡ true → steps_from k direct s ≡ s
  unfolding steps_from
  steps_over zero f = refl
  steps_over (suc k) f = ap (λ test. elim test [ true ↦ s | false ↦ steps_from k direct (stepped direct s) ]) f

  pub steps_done : (k : ℕ) → k ≡ 0 → steps_from k direct s ≡ s
  unfolding steps_from
  steps_done k e = ap (λ (steps : ℕ). steps_from steps direct s) e
