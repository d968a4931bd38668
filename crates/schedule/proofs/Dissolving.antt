-- A pack is dissolved: its statements wait as singles, each at its own number, and the other units wait as they did.
use mathlib.Core.Path.{◌≡◌, refl, sym, ap, ◌∙◌}
use mathlib.Core.Logic.{◌⊎◌, inl, inr}
use mathlib.Core.Bool.{true, false, ◌||◌, not, or-true, and-true}
use mathlib.Core.List.{List, [], ◌∷◌, ◌++◌}
use Prim.Native.Nat.{ℕ, ◌≤◌, ◌<◌}
use native.Mathlib.Omega.{arith}
use lib.Dec.{eqb}
use lib.ListN.{length, get_or, set, length-set}
use lib.Seq.{get_or-set_same, get_or-set_other}
use borrow.Author.Tests.{eq-eqb, ne_eqb, lt-ltb}
use Rattle.basics.specs.Choice.{pick}
use Rattle.basics.specs.Lists.{any, each}
use Rattle.basics.specs.Sets.{has}
use Rattle.basics.proofs.Tests.{below_or_not}
use Rattle.basics.proofs.Finding.{any_append}
use Rattle.meaning.specs.Schedule.{lowest, without, singles, with_unit}
use Rattle.theorems.specs.Units.{Every, occurs}
use Rattle.theorems.proofs.Occurs.{every_at, occurs_own, occurs_cons}
use Rattle.theorems.proofs.Waiting.{In, lowest_in}
use Rattle.theorems.proofs.Ready.{with_present, with_absent}
use Rattle.units.specs.Words.{unit_word}
use Rattle.units.specs.Waiting.{needed_by, Waits}
use Rattle.schedule.specs.Stages.{written, single_word, single_need}
use Rattle.schedule.proofs.Taking.{numbers_without, in_keep}

written_here : (word : ℕ → ℕ) (s : ℕ) (table : List ℕ) → s < 64 → written word s table ≡ set table s (word s)
written_here word s table h = ap (λ test. pick test (set table s (word s)) table) (lt-ltb s 64 h)

-- what is written for each statement stands there, and what stands elsewhere stays
module _ (word : ℕ → ℕ) where
  pub written_length : (unit table : List ℕ) → Every (λ s. s < 64) unit → length (each (written word) unit table) ≡ length table
  written_length [] table range = refl
  written_length (s ∷ rest) table range =
      written_length rest (written word s table) range.1
      ∙ ap length (written_here word s table range.0)
      ∙ length-set table s (word s)

  pub written_other : (unit table : List ℕ) (i : ℕ) → Every (λ s. s < 64) unit → occurs i unit ≡ 0
      → get_or (each (written word) unit table) i 0 ≡ get_or table i 0
  written_other [] table i range absent = refl
  written_other (s ∷ rest) table i range absent =
      written_other rest (written word s table) i range.1 (omega arith)
      ∙ ap (λ (l : List ℕ). get_or l i 0) (written_here word s table range.0)
      ∙ get_or-set_other table s i (word s) 0 differ
    where
      differ : i ≡ s → ⊥
      differ e = omega (arith, absent, occurs_own i rest, ap (λ (x : ℕ). occurs i (x ∷ rest)) e)

  pub written_own : (unit table : List ℕ) (i : ℕ) → Every (λ s. s < 64) unit → 64 ≤ length table → 0 < occurs i unit
      → get_or (each (written word) unit table) i 0 ≡ word i
  written_own [] table i range room there = absurd (omega arith)
  written_own (s ∷ rest) table i range room there = either (below_or_not 0 (occurs i rest)) λ k. written_own rest (written word s table) i range.1 roomy k
    where
      roomy : 64 ≤ length (written word s table)
      roomy = omega (arith, room, ap length (written_here word s table range.0), length-set table s (word s))

      either : (0 < occurs i rest) ⊎ (occurs i rest ≤ 0) → (0 < occurs i rest → get_or (each (written word) rest (written word s table)) i 0 ≡ word i)
          → get_or (each (written word) rest (written word s table)) i 0 ≡ word i
      either (inl k) later = later k
      either (inr k) later =
          let absent : occurs i rest ≡ 0 = omega arith in
          written_other rest (written word s table) i range.1 absent
          ∙ ap (λ (l : List ℕ). get_or l i 0) (written_here word s table range.0)
          ∙ here (occurs_cons i s rest there) absent
        where
          here : (i ≡ s) ⊎ (0 < occurs i rest) → occurs i rest ≡ 0 → get_or (set table s (word s)) i 0 ≡ word i
          here (inl e) none =
              ap (λ (j : ℕ). get_or (set table s (word s)) j 0) e
              ∙ get_or-set_same table s (word s) 0 (omega (arith, range.0))
              ∙ ap word (sym e)
          here (inr m) none = absurd (omega arith)

-- a single is of a statement of the pack
pub single_of : (pack unit : List ℕ) → In unit (singles pack) → (unit ≡ lowest unit ∷ []) × (0 < occurs (lowest unit) pack)
single_of [] unit there = absurd there
single_of (s ∷ rest) unit (inl e) =
    let own : s ≡ lowest unit = ap lowest (sym e) in (
      e ∙ ap (λ (t : ℕ). t ∷ []) own,
      omega (arith, occurs_own s rest, ap (λ (t : ℕ). occurs t (s ∷ rest)) own),
    )
single_of (s ∷ rest) unit (inr later) =
    let found = single_of rest unit later in
    (found.0, omega (arith, found.1))

pub single_number : (pack : List ℕ) (t : ℕ) → 0 < occurs t pack → any (λ unit. eqb (lowest unit) t) (singles pack) ≡ true
single_number [] t there = absurd (omega arith)
single_number (s ∷ rest) t there = either (occurs_cons t s rest there) λ k. single_number rest t k
  where
    either : (t ≡ s) ⊎ (0 < occurs t rest) → (0 < occurs t rest → any (λ unit. eqb (lowest unit) t) (singles rest) ≡ true)
        → eqb s t || any (λ unit. eqb (lowest unit) t) (singles rest) ≡ true
    either (inl e) later = rw (eq-eqb s t (sym e))
    either (inr k) later = rw (later k) (or-true (eqb s t))

pub no_single : (pack : List ℕ) (t : ℕ) → occurs t pack ≡ 0 → any (λ unit. eqb (lowest unit) t) (singles pack) ≡ false
no_single [] t absent = refl
no_single (s ∷ rest) t absent = rw (ne_eqb s t differ, no_single rest t (omega arith))
  where
    differ : s ≡ t → ⊥
    differ e = omega (arith, absent, occurs_own t rest, ap (λ (x : ℕ). occurs t (x ∷ rest)) e)

in_append : (xs ys : List (List ℕ)) (unit : List ℕ) → In unit (xs ++ ys) → In unit xs ⊎ In unit ys
in_append [] ys unit there = inr there
in_append (x ∷ xs) ys unit (inl e) = inl (inl e)
in_append (x ∷ xs) ys unit (inr later) = either (in_append xs ys unit later)
  where
    either : In unit xs ⊎ In unit ys → In unit (x ∷ xs) ⊎ In unit ys
    either (inl k) = inl (inr k)
    either (inr k) = inr k

-- The tables of what waits, where the pack's statements are in no other unit.
module _ (direct : List ℕ) (units : List (List ℕ)) (table needs : List ℕ) (waiting : ℕ) (pack : List ℕ)
    (waits : Waits direct units table needs waiting)
    (filled : 0 < length pack)
    (range : Every (λ s. s < 64) pack)
    (others : (unit : List ℕ) → In unit (without pack units) → occurs (lowest unit) pack ≡ 0)
    (table_room : 64 ≤ length table)
    (needs_room : 64 ≤ length needs)
    (single-needs : (s : ℕ) → s < 64 → single_need direct s ≡ needed_by direct (s ∷ []))
  where
    kept_unit : (unit : List ℕ) → In unit (without pack units) → In unit units
    kept_unit unit there = in_keep (λ o. not (eqb (lowest o) (lowest pack))) units unit there

    numbers : (t : ℕ) → has (with_unit pack waiting) t ≡ any (λ unit. eqb (lowest unit) t) (singles pack ++ without pack units)
    numbers t = either (below_or_not 0 (occurs t pack)) ∙ sym (any_append (λ unit. eqb (lowest unit) t) (singles pack) (without pack units))
      where
        either : (0 < occurs t pack) ⊎ (occurs t pack ≤ 0)
            → has (with_unit pack waiting) t
            ≡ any (λ unit. eqb (lowest unit) t) (singles pack) || any (λ unit. eqb (lowest unit) t) (without pack units)
        either (inl member) = with_present pack waiting t member ∙ rw (single_number pack t member)
        either (inr k) =
            let absent : occurs t pack ≡ 0 = omega arith in
            with_absent pack waiting t absent
            ∙ waits.numbers t
            ∙ rw (no_single pack t absent, numbers_without (lowest pack) t units, ne_eqb (lowest pack) t (differ absent))
            (sym (and-true (any (λ unit. eqb (lowest unit) t) units)))
          where
            differ : occurs t pack ≡ 0 → lowest pack ≡ t → ⊥
            differ absent e = omega (arith, absent, lowest_in pack filled, ap (λ (x : ℕ). occurs x pack) e)

    pub dissolved_tables : Waits direct (singles pack ++ without pack units) (each (written single_word) pack table)
        (each (written (single_need direct)) pack needs) (with_unit pack waiting)
    dissolved_tables =
        record {
          word = λ unit there. word unit (in_append (singles pack) (without pack units) unit there);
          need = λ unit there. need unit (in_append (singles pack) (without pack units) unit there);
          numbers = numbers;
        }
      where
        word : (unit : List ℕ) → In unit (singles pack) ⊎ In unit (without pack units)
            → get_or (each (written single_word) pack table) (lowest unit) 0 ≡ unit_word unit
        word unit (inl there) =
            let found = single_of pack unit there in
            written_own single_word pack table (lowest unit) range table_room found.1 ∙ ap unit_word (sym found.0)
        word unit (inr there) =
            written_other single_word pack table (lowest unit) range (others unit there) ∙ waits.word unit (kept_unit unit there)

        need : (unit : List ℕ) → In unit (singles pack) ⊎ In unit (without pack units)
            → get_or (each (written (single_need direct)) pack needs) (lowest unit) 0 ≡ needed_by direct unit
        need unit (inl there) =
            let found = single_of pack unit there in
            written_own (single_need direct) pack needs (lowest unit) range needs_room found.1
            ∙ single-needs (lowest unit) (every_at (λ (s : ℕ). s < 64) pack range (lowest unit) found.1)
            ∙ ap (needed_by direct) (sym found.0)
        need unit (inr there) =
            written_other (single_need direct) pack needs (lowest unit) range (others unit there) ∙ waits.need unit (kept_unit unit there)
