-- The lines of packs, of the schedule and of dissolved packs over the tables of units are those of the lists of units.
use mathlib.Core.Path.{◌≡◌, refl, sym, ap, ap₂, subst, ◌∙◌}
use mathlib.Core.Logic.{inl, inr}
use mathlib.Core.Bool.{Bool, true, false, ◌&&◌, ◌||◌, not}
use mathlib.Core.List.{List, [], ◌∷◌, append-nil}
use Prim.Native.Nat.{ℕ, zero, suc, ◌+◌, ◌≤◌, ◌<◌}
use native.Mathlib.Nat.{zero-add}
use native.Mathlib.Omega.{arith}
use lib.Dec.{eqb, ltb}
use lib.ListN.{length, get_or}
use borrow.Author.Tests.{eqb-true, eq-eqb, ne_eqb}
use Rattle.basics.specs.Choice.{pick}
use Rattle.basics.specs.Lists.{any, keep}
use Rattle.basics.specs.Sets.{nobody}
use Rattle.basics.proofs.Tests.{and_left, and_right, same_test}
use Rattle.basics.proofs.Finding.{keep_yes, keep_no}
use Rattle.meaning.specs.declared.Statement.{Statement}
use Rattle.meaning.specs.Schedule.{lowest, is_pack}
use Rattle.theorems.specs.Units.{Every, occurs, Units}
use Rattle.theorems.proofs.Occurs.{every_weaker}
use Rattle.theorems.proofs.Waiting.{In, sums, every_in, lowest_in}
use Rattle.theorems.proofs.Schedule.{all_wait, at_most_once}
use Rattle.units.specs.declared.Unit.{Unit as Lanes}
use Rattle.units.specs.Words.{unit_word, InOrder}
use Rattle.units.specs.Waiting.{Waits}
use Rattle.units.specs.Lanes.{lanes_of, word_lanes}
use Rattle.units.proofs.Lanes.{Laned, one, two, four, fits_laned, lanes_read}
use Rattle.account_units.specs.Lines.{numbers_line}
use Rattle.account_units.specs.Sections.{unit_lines, pack_lines, schedule_lines, same_unit, dissolved_lines}
use Rattle.account_units.specs.InTables.{unit_numbers, word_line, pack_line, pack_lines_in, schedule_lines_in, among_from, dissolved_line, dissolved_lines_in}
use Rattle.account_units.proofs.Listing.{each_same, each_listed}

-- a unit's numbers, from its lanes and from its word
lanes_numbers : {unit : List ℕ} → Laned unit → unit_numbers (lanes_of unit) ≡ unit
lanes_numbers (one ha) = refl
lanes_numbers (two ha hb) = refl
lanes_numbers (four ha hb hc hd) = refl

word_numbers : {unit : List ℕ} → Laned unit → unit_numbers (word_lanes (unit_word unit)) ≡ unit
word_numbers laned = ap unit_numbers (lanes_read laned) ∙ lanes_numbers laned

laned_filled : {unit : List ℕ} → Laned unit → 0 < length unit
laned_filled (one ha) = omega arith
laned_filled (two ha hb) = omega arith
laned_filled (four ha hb hc hd) = omega arith

-- units are the same where their words are
same_self : (unit : List ℕ) → same_unit unit unit ≡ true
same_self [] = refl
same_self (s ∷ ss) = rw (eq-eqb s s refl) (same_self ss)

same_is : (xs ys : List ℕ) → same_unit xs ys ≡ true → xs ≡ ys
same_is [] [] e = refl
same_is [] (y ∷ ys) e = let z : ◌≡◌ {A = ℕ} 0 1 = cc in absurd (omega arith)
same_is (x ∷ xs) [] e = let z : ◌≡◌ {A = ℕ} 0 1 = cc in absurd (omega arith)
same_is (x ∷ xs) (y ∷ ys) e =
    ap₂ {C = List ℕ} (λ z zs. z ∷ zs) (eqb-true x y (and_left (eqb x y) (same_unit xs ys) e)) (same_is xs ys (and_right (eqb x y) (same_unit xs ys) e))

same_words : {unit other : List ℕ} → Laned unit → Laned other → eqb (unit_word other) (unit_word unit) ≡ same_unit unit other
same_words {unit} {other} laned laned' =
    same_test (eqb (unit_word other) (unit_word unit)) (same_unit unit other)
    (λ e.
    let same : unit ≡ other =
    sym (word_numbers laned) ∙ ap (λ (w : ℕ). unit_numbers (word_lanes w)) (sym (eqb-true (unit_word other) (unit_word unit) e)) ∙ word_numbers laned' in
    subst (λ (x : List ℕ). same_unit unit x ≡ true) same (same_self unit))
    (λ e. eq-eqb (unit_word other) (unit_word unit) (ap unit_word (sym (same_is unit other e))))

-- a unit is in the schedule where its word is among the scheduled words
among_units : (order : List ℕ) (unit : List ℕ) → Laned unit → (units : List (List ℕ)) (i : ℕ) → Every Laned units
    → ((j : ℕ) → j < length units → get_or order (i + j) 0 ≡ unit_word (get_or units j []))
    → among_from (length units) i order (unit_word unit) ≡ any (same_unit unit) units
unfolding among_from
among_units order unit laned [] i every words = refl
among_units order unit laned (u ∷ us) i every words =
    ap (λ (test : Bool). elim test [ true ↦ true | false ↦ among_from (length us) (i + 1) order (unit_word unit) ])
    (ap (λ (w : ℕ). eqb w (unit_word unit)) (ap (λ (k : ℕ). get_or order k 0) (omega arith) ∙ words 0 (omega arith)) ∙ same_words laned every.0)
    ∙ by (same_unit unit u)
    (among_units order unit laned us (i + 1) every.1 (λ j h. ap (λ (k : ℕ). get_or order k 0) (omega arith) ∙ words (suc j) (omega arith)))
  where
    by : (test : Bool) → among_from (length us) (i + 1) order (unit_word unit) ≡ any (same_unit unit) us
        → elim test [ true ↦ true | false ↦ among_from (length us) (i + 1) order (unit_word unit) ] ≡ test || any (same_unit unit) us
    by true later = refl
    by false later = later

-- The units that go by one number, and of these the packs that are left in the table's reading and in the list's.
module _ (table : List ℕ) (gone : ℕ → Bool) (out : List ℕ → Bool) (s : ℕ) where
  -- those that go by s and are packs, without those that are out
  abbrev here : List ℕ → Bool
  here unit = eqb (lowest unit) s && is_pack unit

  abbrev stays : List ℕ → Bool
  stays unit = not (out unit)

  -- what the table says at s, if one goes by s
  abbrev said : Bool → List ℕ
  said there = pick (gone (get_or table s 0)) [] (pick there (pick (ltb 1 (word_lanes (get_or table s 0)).count) (word_line (get_or table s 0)) []) [])

  said_not : said false ≡ []
  said_not = by (gone (get_or table s 0))
    where
      by : (test : Bool) → ◌≡◌ {A = List ℕ} (pick test [] []) []
      by true = refl
      by false = refl

  -- no unit goes by s
  none_here : (units : List (List ℕ)) → Every Laned units → sums (occurs s) units ≡ 0 → keep here (keep stays units) ≡ []
  none_here [] laned absent = refl
  none_here (u ∷ us) laned absent = by (stays u) refl (none_here us laned.1 (omega arith))
    where
      differ : lowest u ≡ s → ⊥
      differ e = omega (arith, absent, lowest_in u (laned_filled laned.0), ap (λ (x : ℕ). occurs x u) e)

      by : (test : Bool) → stays u ≡ test → keep here (keep stays us) ≡ [] → keep here (keep stays (u ∷ us)) ≡ []
      by true e later =
          ap (keep here) (keep_yes stays u us e)
          ∙ keep_no here u (keep stays us) (ap (λ (test : Bool). test && is_pack u) (ne_eqb (lowest u) s differ))
          ∙ later
      by false e later = ap (keep here) (keep_no stays u us e) ∙ later

  -- a unit that goes by s: what the table says of it is what is said of the list of its statements
  abbrev told : Bool → Bool → List ℕ → List ℕ
  told is-out is-pack unit = pick is-out [] (pick is-pack (numbers_line unit) [])

  said_there : (unit : List ℕ) → Laned unit → get_or table s 0 ≡ unit_word unit → gone (unit_word unit) ≡ out unit → said true ≡ told (out unit) (is_pack unit) unit
  said_there unit laned word same =
      ap (λ (w : ℕ). pick (gone w) [] (pick (ltb 1 (word_lanes w).count) (word_line w) [])) word
      ∙ ap₂ (λ (is-out : Bool) (lanes : Lanes). pick is-out [] (pick (ltb 1 lanes.count) (numbers_line (unit_numbers lanes)) [])) same (lanes_read laned)
      ∙ ap (λ (ns : List ℕ). told (out unit) (is_pack unit) ns) (lanes_numbers laned)

  kept_alone : (unit : List ℕ) (units : List (List ℕ)) → lowest unit ≡ s → keep here (keep stays units) ≡ []
      → told (out unit) (is_pack unit) unit ≡ unit_lines (keep here (keep stays (unit ∷ units)))
  kept_alone unit units own none = by (out unit) refl (is_pack unit) refl
    where
      by : (is-out : Bool) → out unit ≡ is-out → (is-pack : Bool) → is_pack unit ≡ is-pack
          → told is-out is-pack unit ≡ unit_lines (keep here (keep stays (unit ∷ units)))
      by true e is-pack f = sym (ap (λ (us : List (List ℕ)). unit_lines (keep here us)) (keep_no stays unit units (ap not e)) ∙ ap unit_lines none)
      by false e true f =
          sym
          (ap (λ (us : List (List ℕ)). unit_lines (keep here us)) (keep_yes stays unit units (ap not e))
          ∙ ap unit_lines (keep_yes here unit (keep stays units) (ap₂ ◌&&◌ (eq-eqb (lowest unit) s own) f) ∙ ap {B = List (List ℕ)} (λ us. unit ∷ us) none)
          ∙ append-nil (numbers_line unit))
      by false e false f =
          sym
          (ap (λ (us : List (List ℕ)). unit_lines (keep here us)) (keep_yes stays unit units (ap not e))
          ∙ ap unit_lines (keep_no here unit (keep stays units) (ap₂ ◌&&◌ (eq-eqb (lowest unit) s own) f) ∙ none))

  passed_by : (unit : List ℕ) (units : List (List ℕ)) → eqb (lowest unit) s ≡ false → keep here (keep stays (unit ∷ units)) ≡ keep here (keep stays units)
  passed_by unit units other = by (stays unit) refl
    where
      by : (test : Bool) → stays unit ≡ test → keep here (keep stays (unit ∷ units)) ≡ keep here (keep stays units)
      by true e = ap (keep here) (keep_yes stays unit units e) ∙ keep_no here unit (keep stays units) (ap (λ (test : Bool). test && is_pack unit) other)
      by false e = ap (keep here) (keep_no stays unit units e)

  at_number : (units : List (List ℕ)) → Every Laned units → sums (occurs s) units ≤ 1
      → ((unit : List ℕ) → In unit units → get_or table (lowest unit) 0 ≡ unit_word unit) → ((unit : List ℕ) → In unit units → gone (unit_word unit) ≡ out unit)
      → said (any (λ unit. eqb (lowest unit) s) units) ≡ unit_lines (keep here (keep stays units))
  at_number [] laned once words same = said_not
  at_number (u ∷ us) laned once words same =
      by (eqb (lowest u) s) refl
      (λ few. at_number us laned.1 few (λ unit there. words unit (inr there)) (λ unit there. same unit (inr there)))
    where
      by : (test : Bool) → eqb (lowest u) s ≡ test
          → (sums (occurs s) us ≤ 1 → said (any (λ unit. eqb (lowest unit) s) us) ≡ unit_lines (keep here (keep stays us)))
          → said (test || any (λ unit. eqb (lowest unit) s) us) ≡ unit_lines (keep here (keep stays (u ∷ us)))
      by true e later =
          let own : lowest u ≡ s = eqb-true (lowest u) s e in
          let absent : sums (occurs s) us ≡ 0 = omega (arith, once, lowest_in u (laned_filled laned.0), ap (λ (x : ℕ). occurs x u) own) in
          said_there u laned.0 (ap (λ (x : ℕ). get_or table x 0) (sym own) ∙ words u (inl refl)) (same u (inl refl))
          ∙ kept_alone u us own (none_here us laned.1 absent)
      by false e later = later (omega arith) ∙ ap unit_lines (sym (passed_by u us e))

-- with none out all are kept
keep_all : (units : List (List ℕ)) → keep (λ unit. true) units ≡ units
keep_all [] = refl
keep_all (u ∷ us) = ap {B = List (List ℕ)} (λ rest. u ∷ rest) (keep_all us)

-- what holds of every unit holds of each by its number
every_unit : (P : List ℕ → Type 0) (units : List (List ℕ)) (i : ℕ) → Every P units → i < length units → P (get_or units i [])
every_unit P [] i every h = absurd (omega arith)
every_unit P (u ∷ us) zero every h = every.0
every_unit P (u ∷ us) (suc i) every h = every_unit P us i every.1 (omega arith)

module _ (ss : List Statement) (few : length ss ≤ 64) where
  all_laned : (units : List (List ℕ)) → Units ss units → Every Laned units
  all_laned units known = every_weaker (λ unit fits. fits_laned ss unit few fits) units known.fit

  -- The units of the schedule, in order.
  pub schedule_told : (scheduled : List (List ℕ)) (order : List ℕ) (size : ℕ) → Units ss scheduled → InOrder scheduled order size
      → schedule_lines_in order size ≡ schedule_lines scheduled
  schedule_told scheduled order size known in_order =
      ap (λ (k : ℕ). schedule_lines_in order k) (sym in_order.sized)
      ∙ each_listed (λ k. word_line (get_or order k 0)) numbers_line [] scheduled 0
      (λ j h.
      ap (λ (k : ℕ). word_line (get_or order k 0)) (zero-add j)
      ∙ ap word_line (in_order.words j (omega (arith, in_order.sized)))
      ∙ ap numbers_line (word_numbers (every_unit Laned scheduled j (all_laned scheduled known) h)))

  module _ (direct needs table : List ℕ) (units : List (List ℕ)) (waiting : ℕ) (known : Units ss units) (waits : Waits direct units table needs waiting) where
    -- The packs that combination made, by lowest statement number.
    pub packs_told : pack_lines_in table waiting ≡ pack_lines units
    unfolding pack_lines
    packs_told =
        each_same (pack_line table waiting) _ 64 0 λ s low high.
        ap (λ (test : Bool). pick test (pick (ltb 1 (word_lanes (get_or table s 0)).count) (word_line (get_or table s 0)) []) []) (waits.numbers s)
        ∙ at_number table (λ word. false) (λ unit. false) s units (all_laned units known) (at_most_once ss units nobody (all_wait ss units known) s) waits.word
        (λ unit there. refl)
        ∙ ap (λ (us : List (List ℕ)). unit_lines (keep (λ unit. eqb (lowest unit) s && is_pack unit) us)) (keep_all units)

    -- The packs that the schedule dissolved.
    pub dissolved_told : (scheduled : List (List ℕ)) (order : List ℕ) (size : ℕ) → Units ss scheduled → InOrder scheduled order size
        → dissolved_lines_in table waiting order size ≡ dissolved_lines units scheduled
    unfolding pack_lines
    dissolved_told scheduled order size known' in_order =
        each_same (dissolved_line table waiting order size) _ 64 0 λ s low high.
        ap
        (λ (test : Bool).
        pick (among_from size 0 order (get_or table s 0)) [] (pick test (pick (ltb 1 (word_lanes (get_or table s 0)).count) (word_line (get_or table s 0)) []) []))
        (waits.numbers s)
        ∙ at_number table (among_from size 0 order) (λ unit. any (same_unit unit) scheduled) s units (all_laned units known)
        (at_most_once ss units nobody (all_wait ss units known) s) waits.word among
      where
        among : (unit : List ℕ) → In unit units → among_from size 0 order (unit_word unit) ≡ any (same_unit unit) scheduled
        among unit there =
            ap (λ (k : ℕ). among_from k 0 order (unit_word unit)) (sym in_order.sized)
            ∙ among_units order unit (every_in Laned units unit (all_laned units known) there) scheduled 0 (all_laned scheduled known')
            (λ j h. ap (λ (k : ℕ). get_or order k 0) (zero-add j) ∙ in_order.words j (omega (arith, in_order.sized)))
