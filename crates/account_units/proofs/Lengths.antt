-- How long the sections are at most, so that a program can show that it has room for them: in all units together no statement is twice.
use mathlib.Core.Path.{◌≡◌, refl, ap}
use mathlib.Core.Bool.{Bool, true, false, ◌&&◌, not}
use mathlib.Core.List.{List, [], ◌∷◌, ◌++◌}
use Prim.Native.Nat.{ℕ, zero, suc, ◌+◌, ◌*◌, ◌≤◌, ◌<◌}
use native.Mathlib.Omega.{arith}
use lib.Dec.{eqb}
use lib.ListN.{length, length-append}
use borrow.Author.Tests.{eqb-true, eqb-false, ne_eqb}
use Rattle.basics.specs.Choice.{pick}
use Rattle.basics.specs.Counting.{count}
use Rattle.basics.specs.Lists.{any, keep, flat}
use Rattle.basics.proofs.Parts.{flat_length}
use Rattle.basics.proofs.Finding.{keep_yes, keep_no}
use Rattle.meaning.specs.declared.Statement.{Statement}
use Rattle.meaning.specs.Pairs.{Pair, is_left, is_right, chain_along, chain}
use Rattle.meaning.specs.Combination.{pairwise, cut, combine}
use Rattle.meaning.specs.Schedule.{lowest, is_pack}
use Rattle.theorems.specs.Units.{Every, Units}
use Rattle.theorems.proofs.Occurs.{every_weaker}
use Rattle.theorems.proofs.Pairs.{Admitted}
use Rattle.theorems.proofs.Combination.{combined_units}
use Rattle.theorems.proofs.Units.{fits_filled, units_size}
use Rattle.text.proofs.Spelling.{length_decimal}
use Rattle.account_units.specs.Lines.{number_text, numbers_text, numbers_line, each_from, or_none, section}
use Rattle.account_units.specs.Sections.{unit_lines, pair_lines, chain_lines, pack_lines, same_unit, dissolved_lines, pair_section, chain_section, pack_section, schedule_section, dissolved_section, pairs_heading, chains_heading, packs_heading, schedule_heading, dissolved_heading}

-- a line of numbers, each of at most 20 digits
line_length : (ns : List ℕ) → length (numbers_line ns) ≤ 2 + 21 * length ns
line_length ns =
    omega (
      arith,
      length-append (numbers_text ns) (10 ∷ []),
      flat_length number_text 21 (λ n. omega (arith, length_decimal n)) ns,
    )

-- a section with one line more, which may say that there is none
none_length : (lines : List ℕ) → length (or_none lines) ≤ 7 + length lines
none_length [] = omega arith
none_length (byte ∷ bytes) = omega arith

section_length : (heading lines : List ℕ) → length (section heading lines) ≤ length heading + 7 + length lines
section_length heading lines = omega (arith, length-append heading (or_none lines), none_length lines)

-- lines of units, of which none is empty
units_length : (units : List (List ℕ)) → Every (λ unit. 0 < length unit) units → length (unit_lines units) ≤ 23 * length (flat units)
units_length [] filled = omega arith
units_length (u ∷ us) filled =
    omega (arith, length-append (numbers_line u) (unit_lines us), length-append u (flat us), line_length u, filled.0, units_length us filled.1)

keep_shorter : (test : List ℕ → Bool) (units : List (List ℕ)) → length (unit_lines (keep test units)) ≤ length (unit_lines units)
keep_shorter test [] = omega arith
keep_shorter test (u ∷ us) = by (test u) refl (keep_shorter test us)
  where
    by : (passes : Bool) → test u ≡ passes → length (unit_lines (keep test us)) ≤ length (unit_lines us) → length (unit_lines (keep test (u ∷ us))) ≤ length (unit_lines (u ∷ us))
    by true e later =
        omega (
          arith,
          later,
          ap (λ (kept : List (List ℕ)). length (unit_lines kept)) (keep_yes test u us e),
          length-append (numbers_line u) (unit_lines (keep test us)),
          length-append (numbers_line u) (unit_lines us),
        )
    by false e later =
        omega (arith, later, ap (λ (kept : List (List ℕ)). length (unit_lines kept)) (keep_no test u us e), length-append (numbers_line u) (unit_lines us))

-- packs by lowest number: each is said at one number at most
abbrev packs_at : List (List ℕ) → ℕ → List ℕ
packs_at units s = unit_lines (keep (λ unit. eqb (lowest unit) s && is_pack unit) units)

module _ (u : List ℕ) (us : List (List ℕ)) where
  said_here : (s : ℕ) → length (packs_at (u ∷ us) s) ≤ length (numbers_line u) + length (packs_at us s)
  said_here s = by (eqb (lowest u) s && is_pack u) refl
    where
      by : (test : Bool) → eqb (lowest u) s && is_pack u ≡ test → length (packs_at (u ∷ us) s) ≤ length (numbers_line u) + length (packs_at us s)
      by true e =
          omega (
            arith,
            ap (λ (kept : List (List ℕ)). length (unit_lines kept)) (keep_yes (λ unit. eqb (lowest unit) s && is_pack unit) u us e),
            length-append (numbers_line u) (packs_at us s),
          )
      by false e = omega (arith, ap (λ (kept : List (List ℕ)). length (unit_lines kept)) (keep_no (λ unit. eqb (lowest unit) s && is_pack unit) u us e))

  not_here : (s : ℕ) → (lowest u ≡ s → ⊥) → packs_at (u ∷ us) s ≡ packs_at us s
  not_here s differ =
      ap unit_lines (keep_no (λ unit. eqb (lowest unit) s && is_pack unit) u us (ap (λ (test : Bool). test && is_pack u) (ne_eqb (lowest u) s differ)))

  said_before : (k i : ℕ) → lowest u < i → length (each_from k i (packs_at (u ∷ us))) ≡ length (each_from k i (packs_at us))
  unfolding each_from
  said_before zero i low = refl
  said_before (suc k) i low =
      let here : length (packs_at (u ∷ us) i) ≡ length (packs_at us i) = ap length (not_here i (λ e. omega arith)) in
      omega (
        arith,
        here,
        length-append (packs_at (u ∷ us) i) (each_from k (i + 1) (packs_at (u ∷ us))),
        length-append (packs_at us i) (each_from k (i + 1) (packs_at us)),
        said_before k (i + 1) (omega arith),
      )

  said_once : (k i : ℕ) → length (each_from k i (packs_at (u ∷ us))) ≤ length (numbers_line u) + length (each_from k i (packs_at us))
  unfolding each_from
  said_once zero i = omega arith
  said_once (suc k) i = by (eqb (lowest u) i) refl (said_once k (i + 1))
    where
      by : (test : Bool) → eqb (lowest u) i ≡ test
          → length (each_from k (i + 1) (packs_at (u ∷ us))) ≤ length (numbers_line u) + length (each_from k (i + 1) (packs_at us))
          → length (packs_at (u ∷ us) i ++ each_from k (i + 1) (packs_at (u ∷ us))) ≤ length (numbers_line u) + length (packs_at us i ++ each_from k (i + 1) (packs_at us))
      by true e later =
          omega (
            arith,
            said_here i,
            said_before k (i + 1) (omega (arith, eqb-true (lowest u) i e)),
            length-append (packs_at (u ∷ us) i) (each_from k (i + 1) (packs_at (u ∷ us))),
            length-append (packs_at us i) (each_from k (i + 1) (packs_at us)),
          )
      by false e later =
          omega (
            arith,
            later,
            ap length (not_here i (eqb-false (lowest u) i e)),
            length-append (packs_at (u ∷ us) i) (each_from k (i + 1) (packs_at (u ∷ us))),
            length-append (packs_at us i) (each_from k (i + 1) (packs_at us)),
          )

none_said : (k i : ℕ) → each_from k i (packs_at []) ≡ []
unfolding each_from
none_said zero i = refl
none_said (suc k) i = none_said k (i + 1)

each_pack : (units : List (List ℕ)) (k i : ℕ) → length (each_from k i (packs_at units)) ≤ length (unit_lines units)
each_pack [] k i = omega (arith, ap length (none_said k i))
each_pack (u ∷ us) k i = omega (arith, said_once u us k i, each_pack us k i, length-append (numbers_line u) (unit_lines us))

packs_length : (units : List (List ℕ)) → length (pack_lines units) ≤ length (unit_lines units)
unfolding pack_lines
packs_length units = each_pack units 64 0

-- the statements of a chain are those of the units that it is cut into
cut_length : (ss : List Statement) (c : List ℕ) → length (flat (cut ss c)) ≡ length c
unfolding cut
cut_length ss [] = refl
cut_length ss (a ∷ []) = refl
cut_length ss (a ∷ b ∷ []) = refl
cut_length ss (a ∷ b ∷ c ∷ []) = refl
cut_length ss (a ∷ b ∷ c ∷ d ∷ rest) = either (pairwise ss (a ∷ b ∷ c ∷ d ∷ [])) (cut_length ss rest) (cut_length ss (c ∷ d ∷ rest))
  where
    either : (test : Bool) → length (flat (cut ss rest)) ≡ length rest → length (flat (cut ss (c ∷ d ∷ rest))) ≡ length (c ∷ d ∷ rest)
        → length {A = ℕ} (flat (elim test [ true ↦ (a ∷ b ∷ c ∷ d ∷ []) ∷ cut ss rest | false ↦ (a ∷ b ∷ []) ∷ cut ss (c ∷ d ∷ rest) ]))
        ≡ length (a ∷ b ∷ c ∷ d ∷ rest)
    either true after-four after_two = omega arith
    either false after-four after_two = omega arith

flat_both : (xs ys : List (List ℕ)) → length (flat (xs ++ ys)) ≡ length (flat xs) + length (flat ys)
flat_both [] ys = omega arith
flat_both (x ∷ xs) ys = omega (arith, length-append x (flat (xs ++ ys)), length-append x (flat xs), flat_both xs ys)

chain_filled : (pairs : List Pair) (s : ℕ) → 0 < length (chain pairs s)
unfolding chain
chain_filled pairs s = filled (length pairs)
  where
    filled : (n : ℕ) → 0 < length (chain_along n pairs s)
    filled zero = omega arith
    filled (suc n) = omega arith

module _ (ss : List Statement) (pairs : List Pair) where
  abbrev chain_at : ℕ → List ℕ
  chain_at s = pick (is_left pairs s && not (is_right pairs s)) (numbers_line (chain pairs s)) []

  abbrev units_at : ℕ → List (List ℕ)
  units_at s = pick (is_right pairs s) [] (cut ss (chain pairs s))

  chain_length : (s : ℕ) → length (chain_at s) ≤ 23 * length (flat (units_at s))
  chain_length s = by (is_left pairs s) (is_right pairs s)
    where
      by : (left right : Bool) → length (pick (left && not right) (numbers_line (chain pairs s)) []) ≤ 23 * length (flat (pick right [] (cut ss (chain pairs s))))
      by true true = omega arith
      by true false = omega (arith, line_length (chain pairs s), cut_length ss (chain pairs s), chain_filled pairs s)
      by false true = omega arith
      by false false = omega arith

  chains_within : (k i : ℕ) (units : List (List ℕ))
      → length (each_from k i chain_at) + 23 * length (flat units) ≤ 23 * length (flat (count k i (λ s units. units ++ units_at s) units))
  unfolding each_from
  chains_within zero i units = omega arith
  chains_within (suc k) i units =
      omega (
        arith,
        length-append (chain_at i) (each_from k (i + 1) chain_at),
        chain_length i,
        flat_both units (units_at i),
        chains_within k (i + 1) (units ++ units_at i),
      )

  chains_length : length (chain_lines (length ss) pairs) ≤ 23 * length (flat (combine ss pairs))
  unfolding chain_lines combine
  chains_length = omega (arith, chains_within (length ss) 0 [])

-- The sections: of pairs by how many there are, the others by how many statements the block has.
pub pair_section_length : (pairs : List Pair) → length (pair_section pairs) ≤ 33 + 44 * length pairs
pair_section_length pairs =
    omega (
      arith,
      section_length pairs_heading (pair_lines pairs),
      flat_length (λ (p : Pair). numbers_line (p.left ∷ p.right ∷ [])) 44 (λ p. line_length (p.left ∷ p.right ∷ [])) pairs,
    )

module _ (ss : List Statement) where
  all_units : (units : List (List ℕ)) → Units ss units → length (unit_lines units) ≤ 23 * length ss
  all_units units known =
      omega (arith, units_length units (every_weaker (fits_filled ss) units known.fit), units_size ss units known)

  pub chain_section_length : (pairs : List Pair) → Admitted ss pairs → length (chain_section (length ss) pairs) ≤ 15 + 23 * length ss
  chain_section_length pairs known =
      omega (
        arith,
        section_length chains_heading (chain_lines (length ss) pairs),
        chains_length ss pairs,
        units_size ss (combine ss pairs) (combined_units ss pairs known),
      )

  pub pack_section_length : (units : List (List ℕ)) → Units ss units → length (pack_section units) ≤ 14 + 23 * length ss
  pack_section_length units known = omega (arith, section_length packs_heading (pack_lines units), packs_length units, all_units units known)

  pub schedule_section_length : (scheduled : List (List ℕ)) → Units ss scheduled → length (schedule_section scheduled) ≤ 17 + 23 * length ss
  schedule_section_length scheduled known = omega (arith, section_length schedule_heading (unit_lines scheduled), all_units scheduled known)

  pub dissolved_section_length : (units scheduled : List (List ℕ)) → Units ss units → length (dissolved_section units scheduled) ≤ 24 + 23 * length ss
  dissolved_section_length units scheduled known =
      omega (
        arith,
        section_length dissolved_heading (dissolved_lines units scheduled),
        packs_length (keep (λ unit. not (any (same_unit unit) scheduled)) units),
        keep_shorter (λ unit. not (any (same_unit unit) scheduled)) units,
        all_units units known,
      )
