-- Units by value and as words: what is read off four lanes is what is said of the list of the statements in them, and a word that is read
-- back gives the unit that was written.
use mathlib.Core.Path.{◌≡◌, refl, sym, ap, ap₂, ◌∙◌}
use mathlib.Core.Bool.{Bool, true, false}
use mathlib.Core.List.{List, [], ◌∷◌}
use Prim.Native.Nat.{ℕ, ◌+◌, ◌*◌, ◌/◌, ◌≤◌, ◌<◌, min}
use native.Mathlib.Omega.{arith}
use lib.Bits.{or_zero_l, or_zero_r}
use lib.Dec.{ltb}
use lib.ListN.{length, get_or}
use borrow.Author.Tests.{ltb-true, ltb-false, lt-ltb}
use Rattle.basics.specs.Choice.{pick}
use Rattle.basics.specs.Sets.{only, join}
use Rattle.basics.proofs.Sets.{join_assoc}
use Rattle.meaning.specs.declared.Statement.{Statement}
use Rattle.meaning.specs.Schedule.{lowest, with_unit}
use Rattle.theorems.specs.Units.{Fits}
use Rattle.theorems.proofs.Units.{fits_sized}
use Rattle.units.specs.declared.Unit.{Unit as Lanes}
use Rattle.units.specs.Words.{unit_word}
use Rattle.units.specs.Waiting.{needed_by}
use Rattle.units.specs.Lanes.{lanes_of, word_lanes, lower_lane, lowest_lane, member_lane, member_lanes, needed_lanes}

-- one, two or four statements, by numbers below 64
pub data Laned : List ℕ → Type 0 where
  one : {a : ℕ} → a < 64 → Laned (a ∷ [])
  two : {a b : ℕ} → a < 64 → b < 64 → Laned (a ∷ b ∷ [])
  four : {a b c d : ℕ} → a < 64 → b < 64 → c < 64 → d < 64 → Laned (a ∷ b ∷ c ∷ d ∷ [])

-- units that fit are such
pub fits_laned : (ss : List Statement) (unit : List ℕ) → length ss ≤ 64 → Fits ss unit → Laned unit
fits_laned ss [] small fits = let size = fits_sized ss [] fits in absurd (omega (arith, size.0))
fits_laned ss (a ∷ []) small fits = one {a = a} (omega (arith, fits.in_range.0))
fits_laned ss (a ∷ b ∷ []) small fits = two {a = a} {b = b} (omega (arith, fits.in_range.0)) (omega (arith, fits.in_range.1.0))
fits_laned ss (a ∷ b ∷ c ∷ []) small fits = absurd ((fits_sized ss (a ∷ b ∷ c ∷ []) fits).2 refl)
fits_laned ss (a ∷ b ∷ c ∷ d ∷ []) small fits =
    four {a = a} {b = b} {c = c} {d = d} (omega (arith, fits.in_range.0)) (omega (arith, fits.in_range.1.0)) (omega (arith, fits.in_range.1.1.0))
    (omega (arith, fits.in_range.1.1.1.0))
fits_laned ss (a ∷ b ∷ c ∷ d ∷ e ∷ rest) small fits =
    let size = fits_sized ss (a ∷ b ∷ c ∷ d ∷ e ∷ rest) fits in
    absurd (omega (arith, size.1))

-- the unit of four lanes and a count
abbrev lanes_by : ℕ → ℕ → ℕ → ℕ → ℕ → Lanes
lanes_by a b c d k = record { lanes = a ∷ b ∷ c ∷ d ∷ []; count = k }

same_lanes : {a b c d k a' b' c' d' k' : ℕ} → a ≡ a' → b ≡ b' → c ≡ c' → d ≡ d' → k ≡ k' → lanes_by a b c d k ≡ lanes_by a' b' c' d' k'
same_lanes e f g h i = rw (e, f, g, h, i)

-- Reading back the word of a unit gives its lanes and count.
pub word_read : (a b c d k : ℕ) → a < 256 → b < 256 → c < 256 → d < 256 → k < 256
    → word_lanes (a + 256 * b + 65536 * (c + 256 * d) + 4294967296 * k) ≡ lanes_by a b c d k
word_read a b c d k ha hb hc hd hk =
    let word = a + 256 * b + 65536 * (c + 256 * d) + 4294967296 * k in
    let behind_one : word / 256 ≡ b + 256 * (c + 256 * d + 65536 * k) = omega arith in
    let behind-two : word / 65536 ≡ c + 256 * (d + 256 * k) = omega arith in
    let behind-three : word / 16777216 ≡ d + 256 * k = omega arith in
    let behind-four : word / 4294967296 ≡ k = omega arith in
    same_lanes (omega arith) (rw behind_one (omega arith)) (rw behind-two (omega arith)) (rw behind-three (omega arith)) (rw behind-four (omega arith))

pub lanes_read : {unit : List ℕ} → Laned unit → word_lanes (unit_word unit) ≡ lanes_of unit
lanes_read (one {a} ha) = word_read a 64 64 64 1 (omega arith) (omega arith) (omega arith) (omega arith) (omega arith)
lanes_read (two {a} {b} ha hb) = word_read a b 64 64 2 (omega arith) (omega arith) (omega arith) (omega arith) (omega arith)
lanes_read (four {a} {b} {c} {d} ha hb hc hd) = word_read a b c d 4 (omega arith) (omega arith) (omega arith) (omega arith) (omega arith)

-- "A unit goes by its lowest statement number."
lower_min : (s t : ℕ) → lower_lane s t ≡ min s t
lower_min s t = either (ltb s t) refl
  where
    either : (test : Bool) → ltb s t ≡ test → pick test s t ≡ min s t
    either true e = omega (arith, ltb-true s t e)
    either false e = omega (arith, ltb-false s t e)

lowest_min : (a b c d : ℕ) → lowest_lane (lanes_by a b c d 0) ≡ min (min a b) (min c d)
lowest_min a b c d = ap₂ lower_lane (lower_min a b) (lower_min c d) ∙ lower_min (min a b) (min c d)

pub lowest_lane_lem : {unit : List ℕ} → Laned unit → lowest_lane (lanes_of unit) ≡ lowest unit
lowest_lane_lem (one {a} ha) = lowest_min a 64 64 64 ∙ omega arith
lowest_lane_lem (two {a} {b} ha hb) = lowest_min a b 64 64 ∙ omega arith
lowest_lane_lem (four {a} {b} {c} {d} ha hb hc hd) = lowest_min a b c d ∙ omega arith

pub lowest_small : {unit : List ℕ} → Laned unit → lowest unit < 64
lowest_small (one ha) = ha
lowest_small (two ha hb) = omega arith
lowest_small (four ha hb hc hd) = omega arith

-- the statements of a unit as a set
pub member_only : (s : ℕ) → s < 64 → member_lane s ≡ only s
member_only s h = rw (lt-ltb s 64 h)

pub members_with : {unit : List ℕ} → Laned unit → (set : ℕ) → join set (member_lanes (lanes_of unit)) ≡ with_unit unit set
members_with (one {a} ha) set =
    ap (join set)
    (or_zero_r (join (join (member_lane a) 0) 0) ∙ or_zero_r (join (member_lane a) 0) ∙ or_zero_r (member_lane a) ∙ member_only a ha)
members_with (two {a} {b} ha hb) set =
    ap (join set)
    (or_zero_r (join (join (member_lane a) (member_lane b)) 0)
    ∙ or_zero_r (join (member_lane a) (member_lane b))
    ∙ ap₂ join (member_only a ha) (member_only b hb))
    ∙ sym (join_assoc set (only a) (only b))
members_with (four {a} {b} {c} {d} ha hb hc hd) set =
    ap (join set) (ap₂ join (ap₂ join (ap₂ join (member_only a ha) (member_only b hb)) (member_only c hc)) (member_only d hd))
    ∙ sym (join_assoc set (join (join (only a) (only b)) (only c)) (only d))
    ∙ ap (λ (x : ℕ). join x (only d))
    (sym (join_assoc set (join (only a) (only b)) (only c)) ∙ ap (λ (x : ℕ). join x (only c)) (sym (join_assoc set (only a) (only b))))

-- and all that they depend on, where a lane that is not there depends on nothing
module _ (direct : List ℕ) (nothing : get_or direct 64 0 ≡ 0) where
  pub needed_lanes_lem : {unit : List ℕ} → Laned unit → needed_lanes direct (lanes_of unit) ≡ needed_by direct unit
  needed_lanes_lem (one {a} ha) =
      ap (λ (x : ℕ). join (join (get_or direct a 0) x) (join x x)) nothing
      ∙ or_zero_r (join (get_or direct a 0) 0)
      ∙ or_zero_r (get_or direct a 0)
      ∙ sym (or_zero_l (get_or direct a 0))
  needed_lanes_lem (two {a} {b} ha hb) =
      ap (λ (x : ℕ). join (join (get_or direct a 0) (get_or direct b 0)) (join x x)) nothing
      ∙ or_zero_r (join (get_or direct a 0) (get_or direct b 0))
      ∙ ap (λ (x : ℕ). join x (get_or direct b 0)) (sym (or_zero_l (get_or direct a 0)))
  needed_lanes_lem (four {a} {b} {c} {d} ha hb hc hd) =
      sym (join_assoc (join (get_or direct a 0) (get_or direct b 0)) (get_or direct c 0) (get_or direct d 0))
      ∙ ap (λ (x : ℕ). join (join (join x (get_or direct b 0)) (get_or direct c 0)) (get_or direct d 0)) (sym (or_zero_l (get_or direct a 0)))
