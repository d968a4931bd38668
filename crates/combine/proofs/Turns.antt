-- The turns of the loops: the next unit by the statements that follow, one unit more, and none left.
use mathlib.Core.Path.{◌≡◌, refl, ap, ◌∙◌}
use mathlib.Core.Bool.{Bool, true, false}
use mathlib.Core.List.{List, [], ◌∷◌}
use Prim.Native.Nat.{ℕ, zero, suc, ◌+◌, ◌-◌, ◌≤◌, ◌<◌}
use native.Mathlib.Nat.{sub-zero}
use lib.ListN.{get_or, set}
use borrow.Author.Tests.{ne_eqb}
use Rattle.basics.specs.Choice.{pick}
use Rattle.basics.specs.Counting.{count}
use Rattle.basics.specs.Sets.{join}
use Rattle.basics.proofs.Counting.{more, none_left}
use Rattle.units.specs.declared.Unit.{Unit as Lanes}
use Rattle.units.specs.Lanes.{lanes_of, lanes_word, lowest_lane, member_lane, needed_lanes}
use Rattle.combine.specs.Cutting.{Tables, tables, wait_in, four_apart, unit_from, next_unit, last_lane, cut_along, cut_from, combined}

module _ (reached next : List ℕ) where
  -- the next unit, by the three statements that follow
  next_unit_lem : (a b c d : ℕ) → get_or next a 64 ≡ b → get_or next b 64 ≡ c → get_or next c 64 ≡ d → next_unit reached next a ≡ unit_from reached a b c d
  unfolding next_unit
  next_unit_lem a b c d e f g = rw (e, f, g)

  pub one_next : (a : ℕ) → get_or next a 64 ≡ 64 → next_unit reached next a ≡ a ∷ []
  one_next a e = next_unit_lem a 64 (get_or next 64 64) (get_or next (get_or next 64 64) 64) e refl refl

  pub two_next : (a b c d : ℕ) → get_or next a 64 ≡ b → get_or next b 64 ≡ c → get_or next c 64 ≡ d → (b ≡ 64 → ⊥) → d ≡ 64 → next_unit reached next a ≡ a ∷ b ∷ []
  two_next a b c d e f g there none = next_unit_lem a b c 64 e f (g ∙ none) ∙ rw (ne_eqb b 64 there)

  pub four_next : (a b c d : ℕ) → get_or next a 64 ≡ b → get_or next b 64 ≡ c → get_or next c 64 ≡ d → (b ≡ 64 → ⊥) → (d ≡ 64 → ⊥)
      → (test : Bool) → four_apart reached a b c d ≡ test → next_unit reached next a ≡ pick test (a ∷ b ∷ c ∷ d ∷ []) (a ∷ b ∷ [])
  four_next a b c d e f g there there' test apart =
      next_unit_lem a b c d e f g
      ∙ four (ne_eqb b 64 there) (ne_eqb d 64 there')
      ∙ ap (λ (t : Bool). pick t (a ∷ b ∷ c ∷ d ∷ []) (a ∷ b ∷ [])) apart
    where
      four : {first last : Bool} → first ≡ false → last ≡ false
          → pick first (a ∷ []) (pick last (a ∷ b ∷ []) (pick (four_apart reached a b c d) (a ∷ b ∷ c ∷ d ∷ []) (a ∷ b ∷ [])))
          ≡ pick (four_apart reached a b c d) (a ∷ b ∷ c ∷ d ∷ []) (a ∷ b ∷ [])
      four p q = rw (p, q)

module _ (reached direct next : List ℕ) where
  -- no statement more
  pub cut_ended : (k at : ℕ) (t : Tables) → at ≡ 64 → cut_along k reached direct next at t ≡ t
  unfolding cut_along
  cut_ended k at t e = ap (λ (x : ℕ). cut_along k reached direct next x t) e ∙ past k
    where
      past : (k : ℕ) → cut_along k reached direct next 64 t ≡ t
      past zero = refl
      past (suc k) = refl

  -- one unit more
  pub cut_more : (k at : ℕ) (t : Tables) → (at ≡ 64 → ⊥)
      → cut_along (suc k) reached direct next at t
      ≡ cut_along k reached direct next (get_or next (last_lane (lanes_of (next_unit reached next at))) 64) (wait_in direct (lanes_of (next_unit reached next at)) t)
  unfolding cut_along
  cut_more k at t differ =
      ap (λ (test : Bool).
      elim test [
        | true ↦ t
        | false ↦
            cut_along k reached direct next (get_or next (last_lane (lanes_of (next_unit reached next at))) 64)
            (wait_in direct (lanes_of (next_unit reached next at)) t)
      ])
      (ne_eqb at 64 differ)

  -- what remains of n turns at i: one turn less, none
  pub cut_over : (n i at : ℕ) (t : Tables) → n ≤ i → cut_along (n - i) reached direct next at t ≡ t
  unfolding cut_along
  cut_over n i at t h = rw (none_left n i h)

  pub cut_turn : (n i at : ℕ) (units needs : List ℕ) (waiting : ℕ) {unit : Lanes} {units' needs' : List ℕ} {low last at' : ℕ} → i < n → (at ≡ 64 → ⊥)
      → unit ≡ lanes_of (next_unit reached next at)
      → units' ≡ set units (lowest_lane unit) (lanes_word unit)
      → needs' ≡ set needs (lowest_lane unit) (needed_lanes direct unit)
      → low ≡ member_lane (lowest_lane unit)
      → last ≡ last_lane unit
      → at' ≡ get_or next last 64
      → cut_along (n - i) reached direct next at (tables units needs waiting)
      ≡ cut_along (n - (i + 1)) reached direct next at' (tables units' needs' (join waiting low))
  cut_turn n i at units needs waiting below differ of-unit of-units of-needs of_low of-last of_at =
      ap (λ (k : ℕ). cut_along k reached direct next at (tables units needs waiting)) (more n i below)
      ∙ cut_more (n - (i + 1)) at (tables units needs waiting) differ
      ∙ rw (of_at, of-last, of-units, of-needs, of_low, of-unit)

-- what remains of all statements at the first of them
pub combined_start : (n : ℕ) (reached direct next : List ℕ) (rights : ℕ) (t : Tables)
    → combined n reached direct next rights t ≡ count (n - 0) 0 (cut_from n reached direct next rights) t
unfolding combined
combined_start n reached direct next rights t = rw (sub-zero n)
