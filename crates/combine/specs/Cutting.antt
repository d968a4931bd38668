-- Chains cut into units over the tables of rows and pairs, and the tables of the units that wait: one unit added after the other.
use Rattle.std.specs.Prelude.{ℕ, zero, suc, Bool, true, false, ◌&&◌, List, [], ◌∷◌, eqb, get_or, set}
use Rattle.basics.specs.Choice.{pick}
use Rattle.basics.specs.Counting.{count}
use Rattle.basics.specs.Sets.{join, has}
use Rattle.reach.specs.Rows.{no_path}
use Rattle.units.specs.declared.Unit.{Unit as Lanes}
use Rattle.units.specs.Lanes.{lanes_of, lane, lanes_word, lowest_lane, member_lane, needed_lanes}

-- the words of the units that wait and what each of them needs, by lowest number; and these numbers
pub record Tables : Type 0 where
  pub units : List ℕ
  pub needs : List ℕ
  pub waiting : ℕ

abbrev pub tables : List ℕ → List ℕ → ℕ → Tables
tables units needs waiting = record { units = units; needs = needs; waiting = waiting }

-- one unit more
abbrev pub wait_in : List ℕ → Lanes → Tables → Tables
wait_in direct unit t =
    record {
      units = set t.units (lowest_lane unit) (lanes_word unit);
      needs = set t.needs (lowest_lane unit) (needed_lanes direct unit);
      waiting = join t.waiting (member_lane (lowest_lane unit));
    }

-- "pairwise independent", of four
abbrev pub four_apart : List ℕ → ℕ → ℕ → ℕ → ℕ → Bool
four_apart reached a b c d =
    no_path reached a b
    && (no_path reached a c && (no_path reached a d && (no_path reached b c && (no_path reached b d && no_path reached c d))))

-- "the next four statements if at least four remain and these are pairwise independent, else the next two if at least two remain, else one
-- single", from a on
abbrev pub unit_from : List ℕ → ℕ → ℕ → ℕ → ℕ → List ℕ
unit_from reached a b c d =
    pick (eqb b 64) (a ∷ []) (pick (eqb d 64) (a ∷ b ∷ []) (pick (four_apart reached a b c d) (a ∷ b ∷ c ∷ d ∷ []) (a ∷ b ∷ [])))

unfoldable pub next_unit : List ℕ → List ℕ → ℕ → List ℕ
next_unit reached next a = unit_from reached a (get_or next a 64) (get_or next (get_or next a 64) 64) (get_or next (get_or next (get_or next a 64) 64) 64)

abbrev pub last_lane : Lanes → ℕ
last_lane unit = pick (eqb unit.count 4) (lane unit 3) (pick (eqb unit.count 2) (lane unit 1) (lane unit 0))

-- the units of the chain from a statement on, at most so many
unfoldable pub cut_along : ℕ → List ℕ → List ℕ → List ℕ → ℕ → Tables → Tables
cut_along zero reached direct next at t = t
cut_along (suc k) reached direct next at t =
    elim (eqb at 64) [
      | true ↦ t
      | false ↦
          cut_along k reached direct next (get_or next (last_lane (lanes_of (next_unit reached next at))) 64)
          (wait_in direct (lanes_of (next_unit reached next at)) t)
    ]

-- those of the longest chain from s on, where one begins there
abbrev pub cut_from : ℕ → List ℕ → List ℕ → List ℕ → ℕ → ℕ → Tables → Tables
cut_from n reached direct next rights s t = pick (has rights s) t (cut_along n reached direct next s t)

unfoldable pub combined : ℕ → List ℕ → List ℕ → List ℕ → ℕ → Tables → Tables
combined n reached direct next rights t = count n 0 (cut_from n reached direct next rights) t
