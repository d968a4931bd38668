-- The table of homes says for each variable where the list of homes has it: at a write, at X, and when a pack's variables land.
use mathlib.Core.Path.{◌≡◌, refl, sym, ap, subst, ◌∙◌}
use mathlib.Core.Logic.{◌⊎◌, inl, inr}
use mathlib.Core.Bool.{Bool, true, false, not}
use mathlib.Core.Option.{Option, none, some}
use mathlib.Core.List.{List, [], ◌∷◌, ◌++◌, map}
use Prim.Native.Nat.{ℕ, suc, ◌+◌, ◌*◌, ◌/◌, ◌≤◌, ◌<◌}
use native.Mathlib.Omega.{arith}
use lib.Dec.{eqb}
use lib.ListN.{length, get_or, set, replicate, length-set, length-replicate}
use lib.Seq.{get_or-set_same, get_or-set_other, set_out}
use borrow.Author.Tests.{eqb-true, eqb-false, eq-eqb, ne_eqb, lt-ltb}
use Rattle.basics.specs.Lists.{all, keep, first}
use Rattle.basics.proofs.Lists.{replicate_at}
use Rattle.basics.proofs.Finding.{keep_yes, keep_no, first_yes, first_no, first_ahead, first_behind}
use Rattle.basics.proofs.Tests.{passes_or_fails}
use Rattle.basics.proofs.Parts.{all_first, all_others}
use Rattle.meaning.specs.declared.Place.{Place}
use Rattle.meaning.specs.declared.Place.TheVariants.{Variable, Cell}
use Rattle.meaning.specs.declared.Operand.TheVariants.{Constant, Held}
use Rattle.meaning.specs.Emission.{Home, is_home, not_in_lane, homes_from}
use Rattle.theorems.specs.Steps.{away_from}
use Rattle.codes.specs.Codes.{operand_code, place_code}
use Rattle.codes.specs.Fitting.{place_fits}
use Rattle.codes.proofs.Places.{variable_fits}
use Rattle.lanes.specs.Homes.{set_home}

-- where a variable is, as a number: 0 in memory
abbrev pub Homed : ℕ → Option Home → Type 0
Homed n none = n ≡ 0
Homed n (some h) = (n ≡ 4 * h.register + 1 + h.lane) × ((h.lane < 4) × (h.register < 96))

pub record Homes (homes : List Home) (table : List ℕ) : Type 0 where
  pub sized : length table ≡ 257
  pub nothing : get_or table 0 0 ≡ 0
  pub variables : (v : ℕ) → v < 256 → Homed (get_or table (suc v) 0) (first (is_home v) homes)

-- no variable is in a lane before the first unit
pub no_homes : Homes [] (replicate 257 0)
no_homes = record { sized = length-replicate {A = ℕ} 257 0; nothing = replicate_at {A = ℕ} 257 0 0; variables = λ v small. replicate_at {A = ℕ} 257 (suc v) 0 }

-- the slot of a variable; whatever is no variable has none
pub variable_slot : (v : ℕ) → place_code (Variable v) / 2 ≡ suc v
variable_slot v = omega arith

pub cell_slot : (a i : ℕ) → 257 ≤ place_code (Cell a i) / 2
cell_slot a i = omega arith

pub constant_slot : (c : ℕ) → 257 ≤ operand_code (Constant c) / 2
constant_slot c = omega arith

set_beyond : (table : List ℕ) (code value : ℕ) → length table ≡ 257 → 257 ≤ code / 2 → set_home table code value ≡ table
set_beyond table code value sized far =
    rw (lt-ltb 0 (code / 2) (omega arith)) (set_out table (code / 2) value (omega arith))

set_variable : (table : List ℕ) (v value : ℕ) → set_home table (place_code (Variable v)) value ≡ set table (suc v) value
set_variable table v value = rw (variable_slot v, lt-ltb 0 (suc v) (omega arith))

-- the first home of a variable, where those of one variable are dropped
first_dropped : (v : ℕ) (homes : List Home) → first (is_home v) (keep (λ h. not (is_home v h)) homes) ≡ none
first_dropped v [] = refl
first_dropped v (h ∷ homes) = by (is_home v h) refl (first_dropped v homes)
  where
    by : (t : Bool) → is_home v h ≡ t → first (is_home v) (keep (λ x. not (is_home v x)) homes) ≡ none
        → first (is_home v) (keep (λ x. not (is_home v x)) (h ∷ homes)) ≡ none
    by true t rest = rw (keep_no (λ x. not (is_home v x)) h homes (ap not t)) rest
    by false t rest =
        rw (keep_yes (λ x. not (is_home v x)) h homes (ap not t)) (first_no (is_home v) h (keep (λ x. not (is_home v x)) homes) t ∙ rest)

first_others : (v w : ℕ) (homes : List Home) → (w ≡ v → ⊥) → first (is_home w) (keep (λ h. not (is_home v h)) homes) ≡ first (is_home w) homes
first_others v w [] differ = refl
first_others v w (h ∷ homes) differ = by (is_home v h) (is_home w h) refl refl (first_others v w homes differ)
  where
    by : (t u : Bool) → is_home v h ≡ t → is_home w h ≡ u → first (is_home w) (keep (λ x. not (is_home v x)) homes) ≡ first (is_home w) homes
        → first (is_home w) (keep (λ x. not (is_home v x)) (h ∷ homes)) ≡ first (is_home w) (h ∷ homes)
    by true true t u rest = absurd (differ (sym (eqb-true h.variable w u) ∙ eqb-true h.variable v t))
    by true false t u rest =
        rw (keep_no (λ x. not (is_home v x)) h homes (ap not t)) (rest ∙ sym (first_no (is_home w) h homes u))
    by false true t u rest =
        rw (keep_yes (λ x. not (is_home v x)) h homes (ap not t))
        (first_yes (is_home w) h (keep (λ x. not (is_home v x)) homes) u ∙ sym (first_yes (is_home w) h homes u))
    by false false t u rest =
        rw (keep_yes (λ x. not (is_home v x)) h homes (ap not t))
        (first_no (is_home w) h (keep (λ x. not (is_home v x)) homes) u ∙ rest ∙ sym (first_no (is_home w) h homes u))

-- a write drops what a variable has in a lane
pub homes_dropped : (p : Place) (homes : List Home) (table : List ℕ) → place_fits p ≡ true → Homes homes table
    → Homes (not_in_lane p homes) (set_home table (place_code p) 0)
homes_dropped (Cell a i) homes table fits h = rw (set_beyond table (place_code (Cell a i)) 0 h.sized (cell_slot a i)) h
homes_dropped (Variable v) homes table fits h =
    rw (set_variable table v 0)
    (record {
      sized = length-set table (suc v) 0 ∙ h.sized;
      nothing = get_or-set_other table (suc v) 0 0 0 (λ (e : 0 ≡ suc v). omega arith) ∙ h.nothing;
      variables = λ w small. by w small (passes_or_fails (eqb w v));
    })
  where
    by : (w : ℕ) → w < 256 → (eqb w v ≡ true) ⊎ (eqb w v ≡ false)
        → Homed (get_or (set table (suc v) 0) (suc w) 0) (first (is_home w) (keep (λ x. not (is_home v x)) homes))
    by w small (inl e) =
        rw (eqb-true w v e, first_dropped v homes) (get_or-set_same table (suc v) 0 0 (omega (arith, h.sized, variable_fits v fits)))
    by w small (inr e) =
        let differ : w ≡ v → ⊥ = eqb-false w v e in
        rw (first_others v w homes differ, get_or-set_other table (suc v) (suc w) 0 0 (λ (same : suc w ≡ suc v). differ (omega arith))) (h.variables w small)

-- a home that comes in front
home_in_front : (v n : ℕ) (h : Home) (homes : List Home) (table : List ℕ) → v < 256 → h.variable ≡ v → Homed n (some h) → Homes homes table
    → Homes (h ∷ homes) (set table (suc v) n)
home_in_front v n h homes table small this is s =
    record {
      sized = length-set table (suc v) n ∙ s.sized;
      nothing = get_or-set_other table (suc v) 0 n 0 (λ (e : 0 ≡ suc v). omega arith) ∙ s.nothing;
      variables = λ w below. by w below (passes_or_fails (eqb w v));
    }
  where
    by : (w : ℕ) → w < 256 → (eqb w v ≡ true) ⊎ (eqb w v ≡ false) → Homed (get_or (set table (suc v) n) (suc w) 0) (first (is_home w) (h ∷ homes))
    by w below (inl e) =
        rw (eqb-true w v e, first_yes (is_home v) h homes (eq-eqb h.variable v this), get_or-set_same table (suc v) n 0 (omega (arith, s.sized))) is
    by w below (inr e) =
        let differ : w ≡ v → ⊥ = eqb-false w v e in
        rw (
          first_no (is_home w) h homes (ne_eqb h.variable w (λ (same : h.variable ≡ w). differ (sym same ∙ this))),
          get_or-set_other table (suc v) (suc w) n 0 (λ (same : suc w ≡ suc v). differ (omega arith)),
        )
        (s.variables w below)

-- the variables of a pack's places land from the highest lane down
abbrev pub land_places : ℕ → ℕ → List Place → List ℕ → List ℕ
land_places r lane [] table = table
land_places r lane (p ∷ ps) table = set_home (land_places r (lane + 1) ps table) (place_code p) (4 * r + 1 + lane)

places_in_front : (r lane : ℕ) (ps : List Place) (homes : List Home) (table : List ℕ) → r < 96 → lane + length ps ≤ 4 → all place_fits ps ≡ true
    → Homes homes table → Homes (homes_from r lane (map Held ps) ++ homes) (land_places r lane ps table)
places_in_front r lane [] homes table few short fit h = h
places_in_front r lane (Cell a i ∷ ps) homes table few short fit h =
    let later = places_in_front r (lane + 1) ps homes table few (omega arith) (all_others place_fits (Cell a i) ps fit) h in
    rw (set_beyond (land_places r (lane + 1) ps table) (place_code (Cell a i)) (4 * r + 1 + lane) later.sized (cell_slot a i)) later
places_in_front r lane (Variable v ∷ ps) homes table few short fit h =
    let later = places_in_front r (lane + 1) ps homes table few (omega arith) (all_others place_fits (Variable v) ps fit) h in
    let small : v < 32 = variable_fits v (all_first place_fits (Variable v) ps fit) in
    rw (set_variable (land_places r (lane + 1) ps table) v (4 * r + 1 + lane))
    (home_in_front v (4 * r + 1 + lane) (record { variable = v; register = r; lane = lane }) (homes_from r (lane + 1) (map Held ps) ++ homes)
    (land_places r (lane + 1) ps table) (omega arith) refl (refl, (omega arith, few)) later)

-- the homes of the variables that are written are dropped, so it does not matter on which side the new ones stand
abbrev Away : ℕ → List Place → List Home → Option Home → Type 0
Away w ps homes none = first (is_home w) (away_from ps homes) ≡ first (is_home w) homes
Away w ps homes (some h) = first (is_home w) (away_from ps homes) ≡ none

away : (r lane w : ℕ) (ps : List Place) (homes : List Home) → Away w ps homes (first (is_home w) (homes_from r lane (map Held ps)))
away r lane w [] homes = refl
away r lane w (Cell a i ∷ ps) homes = by (first (is_home w) (homes_from r (lane + 1) (map Held ps))) (away r (lane + 1) w ps homes)
  where
    by : (found : Option Home) → Away w ps homes found → Away w (Cell a i ∷ ps) homes found
    by none is = is
    by (some h) is = is
away r lane w (Variable v ∷ ps) homes =
    by (passes_or_fails (eqb w v)) (first (is_home w) (homes_from r (lane + 1) (map Held ps))) refl (away r (lane + 1) w ps (not_in_lane (Variable v) homes))
  where
    h : Home
    h = record { variable = v; register = r; lane = lane }

    none_left : (found : Option Home) → first (is_home w) (not_in_lane (Variable v) homes) ≡ none → Away w ps (not_in_lane (Variable v) homes) found
        → first (is_home w) (away_from ps (not_in_lane (Variable v) homes)) ≡ none
    none_left none gone is = is ∙ gone
    none_left (some other) gone is = is

    as_before : (found : Option Home) → first (is_home w) (not_in_lane (Variable v) homes) ≡ first (is_home w) homes → Away w ps (not_in_lane (Variable v) homes) found
        → Away w (Variable v ∷ ps) homes found
    as_before none same is = is ∙ same
    as_before (some other) same is = is

    by : (eqb w v ≡ true) ⊎ (eqb w v ≡ false) → (found : Option Home) → first (is_home w) (homes_from r (lane + 1) (map Held ps)) ≡ found
        → Away w ps (not_in_lane (Variable v) homes) (first (is_home w) (homes_from r (lane + 1) (map Held ps)))
        → Away w (Variable v ∷ ps) homes (first (is_home w) (h ∷ homes_from r (lane + 1) (map Held ps)))
    by (inl e) found f is =
        let same : v ≡ w = sym (eqb-true w v e) in
        rw (first_yes (is_home w) h (homes_from r (lane + 1) (map Held ps)) (eq-eqb v w same))
        (none_left (first (is_home w) (homes_from r (lane + 1) (map Held ps)))
        (ap (λ (n : ℕ). first (is_home n) (not_in_lane (Variable v) homes)) (sym same) ∙ first_dropped v homes) is)
    by (inr e) found f is =
        let differ : w ≡ v → ⊥ = eqb-false w v e in
        rw (first_no (is_home w) h (homes_from r (lane + 1) (map Held ps)) (ne_eqb v w (λ (same : v ≡ w). differ (sym same))))
        (as_before (first (is_home w) (homes_from r (lane + 1) (map Held ps))) (first_others v w homes differ) is)

on_either_side : (r w : ℕ) (ps : List Place) (homes : List Home)
    → first (is_home w) (away_from ps homes ++ homes_from r 0 (map Held ps)) ≡ first (is_home w) (homes_from r 0 (map Held ps) ++ homes)
on_either_side r w ps homes = by (first (is_home w) (homes_from r 0 (map Held ps))) refl (away r 0 w ps homes)
  where
    new : List Home
    new = homes_from r 0 (map Held ps)

    kept : (old : Option Home) → first (is_home w) (away_from ps homes) ≡ old → first (is_home w) new ≡ none → first (is_home w) (away_from ps homes ++ new) ≡ old
    kept none e n = first_behind (is_home w) (away_from ps homes) new e ∙ n
    kept (some h) e n = first_ahead (is_home w) (away_from ps homes) new h e

    by : (found : Option Home) → first (is_home w) new ≡ found → Away w ps homes (first (is_home w) new)
        → first (is_home w) (away_from ps homes ++ new) ≡ first (is_home w) (new ++ homes)
    by none f is =
        let same : first (is_home w) (away_from ps homes) ≡ first (is_home w) homes = subst (Away w ps homes) f is in
        kept (first (is_home w) homes) same f ∙ sym (first_behind (is_home w) new homes f)
    by (some h) f is =
        let gone : first (is_home w) (away_from ps homes) ≡ none = subst (Away w ps homes) f is in
        first_behind (is_home w) (away_from ps homes) new gone ∙ f ∙ sym (first_ahead (is_home w) new homes h f)

-- "A variable written by a pack stays in its lane."
pub homes_landed : (r : ℕ) (ps : List Place) (homes : List Home) (table : List ℕ) → r < 96 → length ps ≤ 4 → all place_fits ps ≡ true
    → Homes homes table → Homes (away_from ps homes ++ homes_from r 0 (map Held ps)) (land_places r 0 ps table)
homes_landed r ps homes table few short fit h =
    let front = places_in_front r 0 ps homes table few (omega arith) fit h in
    record {
      sized = front.sized;
      nothing = front.nothing;
      variables = λ w below. rw (on_either_side r w ps homes) (front.variables w below);
    }
