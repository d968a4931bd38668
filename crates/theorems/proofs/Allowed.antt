-- The list is allowed: what each step of emission adds names only statements, places, lanes and registers within the rules, fits its
-- bytes, and keeps within 160 instructions and 96 registers.
use mathlib.Core.Path.{◌≡◌, refl, sym, ap, subst, ◌∙◌}
use mathlib.Core.Bool.{Bool, true, ◌&&◌, not}
use mathlib.Core.Option.{Option, none, some}
use mathlib.Core.List.{List, [], ◌∷◌, ◌++◌, map}
use Prim.Native.Nat.{ℕ, zero, suc, ◌+◌, ◌≤◌, ◌<◌}
use native.Mathlib.Omega.{arith}
use lib.Dec.{ltb}
use lib.ListN.{length, get_or, length-append, length-map, get_or-append, get_or-map}
use borrow.Author.Tests.{ltb-true, lt-ltb, leb-true, le-leb, eq-eqb}
use Rattle.basics.specs.Lists.{all, keep, each}
use Rattle.basics.proofs.Tests.{and_left, and_right, and_both}
use Rattle.basics.proofs.Finding.{keep_length, all_keep}
use Rattle.meaning.specs.declared.Place.{Place}
use Rattle.meaning.specs.declared.Place.TheVariants.{Variable, Cell}
use Rattle.meaning.specs.declared.Operand.{Operand}
use Rattle.meaning.specs.declared.Operand.TheVariants.{Nothing, Constant, Held}
use Rattle.meaning.specs.Block.{Block, declares_place, declares_operand}
use Rattle.meaning.specs.List.{Instruction, D, X, lanes_fit, is_written, has_lane, declares_row, is_allowed, written_after, allowed}
use Rattle.meaning.specs.Card.{row}
use Rattle.meaning.specs.Emission.{Register, Home, Emitted, is_home, ended, row_start, next, homes_from}
use Rattle.theorems.specs.Steps.{no_register, Holds, stores_from, stores, ended_by, away_from}
use Rattle.theorems.proofs.Instructions.{instruction_fits}
use Rattle.theorems.proofs.Rows.{row_tuple}

-- the lanes of each register, by what it holds; and what instructions leave written
abbrev pub widths : List Register → List ℕ
widths registers = map (λ r. length r.tuple) registers

abbrev pub written_by : List Instruction → List ℕ → List ℕ
written_by list lanes = each (λ i so_far. written_after so_far i) list lanes

pub widths_ended : (p : Place) (registers : List Register) → widths (map (ended p) registers) ≡ widths registers
widths_ended p [] = refl
widths_ended p (r ∷ registers) = ap (λ (rest : List ℕ). length r.tuple ∷ rest) (widths_ended p registers)

pub widths_ended_by : (ps : List Place) (registers : List Register) → widths (ended_by ps registers) ≡ widths registers
widths_ended_by [] registers = refl
widths_ended_by (p ∷ ps) registers = widths_ended_by ps (map (ended p) registers) ∙ widths_ended p registers

pub width_at : (e : Emitted) (r : ℕ) (tuple : List Operand) → Holds e r tuple → get_or (widths e.registers) r 0 ≡ length tuple
width_at e r tuple h = get_or-map (λ (x : Register). length x.tuple) e.registers r no_register ∙ ap (λ (x : Register). length x.tuple) h.is

pub widths_length : (e : Emitted) → length (widths e.registers) ≡ next e
widths_length e = length-map e.registers (λ r. length r.tuple)

-- the homes that are left are some of the homes
pub away_length : (ps : List Place) (homes : List Home) → length (away_from ps homes) ≤ length homes
away_length [] homes = omega arith
away_length (Variable v ∷ ps) homes = omega (arith, away_length ps (keep (λ h. not (is_home v h)) homes), keep_length (λ h. not (is_home v h)) homes)
away_length (Cell a i ∷ ps) homes = away_length ps homes

pub away_all : (test : Home → Bool) (ps : List Place) (homes : List Home) → all test homes ≡ true → all test (away_from ps homes) ≡ true
away_all test [] homes e = e
away_all test (Variable v ∷ ps) homes e = away_all test ps (keep (λ h. not (is_home v h)) homes) (all_keep (λ h. not (is_home v h)) test homes e)
away_all test (Cell a i ∷ ps) homes e = away_all test ps homes e

-- lanes of stores and homes
row_homeless : (r lane k a i : ℕ) → homes_from r lane (map Held (row k a i)) ≡ []
row_homeless r lane zero a i = refl
row_homeless r lane (suc k) a i = row_homeless r (lane + 1) k a (i + 1)

each_lane_lem : (r lane : ℕ) (os : List Operand) → length (stores_from r lane os) + length (homes_from r lane os) ≤ length os
each_lane_lem r lane [] = omega arith
each_lane_lem r lane (Nothing ∷ os) = omega (arith, each_lane_lem r (lane + 1) os)
each_lane_lem r lane (Constant c ∷ os) = omega (arith, each_lane_lem r (lane + 1) os)
each_lane_lem r lane (Held (Variable v) ∷ os) = omega (arith, each_lane_lem r (lane + 1) os)
each_lane_lem r lane (Held (Cell a i) ∷ os) = omega (arith, each_lane_lem r (lane + 1) os)

pub lanes_used : (r : ℕ) (tuple : List Operand) → length (stores r tuple (row_start tuple)) + length (homes_from r 0 tuple) ≤ length tuple
lanes_used r tuple = by (row_start tuple) refl
  where
    by : (found : Option (ℕ × ℕ)) → row_start tuple ≡ found → length (stores r tuple found) + length (homes_from r 0 tuple) ≤ length tuple
    by none e = each_lane_lem r 0 tuple
    by (some beginning) e =
        let h = row_tuple tuple beginning e in
        omega (
          arith,
          h.some_lane,
          ap length (ap (homes_from r 0) h.is ∙ row_homeless r 0 (length tuple) beginning.0 beginning.1),
        )

-- stores write no register
stores_write : (r lane : ℕ) (os : List Operand) (lanes : List ℕ) → written_by (stores_from r lane os) lanes ≡ lanes
stores_write r lane [] lanes = refl
stores_write r lane (Nothing ∷ os) lanes = stores_write r (lane + 1) os lanes
stores_write r lane (Constant c ∷ os) lanes = stores_write r (lane + 1) os lanes
stores_write r lane (Held (Variable v) ∷ os) lanes = stores_write r (lane + 1) os lanes
stores_write r lane (Held (Cell a i) ∷ os) lanes = stores_write r (lane + 1) os lanes

pub stored_none : (r : ℕ) (tuple : List Operand) (found : Option (ℕ × ℕ)) (lanes : List ℕ) → written_by (stores r tuple found) lanes ≡ lanes
stored_none r tuple none lanes = stores_write r 0 tuple lanes
stored_none r tuple (some beginning) lanes = refl

stores_fit : (r lane : ℕ) (os : List Operand) → all instruction_fits (stores_from r lane os) ≡ true
stores_fit r lane [] = refl
stores_fit r lane (Nothing ∷ os) = stores_fit r (lane + 1) os
stores_fit r lane (Constant c ∷ os) = stores_fit r (lane + 1) os
stores_fit r lane (Held (Variable v) ∷ os) = stores_fit r (lane + 1) os
stores_fit r lane (Held (Cell a i) ∷ os) = stores_fit r (lane + 1) os

pub stored_fit : (r : ℕ) (tuple : List Operand) (found : Option (ℕ × ℕ)) → lanes_fit (length tuple) ≡ true → all instruction_fits (stores r tuple found) ≡ true
stored_fit r tuple none fits = stores_fit r 0 tuple
stored_fit r tuple (some beginning) fits = and_both (lanes_fit (length tuple)) true fits refl

module _ (b : Block) where
  -- one list behind another
  pub allowed_more : (list more : List Instruction) (lanes : List ℕ) → allowed b lanes list ≡ true → allowed b (written_by list lanes) more ≡ true
      → allowed b lanes (list ++ more) ≡ true
  unfolding allowed
  allowed_more [] more lanes e f = f
  allowed_more (i ∷ list) more lanes e f =
      and_both (is_allowed b lanes i) _ (and_left (is_allowed b lanes i) _ e) (allowed_more list more (written_after lanes i) (and_right (is_allowed b lanes i) _ e) f)

  pub allowed_one : (i : Instruction) (lanes : List ℕ) → is_allowed b lanes i ≡ true → allowed b lanes (i ∷ []) ≡ true
  unfolding allowed
  allowed_one i lanes e = and_both (is_allowed b lanes i) true e refl

  -- a row's cells are declared
  pub row_declared_lem : (k a i : ℕ) → 0 < k → all (declares_operand b.variables b.lengths) (map Held (row k a i)) ≡ true → declares_row b k a i ≡ true
  row_declared_lem zero a i h e = absurd (omega arith)
  row_declared_lem (suc zero) a i h e =
      let this : ltb a (length b.lengths) && ltb i (get_or b.lengths a 0) ≡ true = and_left _ true e in
      and_both (ltb a (length b.lengths)) _ (and_left (ltb a (length b.lengths)) _ this)
      (le-leb (i + 1) (get_or b.lengths a 0) (omega (arith, ltb-true i (get_or b.lengths a 0) (and_right (ltb a (length b.lengths)) _ this))))
  row_declared_lem (suc (suc k)) a i h e =
      let this : ltb a (length b.lengths) && ltb i (get_or b.lengths a 0) ≡ true = and_left _ _ e in
      let rest = row_declared_lem (suc k) a (i + 1) (omega arith) (and_right (ltb a (length b.lengths) && ltb i (get_or b.lengths a 0)) _ e) in
      let high : i + 1 + suc k ≤ get_or b.lengths a 0 = leb-true (i + 1 + suc k) (get_or b.lengths a 0) (and_right (ltb a (length b.lengths)) _ rest) in
      and_both (ltb a (length b.lengths)) _ (and_left (ltb a (length b.lengths)) _ this)
      (le-leb (i + suc (suc k)) (get_or b.lengths a 0) (omega arith))

  -- a lane that is there stays there
  abbrev pub home_fits : List ℕ → Home → Bool
  home_fits lanes h = is_allowed b lanes (X h.register h.lane h.variable)

  pub home_stays : (lanes : List ℕ) (k : ℕ) (h : Home) → home_fits lanes h ≡ true → home_fits (lanes ++ k ∷ []) h ≡ true
  home_stays lanes k h e =
      let r = h.register in
      let lane : has_lane lanes r h.lane ≡ true = and_left (has_lane lanes r h.lane) _ e in
      let below : r < length lanes = ltb-true r (length lanes) (and_left (ltb r (length lanes)) _ lane) in
      and_both (has_lane (lanes ++ k ∷ []) r h.lane) _
      (and_both (ltb r (length (lanes ++ k ∷ []))) _ (lt-ltb r (length (lanes ++ k ∷ [])) (omega (arith, length-append lanes (k ∷ []))))
      (ap (ltb h.lane) (get_or-append lanes (k ∷ []) 0 r below) ∙ and_right (ltb r (length lanes)) _ lane))
      (and_right (has_lane lanes r h.lane) _ e)

  -- the lanes of a register that is written
  module _ (lanes : List ℕ) (r k : ℕ) (there : r < length lanes) (is : get_or lanes r 0 ≡ k) where
    lane_there : (lane : ℕ) → lane < k → has_lane lanes r lane ≡ true
    lane_there lane below = and_both (ltb r (length lanes)) _ (lt-ltb r (length lanes) there) (lt-ltb lane (get_or lanes r 0) (omega (arith, is)))

    pub register_there : is_written lanes r k ≡ true
    register_there = and_both (ltb r (length lanes)) _ (lt-ltb r (length lanes) there) (eq-eqb (get_or lanes r 0) k is)

    stores_allowed : (lane : ℕ) (os : List Operand) → lane + length os ≤ k → all (declares_operand b.variables b.lengths) os ≡ true
        → allowed b lanes (stores_from r lane os) ≡ true
    unfolding allowed
    stores_allowed lane [] few e = refl
    stores_allowed lane (Nothing ∷ os) few e = stores_allowed (lane + 1) os (omega arith) (and_right true _ e)
    stores_allowed lane (Constant c ∷ os) few e = stores_allowed (lane + 1) os (omega arith) (and_right true _ e)
    stores_allowed lane (Held (Variable v) ∷ os) few e = stores_allowed (lane + 1) os (omega arith) (and_right (ltb v b.variables) _ e)
    stores_allowed lane (Held (Cell a i) ∷ os) few e =
        let this = declares_place b.variables b.lengths (Cell a i) in
        and_both (is_allowed b lanes (D r lane a i)) _ (and_both (has_lane lanes r lane) _ (lane_there lane (omega arith)) (and_left this _ e))
        (stores_allowed (lane + 1) os (omega arith) (and_right this _ e))

    pub homes_fit : (lane : ℕ) (os : List Operand) → lane + length os ≤ k → all (declares_operand b.variables b.lengths) os ≡ true
        → all (home_fits lanes) (homes_from r lane os) ≡ true
    homes_fit lane [] few e = refl
    homes_fit lane (Nothing ∷ os) few e = homes_fit (lane + 1) os (omega arith) (and_right true _ e)
    homes_fit lane (Constant c ∷ os) few e = homes_fit (lane + 1) os (omega arith) (and_right true _ e)
    homes_fit lane (Held (Variable v) ∷ os) few e =
        and_both (has_lane lanes r lane && ltb v b.variables) _
        (and_both (has_lane lanes r lane) _ (lane_there lane (omega arith)) (and_left (ltb v b.variables) _ e))
        (homes_fit (lane + 1) os (omega arith) (and_right (ltb v b.variables) _ e))
    homes_fit lane (Held (Cell a i) ∷ os) few e =
        homes_fit (lane + 1) os (omega arith) (and_right (declares_place b.variables b.lengths (Cell a i)) _ e)

    pub stored_allowed : (tuple : List Operand) → length tuple ≡ k → all (declares_operand b.variables b.lengths) tuple ≡ true
        → allowed b lanes (stores r tuple (row_start tuple)) ≡ true
    unfolding allowed
    stored_allowed tuple sized e = by (row_start tuple) refl
      where
        by : (found : Option (ℕ × ℕ)) → row_start tuple ≡ found → allowed b lanes (stores r tuple found) ≡ true
        by none h = stores_allowed 0 tuple (omega (arith, sized)) e
        by (some beginning) h =
            let in_a_row = row_tuple tuple beginning h in
            and_both (is_written lanes r (length tuple) && declares_row b (length tuple) beginning.0 beginning.1) true
            (and_both (is_written lanes r (length tuple)) _ (subst (λ (n : ℕ). is_written lanes r n ≡ true) (sym sized) register_there)
            (row_declared_lem (length tuple) beginning.0 beginning.1 in_a_row.some_lane
            (ap (all (declares_operand b.variables b.lengths)) (sym in_a_row.is) ∙ e)))
            refl
