-- Memory with some variables in lanes: what is seen of it, and how X, a store and a landing in a lane change what is seen.
use mathlib.Core.Path.{◌≡◌, refl, sym, ap, ap₂, fun_ext, ◌∙◌}
use mathlib.Core.Bool.{Bool, true, false, not}
use mathlib.Core.Option.{some, some-ne-none}
use mathlib.Core.List.{List, [], ◌∷◌, ◌++◌, map, append-nil}
use Prim.Native.Nat.{ℕ, ◌+◌}
use native.Mathlib.Omega.{arith}
use lib.Dec.{ltb}
use lib.ListN.{length, get_or, get_or-append}
use lib.Seq.{append_snoc}
use borrow.Author.Tests.{ltb-true, eqb-true, not-true}
use Rattle.basics.specs.Choice.{pick}
use Rattle.basics.specs.Lists.{any, all, keep, first}
use Rattle.basics.proofs.Tests.{and_left, and_right, neither_left, neither_right}
use Rattle.basics.proofs.Finding.{keep_yes, keep_no, first_yes, first_no, keep_append}
use Rattle.meaning.specs.declared.Place.{Place}
use Rattle.meaning.specs.declared.Place.TheVariants.{Variable, Cell}
use Rattle.meaning.specs.declared.Operand.{Operand}
use Rattle.meaning.specs.declared.Operand.TheVariants.{Nothing, Constant, Held}
use Rattle.meaning.specs.Block.{same}
use Rattle.meaning.specs.Emission.{Home, is_home, not_in_lane, homes_from}
use Rattle.theorems.specs.Memory.{Memory, put, value, put_each}
use Rattle.theorems.specs.Steps.{from_memory, distinct, away_from}
use Rattle.theorems.specs.Machine.{lane_in, seen}
use Rattle.theorems.proofs.Puts.{same_true, put_other, put_again, put_swap}

-- a place put to what it holds
pub put_held : (m : Memory) (p : Place) → put m p (m p) ≡ m
put_held m p = fun_ext λ q. by q (same p q) refl
  where
    by : (q : Place) (t : Bool) → same p q ≡ t → pick t (m p) (m q) ≡ m q
    by q true e = ap m (same_true p q e)
    by q false e = refl

module _ (m : Memory) (registers : List (List ℕ)) where
  -- what is in no lane is seen as it is in memory
  pub seen_cell : (homes : List Home) (a i : ℕ) → seen m registers homes (Cell a i) ≡ m (Cell a i)
  seen_cell [] a i = refl
  seen_cell (h ∷ homes) a i = seen_cell homes a i

  pub seen_away : (homes : List Home) (v : ℕ) → any (is_home v) homes ≡ false → seen m registers homes (Variable v) ≡ m (Variable v)
  seen_away [] v e = refl
  seen_away (h ∷ homes) v e =
      put_other (seen m registers homes) (Variable h.variable) _ (Variable v) (neither_left (is_home v h) _ e)
      ∙ seen_away homes v (neither_right (is_home v h) _ e)

  pub seen_operand : (homes : List Home) (o : Operand) → from_memory homes o ≡ true → value (seen m registers homes) o ≡ value m o
  seen_operand homes Nothing e = refl
  seen_operand homes (Constant c) e = refl
  seen_operand homes (Held (Variable v)) e = seen_away homes v (not-true (any (is_home v) homes) e)
  seen_operand homes (Held (Cell a i)) e = seen_cell homes a i

  pub seen_operands : (homes : List Home) (os : List Operand) → all (from_memory homes) os ≡ true → map (value (seen m registers homes)) os ≡ map (value m) os
  seen_operands homes [] e = refl
  seen_operands homes (o ∷ os) e =
      ap₂ ◌∷◌ (seen_operand homes o (and_left (from_memory homes o) _ e)) (seen_operands homes os (and_right (from_memory homes o) _ e))

  -- what is in a lane is seen as it is there
  pub seen_home : (homes : List Home) (v : ℕ) (h : Home) → first (is_home v) homes ≡ some h
      → seen m registers homes (Variable v) ≡ lane_in registers h.register h.lane
  seen_home [] v h e = absurd (some-ne-none h (sym e))
  seen_home (x ∷ homes) v h e = by (is_home v x) refl (seen_home homes v h)
    where
      by : (t : Bool) → is_home v x ≡ t → (first (is_home v) homes ≡ some h → seen m registers homes (Variable v) ≡ lane_in registers h.register h.lane)
          → pick (is_home v x) (lane_in registers x.register x.lane) (seen m registers homes (Variable v)) ≡ lane_in registers h.register h.lane
      by true t rest =
          let this : x ≡ h = cc (first_yes (is_home v) x homes t) in
          rw t (ap (λ (y : Home). lane_in registers y.register y.lane) this)
      by false t rest = rw t (rest (sym (first_no (is_home v) x homes t) ∙ e))

-- a put to memory, where the place leaves its lane, is a put to what is seen
pub seen_cell_put : (m : Memory) (registers : List (List ℕ)) (homes : List Home) (a i n : ℕ)
    → put (seen m registers homes) (Cell a i) n ≡ seen (put m (Cell a i) n) registers homes
seen_cell_put m registers [] a i n = refl
seen_cell_put m registers (h ∷ homes) a i n =
    put_swap (seen m registers homes) (Variable h.variable) (Cell a i) (lane_in registers h.register h.lane) n refl
    ∙ ap (λ (x : Memory). put x (Variable h.variable) (lane_in registers h.register h.lane)) (seen_cell_put m registers homes a i n)

seen_variable_put : (m : Memory) (registers : List (List ℕ)) (homes : List Home) (v n : ℕ)
    → put (seen m registers homes) (Variable v) n ≡ seen (put m (Variable v) n) registers (keep (λ h. not (is_home v h)) homes)
seen_variable_put m registers [] v n = refl
seen_variable_put m registers (h ∷ homes) v n = by (is_home v h) refl (seen_variable_put m registers homes v n)
  where
    by : (t : Bool) → is_home v h ≡ t
        → put (seen m registers homes) (Variable v) n ≡ seen (put m (Variable v) n) registers (keep (λ x. not (is_home v x)) homes)
        → put (put (seen m registers homes) (Variable h.variable) (lane_in registers h.register h.lane)) (Variable v) n
        ≡ seen (put m (Variable v) n) registers (keep (λ x. not (is_home v x)) (h ∷ homes))
    by true t rest =
        ap (λ (w : ℕ). put (put (seen m registers homes) (Variable w) (lane_in registers h.register h.lane)) (Variable v) n) (eqb-true h.variable v t)
        ∙ put_again (seen m registers homes) (Variable v) (lane_in registers h.register h.lane) n
        ∙ rest
        ∙ ap (seen (put m (Variable v) n) registers) (sym (keep_no (λ x. not (is_home v x)) h homes (ap not t)))
    by false t rest =
        put_swap (seen m registers homes) (Variable h.variable) (Variable v) (lane_in registers h.register h.lane) n t
        ∙ ap (λ (x : Memory). put x (Variable h.variable) (lane_in registers h.register h.lane)) rest
        ∙ ap (seen (put m (Variable v) n) registers) (sym (keep_yes (λ x. not (is_home v x)) h homes (ap not t)))

pub seen_put : (m : Memory) (registers : List (List ℕ)) (homes : List Home) (p : Place) (n : ℕ)
    → put (seen m registers homes) p n ≡ seen (put m p n) registers (not_in_lane p homes)
seen_put m registers homes (Variable v) n = seen_variable_put m registers homes v n
seen_put m registers homes (Cell a i) n = seen_cell_put m registers homes a i n

-- X leaves what is seen alone
pub seen_extract : (m : Memory) (registers : List (List ℕ)) (homes : List Home) (v : ℕ) (h : Home) → first (is_home v) homes ≡ some h
    → seen (put m (Variable v) (lane_in registers h.register h.lane)) registers (not_in_lane (Variable v) homes) ≡ seen m registers homes
seen_extract m registers homes v h found =
    sym (seen_put m registers homes (Variable v) (lane_in registers h.register h.lane))
    ∙ ap (put (seen m registers homes) (Variable v)) (sym (seen_home m registers homes v h found))
    ∙ put_held (seen m registers homes) (Variable v)

-- a register more changes nothing that is seen
pub seen_more : (m : Memory) (registers : List (List ℕ)) (values : List ℕ) (homes : List Home) → all (λ h. ltb h.register (length registers)) homes ≡ true
    → seen m (registers ++ values ∷ []) homes ≡ seen m registers homes
seen_more m registers values [] e = refl
seen_more m registers values (h ∷ homes) e =
    ap₂ (λ (x : Memory) (lanes : List ℕ). put x (Variable h.variable) (get_or lanes h.lane 0))
    (seen_more m registers values homes (and_right (ltb h.register (length registers)) _ e))
    (get_or-append registers (values ∷ []) [] h.register (ltb-true h.register (length registers) (and_left (ltb h.register (length registers)) _ e)))

-- landing in a lane is one put to what is seen
seen_land : (m : Memory) (registers : List (List ℕ)) (homes : List Home) (v r lane : ℕ)
    → put (seen m registers homes) (Variable v) (lane_in registers r lane)
    ≡ seen m registers (keep (λ h. not (is_home v h)) homes ++ record { variable = v; register = r; lane = lane } ∷ [])
seen_land m registers [] v r lane = refl
seen_land m registers (h ∷ homes) v r lane = by (is_home v h) refl (seen_land m registers homes v r lane)
  where
    by : (t : Bool) → is_home v h ≡ t
        → put (seen m registers homes) (Variable v) (lane_in registers r lane)
        ≡ seen m registers (keep (λ x. not (is_home v x)) homes ++ record { variable = v; register = r; lane = lane } ∷ [])
        → put (put (seen m registers homes) (Variable h.variable) (lane_in registers h.register h.lane)) (Variable v) (lane_in registers r lane)
        ≡ seen m registers (keep (λ x. not (is_home v x)) (h ∷ homes) ++ record { variable = v; register = r; lane = lane } ∷ [])
    by true t rest =
        ap (λ (w : ℕ). put (put (seen m registers homes) (Variable w) (lane_in registers h.register h.lane)) (Variable v) (lane_in registers r lane)) (eqb-true h.variable v t)
        ∙ put_again (seen m registers homes) (Variable v) (lane_in registers h.register h.lane) (lane_in registers r lane)
        ∙ rest
        ∙ ap (λ (x : List Home). seen m registers (x ++ record { variable = v; register = r; lane = lane } ∷ [])) (sym (keep_no (λ x. not (is_home v x)) h homes (ap not t)))
    by false t rest =
        put_swap (seen m registers homes) (Variable h.variable) (Variable v) (lane_in registers h.register h.lane) (lane_in registers r lane) t
        ∙ ap (λ (x : Memory). put x (Variable h.variable) (lane_in registers h.register h.lane)) rest
        ∙ ap (λ (x : List Home). seen m registers (x ++ record { variable = v; register = r; lane = lane } ∷ [])) (sym (keep_yes (λ x. not (is_home v x)) h homes (ap not t)))

-- a home stays where the writes are to other places
away_last : (ps : List Place) (homes : List Home) (h : Home) → all (λ q. not (same (Variable h.variable) q)) ps ≡ true
    → away_from ps (homes ++ h ∷ []) ≡ away_from ps homes ++ h ∷ []
away_last [] homes h e = refl
away_last (Variable v ∷ ps) homes h e =
    let other : not (is_home v h) ≡ true = and_left (not (is_home v h)) _ e in
    ap (away_from ps)
    (keep_append (λ x. not (is_home v x)) homes (h ∷ [])
    ∙ ap (λ (x : List Home). keep (λ y. not (is_home v y)) homes ++ x) (keep_yes (λ x. not (is_home v x)) h [] other))
    ∙ away_last ps (keep (λ x. not (is_home v x)) homes) h (and_right (not (is_home v h)) _ e)
away_last (Cell a i ∷ ps) homes h e = away_last ps homes h (and_right true _ e)

-- the cells of a unit's places, each with its lane
abbrev pub cells_in : List Place → List ℕ → Memory → Memory
cells_in [] values m = m
cells_in (Variable v ∷ ps) [] m = m
cells_in (Variable v ∷ ps) (n ∷ values) m = cells_in ps values m
cells_in (Cell a i ∷ ps) [] m = m
cells_in (Cell a i ∷ ps) (n ∷ values) m = cells_in ps values (put m (Cell a i) n)

-- the values are the lanes of register r, from this lane on
abbrev pub AreLanes : List (List ℕ) → ℕ → ℕ → List ℕ → Type 0
AreLanes registers r lane [] = Unit
AreLanes registers r lane (n ∷ values) = (n ≡ lane_in registers r lane) × AreLanes registers r (lane + 1) values

-- All lanes of a pack: its cells are stored, its variables stay in their lanes, and what is seen is each written, the first lane first.
pub seen_landed : (registers : List (List ℕ)) (r lane : ℕ) (ps : List Place) (values : List ℕ) (m : Memory) (homes : List Home)
    → length values ≡ length ps → distinct ps ≡ true → AreLanes registers r lane values
    → put_each ps values (seen m registers homes) ≡ seen (cells_in ps values m) registers (away_from ps homes ++ homes_from r lane (map Held ps))
seen_landed registers r lane [] values m homes sized apart lanes = ap (seen m registers) (sym (append-nil homes))
seen_landed registers r lane (Variable v ∷ ps) [] m homes sized apart lanes = absurd (omega arith)
seen_landed registers r lane (Cell a i ∷ ps) [] m homes sized apart lanes = absurd (omega arith)
seen_landed registers r lane (Variable v ∷ ps) (n ∷ values) m homes sized apart lanes =
    let h : Home = record { variable = v; register = r; lane = lane } in
    let left = keep (λ x. not (is_home v x)) homes in
    let others : all (λ q. not (same (Variable v) q)) ps ≡ true = and_left (all (λ q. not (same (Variable v) q)) ps) _ apart in
    ap (λ (x : ℕ). put_each ps values (put (seen m registers homes) (Variable v) x)) lanes.0
    ∙ ap (put_each ps values) (seen_land m registers homes v r lane)
    ∙ seen_landed registers r (lane + 1) ps values m (left ++ h ∷ []) (omega arith) (and_right (all (λ q. not (same (Variable v) q)) ps) _ apart) lanes.1
    ∙ ap (λ (x : List Home). seen (cells_in ps values m) registers (x ++ homes_from r (lane + 1) (map Held ps))) (away_last ps left h others)
    ∙ ap (seen (cells_in ps values m) registers) (append_snoc (away_from ps left) h (homes_from r (lane + 1) (map Held ps)))
seen_landed registers r lane (Cell a i ∷ ps) (n ∷ values) m homes sized apart lanes =
    ap (put_each ps values) (seen_cell_put m registers homes a i n)
    ∙ seen_landed registers r (lane + 1) ps values (put m (Cell a i) n) homes (omega arith) (and_right (all (λ q. not (same (Cell a i) q)) ps) _ apart) lanes.1
