-- "A register holds the tuple it was fetched from … it is current until a statement writes one of those places": the lanes of each current
-- register are the values of its tuple, also after writes that end those that they concern.
use mathlib.Core.Path.{◌≡◌, refl, sym, ap, ap₂, ◌∙◌}
use mathlib.Core.Bool.{true, false, not}
use mathlib.Core.List.{List, [], ◌∷◌, ◌++◌, map}
use Prim.Native.Nat.{ℕ, zero, suc, ◌<◌}
use native.Mathlib.Omega.{arith}
use lib.ListN.{length, get_or}
use borrow.Author.Tests.{not-true}
use Rattle.basics.specs.Lists.{any, all}
use Rattle.basics.proofs.Tests.{and_left, and_right, neither_left, neither_right}
use Rattle.meaning.specs.declared.Place.{Place}
use Rattle.meaning.specs.declared.Operand.{Operand}
use Rattle.meaning.specs.declared.Operand.TheVariants.{Held}
use Rattle.meaning.specs.Block.{same, names}
use Rattle.meaning.specs.Emission.{Register, ended}
use Rattle.theorems.specs.Memory.{Memory, put, value, put_each}
use Rattle.theorems.specs.Steps.{distinct, no_register, holding, ended_by}
use Rattle.theorems.proofs.Puts.{same_back, put_own, put_other, value_put}

-- the lanes of each register that is current are the values of its tuple
abbrev pub Right : Memory → Register → List ℕ → Type 0
Right m r lanes = r.current ≡ true → lanes ≡ map (value m) r.tuple

abbrev pub Current : Memory → List Register → List (List ℕ) → Type 0
Current m [] [] = Unit
Current m [] (lanes ∷ others) = ⊥
Current m (r ∷ registers) [] = ⊥
Current m (r ∷ registers) (lanes ∷ others) = Right m r lanes × Current m registers others

pub current_length : (m : Memory) (registers : List Register) (all_lanes : List (List ℕ)) → Current m registers all_lanes → length all_lanes ≡ length registers
current_length m [] [] c = refl
current_length m [] (lanes ∷ others) c = absurd c
current_length m (r ∷ registers) [] c = absurd c
current_length m (r ∷ registers) (lanes ∷ others) c = ap suc (current_length m registers others c.1)

-- one register more
pub current_more : (m : Memory) (registers : List Register) (all_lanes : List (List ℕ)) (r : Register) (lanes : List ℕ)
    → Current m registers all_lanes → Right m r lanes → Current m (registers ++ r ∷ []) (all_lanes ++ lanes ∷ [])
current_more m [] [] r lanes c h = (h, tt)
current_more m [] (other ∷ others) r lanes c h = absurd c
current_more m (x ∷ registers) [] r lanes c h = absurd c
current_more m (x ∷ registers) (other ∷ others) r lanes c h = (c.0, current_more m registers others r lanes c.1 h)

-- a register that holds a tuple
pub current_at : (m : Memory) (registers : List Register) (all_lanes : List (List ℕ)) (r : ℕ) (tuple : List Operand)
    → Current m registers all_lanes → r < length registers → get_or registers r no_register ≡ holding tuple → get_or all_lanes r [] ≡ map (value m) tuple
current_at m [] [] r tuple c below e = absurd (omega arith)
current_at m [] (lanes ∷ others) r tuple c below e = absurd c
current_at m (x ∷ registers) [] r tuple c below e = absurd c
current_at m (x ∷ registers) (lanes ∷ others) zero tuple c below e =
    c.0 (ap (λ (y : Register). y.current) e) ∙ ap (λ (y : Register). map (value m) y.tuple) e
current_at m (x ∷ registers) (lanes ∷ others) (suc r) tuple c below e = current_at m registers others r tuple c.1 (omega arith) e

-- a write ends the registers whose tuple names the place
values_stay : (m : Memory) (p : Place) (n : ℕ) (tuple : List Operand) → any (λ o. names o p) tuple ≡ false → map (value (put m p n)) tuple ≡ map (value m) tuple
values_stay m p n [] e = refl
values_stay m p n (o ∷ tuple) e =
    ap₂ ◌∷◌ (value_put m p n o (neither_left (names o p) _ e)) (values_stay m p n tuple (neither_right (names o p) _ e))

pub current_ended : (m : Memory) (p : Place) (n : ℕ) (registers : List Register) (all_lanes : List (List ℕ))
    → Current m registers all_lanes → Current (put m p n) (map (ended p) registers) all_lanes
current_ended m p n [] [] c = tt
current_ended m p n [] (lanes ∷ others) c = absurd c
current_ended m p n (r ∷ registers) [] c = absurd c
current_ended m p n (r ∷ registers) (lanes ∷ others) c = (
  λ still.
      c.0 (and_left r.current _ still)
      ∙ sym (values_stay m p n r.tuple (not-true (any (λ o. names o p) r.tuple) (and_right r.current _ still))),
  current_ended m p n registers others c.1,
)

pub current_ended_by : (ps : List Place) (values : List ℕ) (m : Memory) (registers : List Register) (all_lanes : List (List ℕ)) → length values ≡ length ps
    → Current m registers all_lanes → Current (put_each ps values m) (ended_by ps registers) all_lanes
current_ended_by [] values m registers all_lanes sized c = c
current_ended_by (p ∷ ps) [] m registers all_lanes sized c = absurd (omega arith)
current_ended_by (p ∷ ps) (n ∷ values) m registers all_lanes sized c =
    current_ended_by ps values (put m p n) (map (ended p) registers) all_lanes (omega arith) (current_ended m p n registers all_lanes c)

-- after writes to different places each place holds what was written to it
pub put_each_other : (ps : List Place) (values : List ℕ) (m : Memory) (p : Place) → all (λ q. not (same p q)) ps ≡ true → put_each ps values m p ≡ m p
put_each_other [] values m p e = refl
put_each_other (q ∷ ps) [] m p e = refl
put_each_other (q ∷ ps) (n ∷ values) m p e =
    put_each_other ps values (put m q n) p (and_right (not (same p q)) _ e)
    ∙ put_other m q n p (same_back q p ∙ not-true (same p q) (and_left (not (same p q)) _ e))

pub put_each_own : (ps : List Place) (values : List ℕ) (m : Memory) → length values ≡ length ps → distinct ps ≡ true
    → values ≡ map (value (put_each ps values m)) (map Held ps)
put_each_own [] [] m sized apart = refl
put_each_own [] (n ∷ values) m sized apart = absurd (omega arith)
put_each_own (p ∷ ps) [] m sized apart = absurd (omega arith)
put_each_own (p ∷ ps) (n ∷ values) m sized apart =
    ap₂ ◌∷◌
    (sym (put_each_other ps values (put m p n) p (and_left (all (λ q. not (same p q)) ps) _ apart) ∙ put_own m p n))
    (put_each_own ps values (put m p n) (omega arith) (and_right (all (λ q. not (same p q)) ps) _ apart))
