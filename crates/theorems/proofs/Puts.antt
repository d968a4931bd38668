-- The laws of memory as a function: where two places are the same, what one put and what two puts do, and that a statement sees no put at a
-- place that it does not read.
use mathlib.Core.Path.{◌≡◌, refl, sym, ap, ap₂, fun_ext, ◌∙◌}
use mathlib.Core.Bool.{Bool, true, false, ◌||◌, false≢true}
use Prim.Native.Nat.{ℕ}
use lib.Dec.{eqb}
use borrow.Author.Tests.{eqb-true, eq-eqb}
use Rattle.basics.specs.Choice.{pick}
use Rattle.basics.proofs.Tests.{and_left, and_right, and_both, neither_left, neither_right, same_test}
use Rattle.meaning.specs.declared.Place.{Place}
use Rattle.meaning.specs.declared.Place.TheVariants.{Variable, Cell}
use Rattle.meaning.specs.declared.Operand.{Operand}
use Rattle.meaning.specs.declared.Operand.TheVariants.{Nothing, Constant, Held}
use Rattle.meaning.specs.declared.Statement.{Statement}
use Rattle.meaning.specs.Block.{same, names, reads}
use Rattle.meaning.specs.Machine.{operate}
use Rattle.meaning.specs.Dependence.{conflicts}
use Rattle.theorems.specs.Memory.{Memory, put, value, result, ran}

-- two places are the same where they are equal
pub same_self : (p : Place) → same p p ≡ true
same_self (Variable v) = eq-eqb v v refl
same_self (Cell a i) = and_both _ _ (eq-eqb a a refl) (eq-eqb i i refl)

pub same_true : (p q : Place) → same p q ≡ true → p ≡ q
same_true (Variable v) (Variable w) e = ap Variable (eqb-true v w e)
same_true (Variable v) (Cell a i) e = absurd (false≢true e)
same_true (Cell a i) (Variable v) e = absurd (false≢true e)
same_true (Cell a i) (Cell b j) e = ap₂ Cell (eqb-true a b (and_left _ _ e)) (eqb-true i j (and_right (eqb a b) _ e))

pub same_back : (p q : Place) → same p q ≡ same q p
same_back p q =
    same_test (same p q) (same q p)
    (λ e. ap (λ (r : Place). same q r) (same_true p q e) ∙ same_self q)
    (λ e. ap (λ (r : Place). same p r) (same_true q p e) ∙ same_self p)

-- a put at its own place, and seen from another
pub put_own : (m : Memory) (p : Place) (n : ℕ) → put m p n p ≡ n
put_own m p n = rw same_self

pub put_other : (m : Memory) (p : Place) (n : ℕ) (q : Place) → same p q ≡ false → put m p n q ≡ m q
put_other m p n q e = rw e

-- a put at the same place wins, and two puts at different places commute
again : (test : Bool) (k n x : ℕ) → pick test k (pick test n x) ≡ pick test k x
again true k n x = refl
again false k n x = refl

pub put_again : (m : Memory) (p : Place) (n k : ℕ) → put (put m p n) p k ≡ put m p k
put_again m p n k = fun_ext λ q. again (same p q) k n (m q)

turned : (first second : Bool) (n k x : ℕ) → (first ≡ true → second ≡ false) → pick second k (pick first n x) ≡ pick first n (pick second k x)
turned true true n k x h = absurd (false≢true (sym (h refl)))
turned true false n k x h = refl
turned false true n k x h = refl
turned false false n k x h = refl

pub put_swap : (m : Memory) (p q : Place) (n k : ℕ) → same p q ≡ false → put (put m p n) q k ≡ put (put m q k) p n
put_swap m p q n k differ =
    fun_ext λ r. turned (same p r) (same q r) n k (m r) λ e. ap (same q) (sym (same_true p r e)) ∙ same_back q p ∙ differ

-- a place that is not read may hold anything
pub value_put : (m : Memory) (p : Place) (n : ℕ) (o : Operand) → names o p ≡ false → value (put m p n) o ≡ value m o
value_put m p n Nothing e = refl
value_put m p n (Constant c) e = refl
value_put m p n (Held q) e = put_other m p n q (same_back p q ∙ e)

pub result_put : (m : Memory) (p : Place) (n : ℕ) (s : Statement) → reads s p ≡ false → result (put m p n) s ≡ result m s
result_put m p n s e =
    ap₂ (operate s.operation) (value_put m p n s.left (neither_left _ _ e)) (value_put m p n s.right (neither_right (names s.left p) _ e))

-- two statements without conflict: neither reads what the other writes, nor writes it
module _ (s t : Statement) (free : conflicts s t ≡ false) where
  first_blind : reads s t.destination ≡ false
  first_blind = neither_left _ _ (neither_left _ _ free)

  pub second_blind : reads t s.destination ≡ false
  second_blind = neither_right (reads s t.destination) _ (neither_left _ _ free)

  pub writes_differ : same s.destination t.destination ≡ false
  writes_differ = neither_right (reads s t.destination || reads t s.destination) _ free

  -- They may change places.
  pub ran_swap : (m : Memory) → ran s (ran t m) ≡ ran t (ran s m)
  ran_swap m =
      ap (put (ran t m) s.destination) (result_put m t.destination (result m t) s first_blind)
      ∙ put_swap m t.destination s.destination (result m t) (result m s) (same_back t.destination s.destination ∙ writes_differ)
      ∙ ap (put (ran s m) t.destination) (sym (result_put m s.destination (result m s) t second_blind))

  -- And a conflict goes both ways.
  pub conflicts_back : conflicts t s ≡ false
  conflicts_back = rw (first_blind, second_blind, same_back t.destination s.destination) writes_differ
