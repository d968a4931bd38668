-- The rules, the register written and the price of an instruction as it was read are those of the instruction that it means.
use mathlib.Core.Path.{◌≡◌, refl, sym, ap}
use mathlib.Core.Bool.{Bool, true, ◌&&◌, and-true}
use mathlib.Core.List.{List, [], ◌∷◌, ◌++◌, append-nil}
use Prim.Native.Nat.{ℕ, ◌+◌, ◌≤◌}
use native.Mathlib.Omega.{arith}
use lib.Dec.{eqb, ltb}
use lib.ListN.{length, take}
use borrow.Author.Tests.{eqb-true, ltb-true}
use Rattle.basics.proofs.Tests.{and_left, and_right}
use Rattle.meaning.specs.declared.Statement.{Statement}
use Rattle.meaning.specs.Block.{Block}
use Rattle.meaning.specs.List.{is_next, is_written, is_allowed, written_after, instruction_price}
use Rattle.instructions.specs.declared.Instruction.{Instruction}
use Rattle.instructions.specs.declared.Instruction.TheVariants.{S, L, C, G, Copy, O, W, D, X}
use Rattle.instructions.specs.Meant.{meant}
use Rattle.rules.specs.Rules.{slots_declared, obeys_rules, registers_written, lanes_written}
use Rattle.rules.specs.Price.{price_of, named}
use Rattle.rules.proofs.Slots.{slots_all, slots_held, slots_price}

pub obeys_allowed :
    (b : Block) (written : List ℕ) (i : Instruction)
    → obeys_rules (length b.statements) b.variables b.lengths written i ≡ is_allowed b written (meant i)
obeys_allowed b written (S s) = refl
obeys_allowed b written (L r k a i) = refl
obeys_allowed b written (C r k c₀ c₁ c₂ c₃) = refl
obeys_allowed b written (G r k o₀ o₁ o₂ o₃) = ap (λ (x : Bool). is_next written r && x) (slots_all b.variables b.lengths o₀ o₁ o₂ o₃ k)
obeys_allowed b written (Copy r k ra) = sym (and-true (is_next written r && is_written written ra k))
obeys_allowed b written (O r operation k ra rb) = refl
obeys_allowed b written (W r k a i) = refl
obeys_allowed b written (D r lane a i) = refl
obeys_allowed b written (X r lane v) = refl

pub writes : (written : List ℕ) (i : Instruction) → written_after written (meant i) ≡ written ++ take (registers_written i) (lanes_written i ∷ [])
writes written (S s) = sym (append-nil written)
writes written (L r k a i) = refl
writes written (C r k c₀ c₁ c₂ c₃) = rw slots_held
writes written (G r k o₀ o₁ o₂ o₃) = rw slots_held
writes written (Copy r k ra) = refl
writes written (O r operation k ra rb) = refl
writes written (W r k a i) = sym (append-nil written)
writes written (D r lane a i) = sym (append-nil written)
writes written (X r lane v) = sym (append-nil written)

-- "at most 96"
next_room : (written : List ℕ) (r : ℕ) (rest : Bool) → is_next written r && rest ≡ true → length written + 1 ≤ 96
next_room written r rest e =
    let next = and_left (is_next written r) rest e in
    let last = eqb-true r (length written) (and_left (eqb r (length written)) (ltb r 96) next) in
    let low = ltb-true r 96 (and_right (eqb r (length written)) (ltb r 96) next) in
    omega arith

next_alone : (written : List ℕ) (r : ℕ) → is_next written r ≡ true → length written + 1 ≤ 96
next_alone written r next =
    let last = eqb-true r (length written) (and_left (eqb r (length written)) (ltb r 96) next) in
    let low = ltb-true r 96 (and_right (eqb r (length written)) (ltb r 96) next) in
    omega arith

module _ (statements variables : ℕ) (lengths written : List ℕ) (h : length written ≤ 96) where
  pub room : (i : Instruction) → obeys_rules statements variables lengths written i ≡ true → length written + registers_written i ≤ 96
  room (S s) e = omega arith
  room (L r k a i) e = next_room written r _ e
  room (C r k c₀ c₁ c₂ c₃) e = next_alone written r e
  room (G r k o₀ o₁ o₂ o₃) e = next_room written r (slots_declared variables lengths k 0 o₀ o₁ && slots_declared variables lengths k 2 o₂ o₃) e
  room (Copy r k ra) e = next_room written r _ e
  room (O r operation k ra rb) e =
      next_room written r (is_written written ra k) (and_left (is_next written r && is_written written ra k) (is_written written rb k) e)
  room (W r k a i) e = omega arith
  room (D r lane a i) e = omega arith
  room (X r lane v) e = omega arith

-- the price, where the statement is the one that S names
pub price_meant_lem : (ss : List Statement) (i : Instruction) → price_of i (named ss i) ≡ instruction_price ss (meant i)
price_meant_lem ss (S s) = refl
price_meant_lem ss (L r k a i) = refl
price_meant_lem ss (C r k c₀ c₁ c₂ c₃) = refl
price_meant_lem ss (G r k o₀ o₁ o₂ o₃) = slots_price k o₀ o₁ o₂ o₃
price_meant_lem ss (Copy r k ra) = refl
price_meant_lem ss (O r operation k ra rb) = refl
price_meant_lem ss (W r k a i) = refl
price_meant_lem ss (D r lane a i) = refl
price_meant_lem ss (X r lane v) = refl
