-- Tuples of two or four operands and their codes: what is the same tuple, in a row, or written, is seen from the codes.
use mathlib.Core.Path.{◌≡◌, refl, sym, ap, ap₂, ◌∙◌}
use mathlib.Core.Logic.{◌⊎◌, inl, inr}
use mathlib.Core.Bool.{Bool, true, false, ◌&&◌, false≢true, and-true}
use mathlib.Core.List.{List, [], ◌∷◌}
use Prim.Native.Nat.{ℕ, suc}
use native.Mathlib.Omega.{arith}
use lib.Dec.{eqb}
use lib.ListN.{length, get_or}
use borrow.Author.Tests.{eqb-true}
use Rattle.basics.specs.Lists.{all}
use Rattle.basics.proofs.Tests.{and_left, and_right, or_either}
use Rattle.meaning.specs.declared.Operand.{Operand}
use Rattle.meaning.specs.declared.Operand.TheVariants.{Nothing}
use Rattle.meaning.specs.List.{lanes_fit}
use Rattle.meaning.specs.Emission.{same_operand, same_tuple}
use Rattle.codes.specs.Codes.{operand_code}
use Rattle.codes.specs.Fitting.{operand_fits}
use Rattle.codes.proofs.Operands.{operand_codes}
use Rattle.registers.specs.declared.Tuple.{Tuple}

-- "lanes k = 2 or 4"
pub data Laned {A : Type 0} : List A → Type 0 where
  two : (a b : A) → Laned (a ∷ b ∷ [])
  four : (a b c d : A) → Laned (a ∷ b ∷ c ∷ d ∷ [])

pub laned : {A : Type 0} (xs : List A) → lanes_fit (length xs) ≡ true → Laned xs
laned [] fits = absurd (false≢true fits)
laned (a ∷ []) fits = absurd (false≢true fits)
laned (a ∷ b ∷ []) fits = two a b
laned (a ∷ b ∷ c ∷ []) fits = absurd (false≢true fits)
laned (a ∷ b ∷ c ∷ d ∷ []) fits = four a b c d
laned (a ∷ b ∷ c ∷ d ∷ e ∷ rest) fits = absurd (never (or_either (eqb n 2) (eqb n 4) fits))
  where
    n : ℕ
    n = suc (suc (suc (suc (suc (length rest)))))

    never : (eqb n 2 ≡ true) ⊎ (eqb n 4 ≡ true) → ⊥
    never (inl h) = omega (arith, eqb-true n 2 h)
    never (inr h) = omega (arith, eqb-true n 4 h)

-- the code of one lane, 0 where there is none, and of all
abbrev pub lane_code : List Operand → ℕ → ℕ
lane_code os i = operand_code (get_or os i Nothing)

abbrev pub tuple_of : List Operand → Tuple
tuple_of os = record { lanes = lane_code os 0 ∷ lane_code os 1 ∷ lane_code os 2 ∷ lane_code os 3 ∷ []; count = length os }

-- "exactly this tuple"
abbrev pub same_codes : List Operand → List Operand → Bool
same_codes os qs =
    eqb (length os) (length qs)
    && (eqb (lane_code os 0) (lane_code qs 0)
    && (eqb (lane_code os 1) (lane_code qs 1)
    && (eqb (lane_code os 2) (lane_code qs 2)
    && eqb (lane_code os 3) (lane_code qs 3))))

two_fail : (x y : Bool) → false ≡ x && (y && false)
two_fail true true = refl
two_fail true false = refl
two_fail false y = refl

pub same_codes_tuple : (os qs : List Operand) → Laned os → Laned qs → all operand_fits os ≡ true → all operand_fits qs ≡ true
    → same_codes os qs ≡ same_tuple os qs
same_codes_tuple os qs (two a b) (two c d) fit fits =
    sym
    (ap₂ (λ (x y : Bool). x && (y && true))
    (operand_codes a c (and_left (operand_fits a) _ fit) (and_left (operand_fits c) _ fits))
    (operand_codes b d (and_left (operand_fits b) _ (and_right (operand_fits a) _ fit)) (and_left (operand_fits d) _ (and_right (operand_fits c) _ fits))))
same_codes_tuple os qs (two a b) (four c d e f) fit fits = two_fail (same_operand a c) (same_operand b d)
same_codes_tuple os qs (four a b c d) (two e f) fit fits = two_fail (same_operand a e) (same_operand b f)
same_codes_tuple os qs (four a b c d) (four e f g h) fit fits =
    let fit1 = and_right (operand_fits a) _ fit in
    let fit2 = and_right (operand_fits b) _ fit1 in
    let fit3 = and_right (operand_fits c) _ fit2 in
    let fits1 = and_right (operand_fits e) _ fits in
    let fits2 = and_right (operand_fits f) _ fits1 in
    let fits3 = and_right (operand_fits g) _ fits2 in
    sym
    (ap₂ (λ (x y : Bool). x && y) (operand_codes a e (and_left (operand_fits a) _ fit) (and_left (operand_fits e) _ fits))
    (ap₂ (λ (x y : Bool). x && y) (operand_codes b f (and_left (operand_fits b) _ fit1) (and_left (operand_fits f) _ fits1))
    (ap₂ (λ (x y : Bool). x && y) (operand_codes c g (and_left (operand_fits c) _ fit2) (and_left (operand_fits g) _ fits2))
    (ap (λ (x : Bool). x && true) (operand_codes d h (and_left (operand_fits d) _ fit3) (and_left (operand_fits h) _ fits3))
    ∙ and-true (eqb (operand_code d) (operand_code h))))))
