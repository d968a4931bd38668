-- What G's record says, by what the code tests: its lanes, and whether its operands are all there and fill it.
use mathlib.Core.Path.{◌≡◌, refl, sym, ap, ◌∙◌}
use mathlib.Core.Bool.{Bool, true, false, ◌&&◌, false≢true}
use mathlib.Core.List.{List, [], ◌∷◌, map}
use Prim.Native.Nat.{ℕ, ◌+◌, ◌*◌, ◌≤◌}
use lib.ListN.{length, drop}
use lib.Seq.{drop-drop}
use native.Mathlib.Omega.{arith}
use Rattle.std.specs.Bool.{IsTrue}
use Rattle.std.specs.Prelude.{◌↔◌}
use Rattle.std.specs.List.{AllPass, list_all, sum as total}
use Rattle.std.proofs.lemmas.List.Sums.{AllPass-from_list_all, list_all-from_AllPass, sum_by-cons}
use Rattle.meaning.proofs.Bounds.{operand_width_lem}
use Rattle.basics.specs.Lists.{all, sum}
use Rattle.meaning.specs.declared.Operand.{Operand}
use Rattle.meaning.specs.Format.{operand_width, read_operand}
use Rattle.meaning.specs.List.{field, read_g}
use Rattle.instructions.specs.Meant.{gathered}

-- a test of all elements, from what the library says of it, and the library's sum
all_listed : {A : Type 0} (test : A → Bool) (xs : List A) → list_all test xs ≡ all test xs
all_listed test [] = refl
all_listed test (x ∷ xs) = ap (λ (b : Bool). test x && b) (all_listed test xs)

false_or : (b : Bool) → (b ≡ true → ⊥) → false ≡ b
false_or true h = absurd (h refl)
false_or false h = refl

pub all_pass : {A : Type 0} (test : A → Bool) (xs : List A) (b : Bool) → (IsTrue b ↔ AllPass test xs) → b ≡ all test xs
all_pass test xs true e = sym (sym (all_listed test xs) ∙ list_all-from_AllPass test xs (e.0 refl))
all_pass test xs false e = false_or (all test xs) λ h. false≢true (e.1 (AllPass-from_list_all test xs (all_listed test xs ∙ h)))

pub sum_listed : (ns : List ℕ) → total ns ≡ sum ns
sum_listed [] = refl
sum_listed (n ∷ ns) = sum_by-cons (λ x. x) n ns ∙ ap (λ (m : ℕ). n + m) (sum_listed ns)

-- an operand takes at most 5 bytes
pub widths_few : (os : List Operand) → sum (map operand_width os) ≤ 5 * length os
widths_few [] = omega arith
widths_few (o ∷ os) = let first = operand_width_lem o in let rest = widths_few os in omega arith

module _ (bytes : List ℕ) where
  pub two_lanes :
      (o₀ o₁ : Operand) → field 2 bytes ≡ 2 → o₀ ≡ read_operand (drop 3 bytes) → o₁ ≡ read_operand (drop (3 + operand_width o₀) bytes)
      → gathered bytes (o₀ ∷ o₁ ∷ []) ≡ read_g bytes
  two_lanes o₀ o₁ k first second = rw (k, ← first, drop-drop (operand_width o₀) 3 bytes, ← second)

  pub four_lanes :
      (o₀ o₁ o₂ o₃ : Operand) → field 2 bytes ≡ 4
      → o₀ ≡ read_operand (drop 3 bytes)
      → o₁ ≡ read_operand (drop (3 + operand_width o₀) bytes)
      → o₂ ≡ read_operand (drop (3 + operand_width o₀ + operand_width o₁) bytes)
      → o₃ ≡ read_operand (drop (3 + operand_width o₀ + operand_width o₁ + operand_width o₂) bytes)
      → gathered bytes (o₀ ∷ o₁ ∷ o₂ ∷ o₃ ∷ []) ≡ read_g bytes
  four_lanes o₀ o₁ o₂ o₃ k first second third fourth =
      rw (
        k,
        ← first,
        drop-drop (operand_width o₀) 3 bytes,
        ← second,
        drop-drop (operand_width o₁) (3 + operand_width o₀) bytes,
        ← third,
        drop-drop (operand_width o₂) (3 + operand_width o₀ + operand_width o₁) bytes,
        ← fourth,
      )
