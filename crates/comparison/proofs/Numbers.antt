-- Numbers of four bytes: one at a place, and what a loop that takes one after the other has still to take.
use mathlib.Core.Path.{◌≡◌, refl, sym, ap, ap₂, ◌∙◌}
use mathlib.Core.List.{List, [], ◌∷◌, ◌++◌, append-nil}
use Prim.Native.Nat.{ℕ, suc, ◌+◌, ◌*◌, ◌-◌, ◌≤◌, ◌<◌}
use native.Mathlib.Nat.{add-zero, sub-zero}
use native.Mathlib.Numerals.{add-one}
use native.Mathlib.Omega.{arith}
use lib.ListN.{length, get_or, take, drop, set}
use lib.Seq.{get_or-drop, drop-drop, take_all, take-suc-set, append_snoc}
use Rattle.comparison.specs.Input.{four_in, numbers_in}

pub four_there :
    (bytes : List ℕ) (at : ℕ) {r one two three four : ℕ}
    → r ≡ ((one * 256 + two) * 256 + three) * 256 + four
    → one ≡ get_or bytes at 0 → two ≡ get_or bytes (at + 1) 0 → three ≡ get_or bytes (at + 2) 0 → four ≡ get_or bytes (at + 3) 0
    → r ≡ four_in (drop at bytes)
four_there bytes at e first second third fourth =
    rw (
      e,
      first,
      second,
      third,
      fourth,
      get_or-drop at bytes 0 0,
      get_or-drop at bytes 1 0,
      get_or-drop at bytes 2 0,
      get_or-drop at bytes 3 0,
      add-zero at,
    )

numbers_more : (k : ℕ) (bytes : List ℕ) → numbers_in (suc k) bytes ≡ four_in bytes ∷ numbers_in k (drop 4 bytes)
unfolding numbers_in
numbers_more k bytes = refl

numbers_none : (bytes : List ℕ) → numbers_in 0 bytes ≡ []
unfolding numbers_in
numbers_none bytes = refl

-- the numbers taken up to i, and those that the bytes behind have
abbrev pub taken_from : List ℕ → ℕ → List ℕ → ℕ → List ℕ
taken_from numbers n bytes i = take i numbers ++ numbers_in (n - i) (drop (4 * i) bytes)

module _ (numbers : List ℕ) (n : ℕ) (bytes : List ℕ) where
  pub taken_first : taken_from numbers n bytes 0 ≡ numbers_in n bytes
  taken_first = ap (λ (k : ℕ). numbers_in k bytes) (sub-zero n)

  pub taken_next : (i v : ℕ) → i < length numbers → i < n → v ≡ four_in (drop (4 * i) bytes)
      → taken_from (set numbers i v) n bytes (i + 1) ≡ taken_from numbers n bytes i
  taken_next i v within low e =
      let left : n - i ≡ suc (n - (i + 1)) = omega arith in
      let further : 4 * i + 4 ≡ 4 * (i + 1) = omega arith in
      let rest : List ℕ = numbers_in (n - (i + 1)) (drop (4 * (i + 1)) bytes) in
      let front : take (i + 1) (set numbers i v) ≡ take i numbers ++ (v ∷ []) = rw add-one (take-suc-set numbers i v within) in
      ap (λ (xs : List ℕ). xs ++ rest) front
      ∙ append_snoc (take i numbers) v rest
      ∙ ap (λ (ys : List ℕ). take i numbers ++ ys)
      (sym
      (ap (λ (k : ℕ). numbers_in k (drop (4 * i) bytes)) left
      ∙ numbers_more (n - (i + 1)) (drop (4 * i) bytes)
      ∙ ap₂ ◌∷◌ (sym e) (ap (numbers_in (n - (i + 1))) (drop-drop 4 (4 * i) bytes ∙ ap (λ (k : ℕ). drop k bytes) further))))

  pub taken_last : (i : ℕ) → length numbers ≤ i → n ≤ i → taken_from numbers n bytes i ≡ numbers
  taken_last i all past =
      let none : n - i ≡ 0 = omega arith in
      ap (λ (k : ℕ). take i numbers ++ numbers_in k (drop (4 * i) bytes)) none
      ∙ ap (λ (ys : List ℕ). take i numbers ++ ys) (numbers_none (drop (4 * i) bytes))
      ∙ append-nil (take i numbers)
      ∙ take_all i numbers all
