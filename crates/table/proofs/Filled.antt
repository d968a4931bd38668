-- An array filled by a function of the index: what the calls gave, one after the other, are the function's values from 0 on.
use mathlib.Core.Path.{◌≡◌, ap, ◌∙◌, subst}
use mathlib.Core.List.{List, ◌∷◌}
use Prim.Native.Nat.{ℕ, zero, suc, ◌+◌, ◌<◌}
use native.Mathlib.Numerals.{add-one}
use native.Mathlib.Omega.{arith}
use denote.Param.Members.{Mut, Called}
use lib.ListN.{length, drop, drop_of_length-le}
use lib.Seq.{drop-cons}
use Rattle.std.specs.Array.{IsFromFnResultFrom, IsFromFnResult}
use Rattle.table.specs.Said.{from}

module _ {F B : Type 0} {g : Mut F (ℕ × Unit {0}) B} {f : F} (h : ℕ → B) (gives : (i : ℕ) (y : B) (q : F) → Called g f (i, tt) y q → (q ≡ f) × (y ≡ h i)) where
  filled_from : (ys : List B) (n i : ℕ) → length ys ≡ i + n → IsFromFnResultFrom g f ys i n → drop i ys ≡ from h n i
  unfolding from
  filled_from ys zero i long calls = drop_of_length-le ys (omega arith)
  filled_from ys (suc n) i long calls =
      let inside : i < length ys = omega arith in
      let given = gives i calls.1 calls.0 calls.3 in
      let behind = subst (λ (p : F). IsFromFnResultFrom g p ys (i + 1) n) given.0 calls.4 in
      rw (drop-cons ys i (h i) inside, ← add-one i)
      (ap (λ (y : B). y ∷ drop (i + 1) ys) (calls.2.1 (h i) ∙ given.1)
      ∙ ap {B = List B} (λ rest. h i ∷ rest) (filled_from ys n (i + 1) (omega arith) behind))

  pub filled : (ys : List B) (n : ℕ) → IsFromFnResult g f ys n → ys ≡ from h n 0
  filled ys n result = filled_from ys n 0 (omega (arith, result.long)) result.each
