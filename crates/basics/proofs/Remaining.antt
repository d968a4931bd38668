-- The first n elements of a list, met one after the other: what a loop at number i has still to meet.
use mathlib.Core.Path.{◌≡◌}
use mathlib.Core.Bool.{Bool, true, false}
use mathlib.Core.List.{List, [], ◌∷◌}
use Prim.Native.Nat.{ℕ, ◌+◌, ◌≤◌, ◌<◌, min}
use native.Mathlib.Omega.{arith}
use native.Mathlib.Numerals.{add-one}
use lib.ListN.{length, get_or, take, drop, length-take, drop_of_length-le}
use lib.Seq.{drop-cons, get_or-take}
use Rattle.basics.specs.Lists.{all}

module _ {ℓ} {A : Type ℓ} where
  pub still : (l : List A) (n i : ℕ) (d : A) → i < n → i < length l → drop i (take n l) ≡ get_or l i d ∷ drop (i + 1) (take n l)
  still l n i d low within =
      let inside : i < length (take n l) = omega (arith, length-take n l) in
      rw (add-one, drop-cons (take n l) i d inside, get_or-take n l i d low)

  pub none_within : (l : List A) (n i : ℕ) → min n (length l) ≤ i → drop i (take n l) ≡ []
  none_within l n i past = drop_of_length-le (take n l) {i = i} (omega (arith, length-take n l))

  pub no_more : (l : List A) (n i : ℕ) → n ≤ i → drop i (take n l) ≡ []
  no_more l n i past = none_within l n i (omega arith)

  -- a test over all of them: it goes on where one passes, is decided where one fails, and is passed when none is left
  module _ (test : A → Bool) (l : List A) (n i : ℕ) where
    pub all_still : (d : A) → i < n → i < length l → test (get_or l i d) ≡ true → all test (drop i (take n l)) ≡ all test (drop (i + 1) (take n l))
    all_still d low within pass = rw (still l n i d low within, pass)

    pub all_fails : (d : A) → i < n → i < length l → test (get_or l i d) ≡ false → all test (drop i (take n l)) ≡ false
    all_fails d low within fail = rw (still l n i d low within, fail)

    pub all_met : n ≤ i → all test (drop i (take n l)) ≡ true
    all_met past = rw (no_more l n i past)
