-- A run of parts, each stored behind the one before: what a loop that writes the elements of a list has done at number i, and what is left
-- to do.
use mathlib.Core.Path.{◌≡◌, refl, sym, ap, ◌∙◌}
use mathlib.Core.List.{List, [], ◌++◌, map}
use Prim.Native.Nat.{ℕ, ◌+◌, ◌≤◌, ◌<◌}
use native.Mathlib.Omega.{arith}
use native.Mathlib.Numerals.{add-one}
use lib.ListN.{length, get_or, drop, drop_of_length-le, length-append}
use lib.Seq.{sets, length-sets, drop-cons}
use Rattle.basics.specs.Lists.{flat}
use Rattle.basics.proofs.Stores.{sets_append}

module _ {A : Type 0} (bytes : A → List ℕ) (l : List A) where
  -- the bytes of the elements from number i on
  unfoldable pub rest : ℕ → List ℕ
  rest i = flat (map bytes (drop i l))

  rest_all : rest 0 ≡ flat (map bytes l)
  unfolding rest
  rest_all = refl

  rest_next : (i : ℕ) (d : A) → i < length l → rest i ≡ bytes (get_or l i d) ++ rest (i + 1)
  unfolding rest
  rest_next i d more = rw (add-one, drop-cons l i d more)

  rest_none : (i : ℕ) → length l ≤ i → rest i ≡ []
  unfolding rest
  rest_none i past = ap (λ (xs : List A). flat (map bytes xs)) (drop_of_length-le l past)

  length_next : (i : ℕ) (d : A) → i < length l → length (rest i) ≡ length (bytes (get_or l i d)) + length (rest (i + 1))
  length_next i d more = ap length (rest_next i d more) ∙ length-append (bytes (get_or l i d)) (rest (i + 1))

  length_none : (i : ℕ) → length l ≤ i → length (rest i) ≡ 0
  length_none i past = ap length (rest_none i past)

  -- from room₀ and position at₀ the loop has come to this room, position and number: with what is left stored, all is stored
  pub record Written (room₀ : List ℕ) (at₀ : ℕ) (room : List ℕ) (at i : ℕ) : Type 0 where
    pub fits : at + length (rest i) ≤ length room
    pub long : length room ≡ length room₀
    pub position : at + length (rest i) ≡ at₀ + length (rest 0)
    pub stored : sets room at (rest i) ≡ sets room₀ at₀ (rest 0)

  pub start : (room : List ℕ) (at : ℕ) → at + length (flat (map bytes l)) ≤ length room → Written room at room at 0
  start room at fits = record { fits = omega (arith, ap length rest_all); long = refl; position = refl; stored = refl }

  module _ {room₀ room : List ℕ} {at₀ at i : ℕ} (w : Written room₀ at₀ room at i) where
    -- there is space for the next element
    pub space : (d : A) → i < length l → at + length (bytes (get_or l i d)) ≤ length room
    space d more = omega (arith, length_next i d more, w.fits)

    pub next :
        (d : A) {room' : List ℕ} {at' : ℕ}
        → i < length l
        → room' ≡ sets room at (bytes (get_or l i d))
        → at' ≡ at + length (bytes (get_or l i d))
        → Written room₀ at₀ room' at' (i + 1)
    next d {room'} {at'} more stores moves =
        let kept : length room' ≡ length room = ap length stores ∙ length-sets room at (bytes (get_or l i d)) in
        record {
          fits = omega (arith, length_next i d more);
          long = kept ∙ w.long;
          position = omega (arith, length_next i d more);
          stored =
              rw (stores, moves)
              (sym (sets_append room at (bytes (get_or l i d)) (rest (i + 1)))
              ∙ ap (λ (vs : List ℕ). sets room at vs) (sym (rest_next i d more))
              ∙ w.stored);
        }

    pub behind : length l ≤ i → at ≡ at₀ + length (flat (map bytes l))
    behind past = omega (arith, length_none i past, ap length rest_all)

    pub all_stored : length l ≤ i → room ≡ sets room₀ at₀ (flat (map bytes l))
    all_stored past =
        ap (λ (vs : List ℕ). sets room at vs) (sym (rest_none i past))
        ∙ w.stored
        ∙ ap (λ (vs : List ℕ). sets room₀ at₀ vs) rest_all
