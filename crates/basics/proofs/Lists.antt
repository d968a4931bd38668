-- The laws of lists that loops over bytes and slots lean on: what is left behind a place, the first elements as far as there are any, and
-- slots that are filled from the front.
use mathlib.Core.Path.{◌≡◌, refl, sym, ap, ◌∙◌}
use mathlib.Core.Logic.{◌⊎◌, inl, inr}
use mathlib.Core.List.{List}
use Prim.Native.Nat.{ℕ, zero, suc, ◌+◌, ◌-◌, ◌≤◌, ◌<◌, min}
use native.Mathlib.Nat.{zero-add, sub-zero, zero-sub, suc-sub-suc}
use native.Mathlib.Omega.{arith}
use lib.ListN.{length, get_or, take, drop, replicate, length-drop, length-replicate}
use lib.Seq.{take_all, sets, sets-eq}
use Rattle.basics.specs.Lists.{fill}
use Rattle.basics.proofs.Tests.{below_or_not}

module _ {ℓ} {A : Type ℓ} where
  -- all that is left behind a place
  pub take_rest : (l : List A) (n : ℕ) → take (length l - n) (drop n l) ≡ drop n l
  take_rest l n = take_all (length l - n) (drop n l) (omega (arith, length-drop n l))

  -- the first n elements of a list that has fewer are all of them
  pub take_least : (n : ℕ) (l : List A) → take (min n (length l)) l ≡ take n l
  take_least n l = by (below_or_not n (length l))
    where
      by : (n < length l) ⊎ (length l ≤ n) → take (min n (length l)) l ≡ take n l
      by (inl low) =
          let least : min n (length l) ≡ n = omega arith in
          rw least
      by (inr high) = take_all (min n (length l)) l (omega arith) ∙ sym (take_all n l high)

  -- where all elements are d, and so is what stands behind them, d is at every place
  pub replicate_at : (n i : ℕ) (d : A) → get_or (replicate n d) i d ≡ d
  replicate_at zero i d = refl
  replicate_at (suc n) zero d = refl
  replicate_at (suc n) (suc i) d = replicate_at n i d

  pub drop_replicate : (n m : ℕ) (d : A) → drop m (replicate n d) ≡ replicate (n - m) d
  drop_replicate n zero d = ap (λ (k : ℕ). replicate k d) (sym (sub-zero n))
  drop_replicate zero (suc m) d = rw zero-sub
  drop_replicate (suc n) (suc m) d = drop_replicate n m d ∙ ap (λ (k : ℕ). replicate k d) (sym (suc-sub-suc n m))

  -- slots that are filled from the front, the others left as they were
  pub sets_fill : (n : ℕ) (d : A) (xs : List A) → length xs ≤ n → sets (replicate n d) 0 xs ≡ fill n d xs
  sets_fill n d xs h =
      let room : 0 + length xs ≤ length (replicate n d) = omega (arith, length-replicate n d) in
      sets-eq xs (replicate n d) 0 room ∙ rw (zero-add, drop_replicate n (length xs) d)
