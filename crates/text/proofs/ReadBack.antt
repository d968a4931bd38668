-- A number's decimal, read digit by digit from the left, is the number: twenty digits are enough for 64 bits.
use mathlib.Core.Path.{◌≡◌, refl, ap, ◌∙◌}
use mathlib.Core.Logic.{◌⊎◌, inl, inr}
use mathlib.Core.List.{List, [], ◌∷◌, ◌++◌}
use Prim.Native.Nat.{ℕ, zero, suc, ◌+◌, ◌-◌, ◌*◌, ◌/◌, ◌%◌, ◌^◌, ◌≤◌, ◌<◌}
use native.Mathlib.Omega.{arith}
use borrow.Author.Tests.{lt-ltb}
use Rattle.basics.proofs.Tests.{below_or_not}
use Rattle.text.specs.Text.{letter, spelled, decimal}
use Rattle.text.proofs.Spelling.{spelled_none, spelled_one, spelled_further}

-- what digits say behind a number that was read already
abbrev pub value : ℕ → List ℕ → ℕ
value before [] = before
value before (digit ∷ digits) = value (before * 10 + (digit - 48)) digits

value_behind : (before : ℕ) (digits : List ℕ) (last : ℕ) → value before (digits ++ last ∷ []) ≡ value before digits * 10 + (last - 48)
value_behind before [] last = refl
value_behind before (digit ∷ digits) last = value_behind (before * 10 + (digit - 48)) digits last

-- one more digit holds ten times as much
abbrev held : ℕ → ℕ
held zero = 10
held (suc k) = 10 * held k

letter_value : (d : ℕ) → d < 10 → letter d - 48 ≡ d
letter_value d small = rw (lt-ltb d 10 small) (omega arith)

last_value : (n : ℕ) → letter (n % 10) - 48 ≡ n % 10
last_value n = letter_value (n % 10) (omega arith)

one_value : (n : ℕ) → n < 10 → value 0 (letter (n % 10) ∷ []) ≡ n
one_value n small = omega (arith, last_value n)

spelled_value : (k n : ℕ) → n < held k → value 0 (spelled k n) ≡ n
spelled_value zero n small = ap (value 0) (spelled_none zero n refl) ∙ one_value n small
spelled_value (suc k) n small = go (below_or_not n 10) (spelled_value k (n / 10) (omega arith))
  where
    go : (n < 10) ⊎ (10 ≤ n) → value 0 (spelled k (n / 10)) ≡ n / 10 → value 0 (spelled (suc k) n) ≡ n
    go (inl one) _ = ap (value 0) (spelled_one (suc k) n one) ∙ one_value n one
    go (inr more) front =
        ap (value 0) (spelled_further k n more)
        ∙ value_behind 0 (spelled k (n / 10)) (letter (n % 10))
        ∙ omega (arith, front, last_value n)

pub decimal_value : (n : ℕ) → n < 2 ^ 64 → value 0 (decimal n) ≡ n
decimal_value n fits = spelled_value 19 n (omega (arith, fits))
