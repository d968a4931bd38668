-- How numbers and bytes are spelled: the steps that the code takes, how long the text is, spaces, and some texts as they are printed.
use mathlib.Core.Path.{◌≡◌, refl, sym, ap, subst, ◌∙◌}
use mathlib.Core.Bool.{Bool, true, false}
use mathlib.Core.List.{List, [], ◌∷◌, ◌++◌}
use Prim.Native.Nat.{ℕ, zero, suc, ◌+◌, ◌-◌, ◌*◌, ◌/◌, ◌%◌, ◌^◌, max, ◌≤◌, ◌<◌}
use native.Mathlib.Numerals.{sub-one}
use native.Mathlib.Nat.{pow-suc}
use native.Mathlib.Omega.{arith}
use borrow.Author.Tests.{lt-ltb, le-ltb}
use mathlib.Core.Logic.{◌⊎◌, inl, inr}
use lib.ListN.{length, get_or, drop, length-append}
use Rattle.basics.proofs.Tests.{below_or_not}
use Rattle.text.specs.Text.{words, letter, spelled, decimal, hex, spaces, column}
use Rattle.text.proofs.Putting.{drop_next, drop_none}

-- no place in front: the last digit alone
pub spelled_none : (places n : ℕ) → places ≡ 0 → spelled places n ≡ letter (n % 10) ∷ []
unfolding spelled
spelled_none places n none = rw none

-- one digit is enough
pub spelled_one : (places n : ℕ) → n < 10 → spelled places n ≡ letter (n % 10) ∷ []
unfolding spelled
spelled_one zero n small = refl
spelled_one (suc k) n small = rw (lt-ltb n 10 small, spelled)

-- more digits in front of the last one
pub spelled_further : (k n : ℕ) → 10 ≤ n → spelled (suc k) n ≡ spelled k (n / 10) ++ letter (n % 10) ∷ []
unfolding spelled
spelled_further k n large =
    let last : List ℕ = letter (n % 10) ∷ [] in
    let front : List ℕ = spelled k (n / 10) in
    subst (λ (test : Bool). elim test [ true ↦ last | false ↦ front ++ last ] ≡ front ++ last) (sym (le-ltb n 10 large)) refl

pub spelled_more :
    (places n : ℕ) → (places ≡ 0 → ⊥) → 10 ≤ n → spelled places n ≡ spelled (places - 1) (n / 10) ++ letter (n % 10) ∷ []
spelled_more zero n some large = absurd (some refl)
spelled_more (suc k) n some large = rw sub-one (spelled_further k n large)

-- how many digits: one alone, or one more than those in front of the last
pub length_none : (places n : ℕ) → places ≡ 0 → length (spelled places n) ≡ 1
length_none places n none = ap length (spelled_none places n none)

pub length_one : (places n : ℕ) → n < 10 → length (spelled places n) ≡ 1
length_one places n small = ap length (spelled_one places n small)

pub length_more :
    (places n : ℕ) → (places ≡ 0 → ⊥) → 10 ≤ n → length (spelled places n) ≡ length (spelled (places - 1) (n / 10)) + 1
length_more places n some large =
    ap length (spelled_more places n some large) ∙ length-append (spelled (places - 1) (n / 10)) (letter (n % 10) ∷ [])

-- between two powers of ten: one digit more than the lower one has zeros
pub length_between :
    (places k n : ℕ) → k ≤ places → 10 ^ k ≤ max n 1 → max n 1 < 10 * 10 ^ k → length (spelled places n) ≡ k + 1
length_between places zero n enough low high = length_one places n (omega arith)
length_between zero (suc k) n enough low high = absurd (omega arith)
length_between (suc places) (suc k) n enough low high =
    let least : 10 ^ k * 10 ≤ max n 1 = rw pow-suc at low in
    let most : max n 1 < 10 * (10 ^ k * 10) = rw pow-suc at high in
    let front : suc places - 1 ≡ places = omega arith in
    omega (
      arith,
      rw front at (length_more (suc places) n (λ (none : suc places ≡ 0). omega arith) (omega (arith, least, most))),
      length_between places k (n / 10) (omega (arith, enough)) (omega (arith, least, most)) (omega (arith, least, most)),
    )

pub length_spelled : (places n : ℕ) → length (spelled places n) ≤ places + 1
length_spelled zero n = omega (arith, length_none zero n refl)
length_spelled (suc k) n = go (below_or_not n 10) (length_spelled k (n / 10))
  where
    go : (n < 10) ⊎ (10 ≤ n) → length (spelled k (n / 10)) ≤ k + 1 → length (spelled (suc k) n) ≤ suc k + 1
    go (inl small) _ = omega (arith, length_one (suc k) n small)
    go (inr large) rest =
        let front : suc k - 1 ≡ k = omega arith in
        omega (arith, rw front at (length_more (suc k) n (λ (none : suc k ≡ 0). omega arith) large))

pub length_decimal : (n : ℕ) → length (decimal n) ≤ 20
length_decimal n = length_spelled 19 n

-- bytes in hexadecimal, from number i on
abbrev pub hex_from : List ℕ → ℕ → List ℕ
hex_from bytes i = hex (drop i bytes)

pub hex_next :
    (bytes : List ℕ) (i : ℕ)
    → i < length bytes
    → hex_from bytes i ≡ (letter (get_or bytes i 0 / 16) ∷ letter (get_or bytes i 0 % 16) ∷ []) ++ hex_from bytes (i + 1)
unfolding hex
hex_next bytes i within = ap hex (drop_next bytes i within)

pub hex_none : (bytes : List ℕ) (i : ℕ) → length bytes ≤ i → hex_from bytes i ≡ []
unfolding hex
hex_none bytes i past = ap hex (drop_none bytes i past)

pub length_hex : (bytes : List ℕ) → length (hex bytes) ≡ 2 * length bytes
unfolding hex
length_hex [] = refl
length_hex (byte ∷ bytes) = ap (λ (n : ℕ). suc (suc n)) (length_hex bytes) ∙ omega arith

-- what is left of spaces at number i, while there is one, and when there is none
abbrev pub spaces_from : ℕ → ℕ → List ℕ
spaces_from n i = spaces (n - i)

pub spaces_next : (n i : ℕ) → i < n → spaces_from n i ≡ (32 ∷ []) ++ spaces_from n (i + 1)
spaces_next n i low =
    let more : n - i ≡ suc (n - (i + 1)) = omega arith in
    ap spaces more

pub spaces_none : (n i : ℕ) → n ≤ i → spaces_from n i ≡ []
spaces_none n i past =
    let none : n - i ≡ 0 = omega arith in
    ap spaces none

-- texts as they are printed
pub spelled_texts :
    (decimal 0 ≡ words "0")
    × (decimal 10 ≡ words "10")
    × (decimal 4096 ≡ words "4096")
    × (decimal 18446744073709551615 ≡ words "18446744073709551615")
    × (hex (0 ∷ 29 ∷ 255 ∷ []) ≡ words "001dff")
    × (column 5 12 ≡ words "   12")
    × (column 2 123 ≡ words "123")
unfolding spelled hex column
spelled_texts = (refl, refl, refl, refl, refl, refl, refl)
