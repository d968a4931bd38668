-- The laws of sets: who is in nobody, in one alone, in two joined, in what two share, in what only one of two has, and in all below a
-- number; and that sets with the same members are the same number.
use mathlib.Core.Path.{◌≡◌, refl, sym, ap, ◌∙◌}
use mathlib.Core.Bool.{Bool, true, false, ◌&&◌, ◌||◌, not, false≢true, or_assoc}
use Prim.Native.Nat.{ℕ, zero, suc, ◌+◌, ◌-◌, ◌/◌, ◌%◌, ◌^◌, ◌≤◌, ◌<◌, max, min}
use native.Mathlib.Nat.{zero-div, pow-suc, div-eq_of_lt, lt_of_lt_of_le}
use native.Mathlib.Omega.{arith}
use lib.Dec.{eqb, ltb, leb-zero, leb-suc-zero, leb-suc-suc, eqb-zero-suc, eqb-suc-zero, eqb-suc-suc}
use lib.Bits.{bit_and, bit_or, bit_xor, differ, and_step, or_step, xor_step}
use lib.Pow.{pow_pos, pow_mono, shr-shr}
use borrow.Author.Tests.{ne_eqb}
use Rattle.basics.specs.Choice.{pick}
use Rattle.basics.specs.Sets.{nobody, only, join, has}

-- a bit further up, from the half
down : (n i : ℕ) → n / 2 ^ suc i ≡ n / 2 / 2 ^ i
down n i = ap (λ (k : ℕ). n / 2 ^ k) (omega arith) ∙ sym (shr-shr n 1 i)

bit_or_lem : (i s t : ℕ) → bit_or s t / 2 ^ i % 2 ≡ max (s / 2 ^ i % 2) (t / 2 ^ i % 2)
bit_or_lem zero s t = omega (arith, or_step s t)
bit_or_lem (suc i) s t =
    let half : bit_or s t / 2 ≡ bit_or (s / 2) (t / 2) = omega (arith, or_step s t) in
    rw (down (bit_or s t) i, down s i, down t i, half) (bit_or_lem i (s / 2) (t / 2))

bits : (a b : ℕ) → a < 2 → b < 2 → eqb (max a b) 1 ≡ eqb a 1 || eqb b 1
bits zero zero ha hb = refl
bits zero (suc zero) ha hb = refl
bits zero (suc (suc b)) ha hb = absurd (omega arith)
bits (suc zero) zero ha hb = refl
bits (suc zero) (suc zero) ha hb = refl
bits (suc zero) (suc (suc b)) ha hb = absurd (omega arith)
bits (suc (suc a)) b ha hb = absurd (omega arith)

pub has_nobody : (i : ℕ) → has nobody i ≡ false
has_nobody i = rw zero-div

pub has_join : (s t i : ℕ) → has (join s t) i ≡ has s i || has t i
has_join s t i = rw bit_or_lem (bits (s / 2 ^ i % 2) (t / 2 ^ i % 2) (omega arith) (omega arith))

pub has_only : (i j : ℕ) → has (only i) j ≡ eqb i j
has_only zero zero = refl
has_only zero (suc j) = rw (down 1 j, zero-div, eqb-zero-suc j)
has_only (suc i) zero =
    let even : 2 ^ suc i / 1 % 2 ≡ 0 = omega (arith, pow-suc 2 i) in
    rw (even, eqb-suc-zero)
has_only (suc i) (suc j) =
    let half : 2 ^ suc i / 2 ≡ 2 ^ i = omega (arith, pow-suc 2 i) in
    rw (down (2 ^ suc i) j, half, eqb-suc-suc) (has_only i j)

-- what is in both
bit_and_lem : (i s t : ℕ) → bit_and s t / 2 ^ i % 2 ≡ min (s / 2 ^ i % 2) (t / 2 ^ i % 2)
bit_and_lem zero s t = omega (arith, and_step s t)
bit_and_lem (suc i) s t =
    let half : bit_and s t / 2 ≡ bit_and (s / 2) (t / 2) = omega (arith, and_step s t) in
    rw (down (bit_and s t) i, down s i, down t i, half) (bit_and_lem i (s / 2) (t / 2))

bits_both : (a b : ℕ) → a < 2 → b < 2 → eqb (min a b) 1 ≡ eqb a 1 && eqb b 1
bits_both zero zero ha hb = refl
bits_both zero (suc zero) ha hb = refl
bits_both zero (suc (suc b)) ha hb = absurd (omega arith)
bits_both (suc zero) zero ha hb = refl
bits_both (suc zero) (suc zero) ha hb = refl
bits_both (suc zero) (suc (suc b)) ha hb = absurd (omega arith)
bits_both (suc (suc a)) b ha hb = absurd (omega arith)

pub has_both : (s t i : ℕ) → has (bit_and s t) i ≡ has s i && has t i
has_both s t i = rw bit_and_lem (bits_both (s / 2 ^ i % 2) (t / 2 ^ i % 2) (omega arith) (omega arith))

-- what is in one and not in the other
differ_bit : (a b : ℕ) → a < 2 → b < 2 → differ a b < 2
differ_bit zero b ha hb = hb
differ_bit (suc zero) zero ha hb = ha
differ_bit (suc zero) (suc zero) ha hb = omega arith
differ_bit (suc zero) (suc (suc b)) ha hb = absurd (omega arith)
differ_bit (suc (suc a)) b ha hb = absurd (omega arith)

bit_xor_lem : (i s t : ℕ) → bit_xor s t / 2 ^ i % 2 ≡ differ (s / 2 ^ i % 2) (t / 2 ^ i % 2)
bit_xor_lem zero s t =
    let s-whole : s / 2 ^ 0 ≡ s = omega arith in
    let t-whole : t / 2 ^ 0 ≡ t = omega arith in
    rw (s-whole, t-whole) (omega (arith, xor_step s t, differ_bit (s % 2) (t % 2) (omega arith) (omega arith)))
bit_xor_lem (suc i) s t =
    let half : bit_xor s t / 2 ≡ bit_xor (s / 2) (t / 2) = omega (arith, xor_step s t, differ_bit (s % 2) (t % 2) (omega arith) (omega arith)) in
    rw (down (bit_xor s t) i, down s i, down t i, half) (bit_xor_lem i (s / 2) (t / 2))

bits_differ : (a b : ℕ) → a < 2 → b < 2 → eqb (differ a b) 1 ≡ pick (eqb a 1) (not (eqb b 1)) (eqb b 1)
bits_differ zero b ha hb = refl
bits_differ (suc zero) zero ha hb = refl
bits_differ (suc zero) (suc zero) ha hb = refl
bits_differ (suc zero) (suc (suc b)) ha hb = absurd (omega arith)
bits_differ (suc (suc a)) b ha hb = absurd (omega arith)

pub has_differ : (s t i : ℕ) → has (bit_xor s t) i ≡ pick (has s i) (not (has t i)) (has t i)
has_differ s t i = rw bit_xor_lem (bits_differ (s / 2 ^ i % 2) (t / 2 ^ i % 2) (omega arith) (omega arith))

-- sets with the same members are the same number
bit_same : (a b : ℕ) → a < 2 → b < 2 → eqb a 1 ≡ eqb b 1 → a ≡ b
bit_same zero zero ha hb e = refl
bit_same zero (suc zero) ha hb e = absurd (false≢true e)
bit_same zero (suc (suc b)) ha hb e = absurd (omega arith)
bit_same (suc zero) zero ha hb e = absurd (false≢true (sym e))
bit_same (suc zero) (suc zero) ha hb e = refl
bit_same (suc zero) (suc (suc b)) ha hb e = absurd (omega arith)
bit_same (suc (suc a)) b ha hb e = absurd (omega arith)

-- the others than the lowest are in the half
pub has_half : (s i : ℕ) → has (s / 2) i ≡ has s (suc i)
has_half s i = ap (λ (n : ℕ). eqb (n % 2) 1) (sym (down s i))

same_within : (n s t : ℕ) → s ≤ n → t ≤ n → ((i : ℕ) → has s i ≡ has t i) → s ≡ t
same_within zero s t hs ht same = omega arith
same_within (suc n) s t hs ht same =
    let halves : s / 2 ≡ t / 2 =
    same_within n (s / 2) (t / 2) (omega arith) (omega arith) (λ i. has_half s i ∙ same (suc i) ∙ sym (has_half t i)) in
    let lowest : s / 2 ^ 0 % 2 ≡ t / 2 ^ 0 % 2 = bit_same (s / 2 ^ 0 % 2) (t / 2 ^ 0 % 2) (omega arith) (omega arith) (same 0) in
    omega arith

pub same_sets : (s t : ℕ) → ((i : ℕ) → has s i ≡ has t i) → s ≡ t
same_sets s t same = same_within (s + t) s t (omega arith) (omega arith) same

pub has_lowest : (s : ℕ) → has s 0 ≡ eqb (s % 2) 1
has_lowest s =
    let whole : s / 1 ≡ s = omega arith in
    rw whole

-- all that come before i
pub has_below : (i j : ℕ) → has (2 ^ i - 1) j ≡ ltb j i
has_below zero j = has_nobody j ∙ sym (leb-suc-zero j)
has_below (suc i) zero =
    let odd : (2 ^ suc i - 1) / 1 % 2 ≡ 1 = omega (arith, pow-suc 2 i, pow_pos i) in
    rw odd (sym (leb-suc-suc 0 i ∙ leb-zero i))
has_below (suc i) (suc j) =
    let half : (2 ^ suc i - 1) / 2 ≡ 2 ^ i - 1 = omega (arith, pow-suc 2 i, pow_pos i) in
    rw (down (2 ^ suc i - 1) j, half) (has_below i j ∙ sym (leb-suc-suc (suc j) i))

-- a set that has no one is nobody, and one that has someone is not
pub no_one : (s : ℕ) → ((i : ℕ) → has s i ≡ false) → s ≡ nobody
no_one s e = same_sets s nobody (λ i. e i ∙ sym (has_nobody i))

pub not_nobody : (s i : ℕ) → has s i ≡ true → eqb s nobody ≡ false
not_nobody s i e = ne_eqb s nobody λ (empty : s ≡ nobody). false≢true (sym (has_nobody i) ∙ ap (λ (set : ℕ). has set i) (sym empty) ∙ e)

-- a set below 2 ^ n has nobody from n on, and the other way round
pub has_beyond : (n s i : ℕ) → s < 2 ^ n → n ≤ i → has s i ≡ false
has_beyond n s i small beyond =
    let none : s / 2 ^ i ≡ 0 = div-eq_of_lt (lt_of_lt_of_le small (pow_mono beyond)) in
    rw none

pub set_bound : (n s : ℕ) → ((i : ℕ) → n ≤ i → has s i ≡ false) → s < 2 ^ n
set_bound zero s e = omega (arith, no_one s (λ i. e i (omega arith)))
set_bound (suc n) s e = omega (arith, pow-suc 2 n, set_bound n (s / 2) (λ i beyond. has_half s i ∙ e (suc i) (omega arith)))

-- it does not matter which two are joined first
pub join_assoc : (a b c : ℕ) → join (join a b) c ≡ join a (join b c)
join_assoc a b c =
    same_sets (join (join a b) c) (join a (join b c)) λ t.
    has_join (join a b) c t
    ∙ ap (λ (x : Bool). x || has c t) (has_join a b t)
    ∙ or_assoc (has a t) (has b t) (has c t)
    ∙ ap (λ (x : Bool). has a t || x) (sym (has_join b c t))
    ∙ sym (has_join a (join b c) t)
