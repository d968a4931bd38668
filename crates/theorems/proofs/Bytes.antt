-- "Big-endian": a number as so many bytes says the number, and bytes are the bytes of the number that they say.
use mathlib.Core.Path.{◌≡◌, refl, ap₂, ◌∙◌}
use mathlib.Core.Bool.{Bool, true}
use mathlib.Core.List.{List, [], ◌∷◌}
use Prim.Native.Nat.{ℕ, zero, suc, ◌+◌, ◌*◌, ◌/◌, ◌%◌, ◌^◌, ◌<◌}
use native.Mathlib.Nat.{zero-add, add-zero, mul-le-mul_right, pow-succ', mod-lt, mod-one, mod-eq_of_lt, div-eq_of_lt, mul-add-div_right, mul-add-mod_self_right, pow-le-pow_right}
use native.Mathlib.Omega.{arith}
use lib.Arith.{mod-mul}
use lib.Dec.{ltb}
use lib.ListN.{length}
use borrow.Author.Tests.{ltb-true, lt-ltb}
use Rattle.basics.specs.Lists.{all, each}
use Rattle.basics.proofs.Tests.{and_both}
use Rattle.basics.proofs.Parts.{all_first, all_others}
use Rattle.meaning.specs.Format.{number, bytes_of}

-- a byte is below 256
abbrev pub is_byte : ℕ → Bool
is_byte n = ltb n 256

pub byte : (n : ℕ) → n < 256 → is_byte n ≡ true
byte n h = lt-ltb n 256 h

-- one more byte behind a number
abbrev behind : ℕ → ℕ → ℕ
behind byte n = n * 256 + byte

power_positive : (w : ℕ) → 0 < 256 ^ w
power_positive w = pow-le-pow_right {n = 256} (omega arith) {i = 0} {j = w} (omega arith)

-- a number of one byte more: its first byte and the rest
first_byte : (w n : ℕ) → n % 256 ^ suc w ≡ (n / 256 ^ w % 256) * 256 ^ w + n % 256 ^ w
first_byte w n = rw pow-succ' (mod-mul n (omega arith) (power_positive w))

-- a number with one byte more behind it, moved up
moved : (before byte power : ℕ) → (before * 256 + byte) * power ≡ before * (256 * power) + byte * power
moved before byte power = omega arith

-- bytes behind a number move it up
number_behind : (w n before : ℕ) → each behind (bytes_of w n) before ≡ before * 256 ^ w + n % 256 ^ w
number_behind zero n before = rw mod-one (omega arith)
number_behind (suc w) n before =
    number_behind w n (before * 256 + n / 256 ^ w % 256)
    ∙ rw (moved, first_byte w n, pow-succ' 256 w) (omega arith)

behind_number : (bytes : List ℕ) (before : ℕ) → each behind bytes before ≡ before * 256 ^ length bytes + number bytes
behind_number [] before = omega arith
behind_number (byte ∷ bytes) before =
    behind_number bytes (before * 256 + byte)
    ∙ rw (moved before byte, pow-succ' 256 (length bytes), behind_number bytes (0 * 256 + byte), zero-add) (omega arith)

number_first : (byte : ℕ) (bytes : List ℕ) → number (byte ∷ bytes) ≡ byte * 256 ^ length bytes + number bytes
number_first byte bytes = behind_number bytes (0 * 256 + byte) ∙ rw zero-add

-- what so many bytes say is below the power of their width
below_power : (byte n power : ℕ) → byte < 256 → n < power → byte * power + n < 256 * power
below_power byte n power h k = omega (arith, mul-le-mul_right {m = suc byte} {n = 256} power h)

pub number_below : (bytes : List ℕ) → all is_byte bytes ≡ true → number bytes < 256 ^ length bytes
number_below [] e = omega arith
number_below (byte ∷ bytes) e =
    rw (number_first byte bytes, pow-succ' 256 (length bytes))
    (below_power byte (number bytes) (256 ^ length bytes) (ltb-true byte 256 (all_first is_byte byte bytes e)) (number_below bytes (all_others is_byte byte bytes e)))

-- the bytes of a number are those of what is left of it below the power of their width
bytes_low : (w high n : ℕ) → bytes_of w (high * 256 ^ w + n) ≡ bytes_of w n
bytes_low zero high n = refl
bytes_low (suc w) high n =
    let up : high * 256 ^ suc w + n ≡ high * 256 * 256 ^ w + n = rw pow-succ' (omega arith) in
    ap₂ ◌∷◌ (rw (up, mul-add-div_right (power_positive w), mul-add-mod_self_right high)) (rw up (bytes_low w (high * 256) n))

pub bytes_are_bytes : (w n : ℕ) → all is_byte (bytes_of w n) ≡ true
bytes_are_bytes zero n = refl
bytes_are_bytes (suc w) n = and_both _ _ (lt-ltb (n / 256 ^ w % 256) 256 (mod-lt (n / 256 ^ w) (omega arith))) (bytes_are_bytes w n)

-- A number written as w bytes is read back modulo 256 ^ w; so is itself where it fits.
pub number_bytes : (w n : ℕ) → number (bytes_of w n) ≡ n % 256 ^ w
number_bytes w n = number_behind w n 0 ∙ omega arith

pub number_bytes_fits : (w n : ℕ) → n < 256 ^ w → number (bytes_of w n) ≡ n
number_bytes_fits w n h = number_bytes w n ∙ mod-eq_of_lt h

-- Bytes are written again as they were read.
bytes_number_of : (bytes : List ℕ) → all is_byte bytes ≡ true → bytes_of (length bytes) (number bytes) ≡ bytes
bytes_number_of [] e = refl
bytes_number_of (byte ∷ bytes) e =
    ap₂ ◌∷◌
    (rw (number_first byte bytes, mul-add-div_right (power_positive (length bytes)), div-eq_of_lt (number_below bytes (all_others is_byte byte bytes e)), add-zero)
    (mod-eq_of_lt (ltb-true byte 256 (all_first is_byte byte bytes e))))
    (rw (number_first byte bytes, bytes_low (length bytes) byte (number bytes)) (bytes_number_of bytes (all_others is_byte byte bytes e)))

pub bytes_number : (w : ℕ) (bytes : List ℕ) → length bytes ≡ w → all is_byte bytes ≡ true → bytes_of w (number bytes) ≡ bytes
bytes_number w bytes sized e = rw (← sized) (bytes_number_of bytes e)
