-- "Version 1; total length (2 bytes, the whole block)": the front that a block and a list have alike.
use mathlib.Core.Path.{◌≡◌, sym, ap, ap₂, ◌∙◌}
use mathlib.Core.Bool.{true}
use mathlib.Core.List.{List, ◌∷◌, ◌++◌}
use Prim.Native.Nat.{ℕ, suc, ◌+◌, ◌≤◌, ◌<◌}
use native.Mathlib.Omega.{arith}
use lib.ListN.{length, get_or, take, drop, length-drop, take-append-drop}
use lib.Seq.{length-take-le, drop-drop}
use Rattle.basics.specs.Lists.{all}
use Rattle.basics.proofs.Parts.{all_take, all_drop, spelled_front}
use Rattle.meaning.specs.Format.{number, bytes_of}
use Rattle.theorems.proofs.Bytes.{is_byte, number_bytes_fits, bytes_number}

-- two bytes are written as they were read
pub two_bytes : (bytes : List ℕ) → 2 ≤ length bytes → all is_byte bytes ≡ true → bytes_of 2 (number (take 2 bytes)) ++ drop 2 bytes ≡ bytes
two_bytes bytes enough are =
    ap (λ (front : List ℕ). front ++ drop 2 bytes) (bytes_number 2 (take 2 bytes) (length-take-le 2 bytes enough) (all_take is_byte 2 bytes are))
    ∙ take-append-drop 2 bytes

-- The front that was read is written again before the same body,
pub header_written : (bytes body : List ℕ) → 3 ≤ length bytes → get_or bytes 0 0 ≡ 1 → number (take 2 (drop 1 bytes)) ≡ length bytes
    → body ≡ drop 3 bytes → all is_byte bytes ≡ true → 1 ∷ bytes_of 2 (3 + length body) ++ body ≡ bytes
header_written bytes body long version stated same are =
    let sized : 3 + length body ≡ number (take 2 (drop 1 bytes)) = omega (arith, ap length same, length-drop 3 bytes) in
    rw (sized, same, ← drop-drop 2 1 bytes)
    (ap₂ ◌∷◌ (sym version) (two_bytes (drop 1 bytes) (omega (arith, length-drop 1 bytes)) (all_drop is_byte 1 bytes are))
    ∙ spelled_front 1 bytes 0 (omega arith))

-- and the length that was written is the number of bytes, where two bytes can state it.
pub header_stated : (n : ℕ) → 3 + n < 65536 → number (bytes_of 2 (3 + n)) ≡ suc (suc (suc n))
header_stated n fits = number_bytes_fits 2 (3 + n) fits ∙ omega arith
