-- "All values are unsigned 32-bit": an operation on such values has such a value.
use Prim.Native.Nat.{ℕ, zero, suc, ◌<◌, ◌^◌}
use native.Mathlib.Nat.{mod-lt, lt_of_le_of_lt}
use lib.Dec.{lit<}
use lib.Bits.{and_le_l, or_lt, xor_lt}
use lib.Pow.{shr_le}
use Rattle.meaning.specs.Machine.{operate}

pub operate_fits : (operation a b : ℕ) → a < 2 ^ 32 → b < 2 ^ 32 → operate operation a b < 2 ^ 32
unfolding operate
operate_fits zero a b ha hb = ha
operate_fits (suc zero) a b ha hb = mod-lt _ (lit< tt)
operate_fits (suc (suc zero)) a b ha hb = mod-lt _ (lit< tt)
operate_fits (suc (suc (suc zero))) a b ha hb = mod-lt _ (lit< tt)
operate_fits (suc (suc (suc (suc zero)))) a b ha hb = lt_of_le_of_lt (and_le_l a b) ha
operate_fits (suc (suc (suc (suc (suc zero))))) a b ha hb = or_lt 32 a b ha hb
operate_fits (suc (suc (suc (suc (suc (suc zero)))))) a b ha hb = xor_lt 32 a b ha hb
operate_fits (suc (suc (suc (suc (suc (suc (suc zero))))))) a b ha hb = lt_of_le_of_lt (shr_le a _) ha
operate_fits (suc (suc (suc (suc (suc (suc (suc (suc operation)))))))) a b ha hb = lit< tt
