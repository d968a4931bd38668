-- What `read_operand` says, by the kind in front and the number of the bytes.
use mathlib.Core.Path.{◌≡◌, refl, ap}
use mathlib.Core.List.{List, [], ◌∷◌}
use Prim.Native.Nat.{ℕ, ◌+◌, ◌*◌, ◌≤◌, ◌<◌}
use native.Mathlib.Omega.{arith}
use lib.ListN.{length, get_or, take}
use mathlib.Core.Bool.{Bool, true, false, ◌&&◌}
use lib.Dec.{eqb, leb}
use borrow.Author.Tests.{le-leb, lt-leb, eqb-true}
use Rattle.meaning.specs.declared.Place.TheVariants.{Variable, Cell}
use Rattle.meaning.specs.declared.Operand.TheVariants.{Nothing, Constant, Held}
use Rattle.meaning.specs.Format.{number, read_operand}
use Rattle.reader.proofs.Numbers.{number_four}

pub constant :
    (bytes : List ℕ) (value : ℕ) → get_or bytes 0 0 ≡ 0 → 5 ≤ length bytes
    → value ≡ get_or bytes 1 0 * 16777216 + get_or bytes 2 0 * 65536 + get_or bytes 3 0 * 256 + get_or bytes 4 0
    → Constant value ≡ read_operand bytes
unfolding read_operand
constant [] value e h is = absurd (omega arith)
constant (kind ∷ rest) value e h is =
    let four : 4 ≤ length rest = omega arith in
    let same : value ≡ number (take 4 rest) = omega (arith, is, number_four rest four) in
    rw (e, le-leb 4 (length rest) four) (ap Constant same)

pub variable : (bytes : List ℕ) → get_or bytes 0 0 ≡ 1 → 2 ≤ length bytes → Held (Variable (get_or bytes 1 0)) ≡ read_operand bytes
unfolding read_operand
variable [] e h = absurd (omega arith)
variable (kind ∷ rest) e h = rw (e, le-leb 1 (length rest) (omega arith))

pub cell :
    (bytes : List ℕ) → get_or bytes 0 0 ≡ 2 → 3 ≤ length bytes → Held (Cell (get_or bytes 1 0) (get_or bytes 2 0)) ≡ read_operand bytes
unfolding read_operand
cell [] e h = absurd (omega arith)
cell (kind ∷ rest) e h = rw (e, le-leb 2 (length rest) (omega arith))

-- nothing stands where no kind stands, and where the bytes are fewer than those of their kind
pub missing :
    (bytes : List ℕ)
    → (get_or bytes 0 0 ≡ 0 → length bytes < 5) → (get_or bytes 0 0 ≡ 1 → length bytes < 2) → (get_or bytes 0 0 ≡ 2 → length bytes < 3)
    → Nothing ≡ read_operand bytes
unfolding read_operand
missing [] p q r = refl
missing (kind ∷ rest) p q r =
    rw (
      none (eqb kind 0) (leb 4 (length rest)) (λ e. lt-leb 4 (length rest) (omega (arith, p (eqb-true kind 0 e)))),
      none (eqb kind 1) (leb 1 (length rest)) (λ e. lt-leb 1 (length rest) (omega (arith, q (eqb-true kind 1 e)))),
      none (eqb kind 2) (leb 2 (length rest)) (λ e. lt-leb 2 (length rest) (omega (arith, r (eqb-true kind 2 e)))),
    )
  where
    none : (a b : Bool) → (a ≡ true → b ≡ false) → (a && b) ≡ false
    none true b h = h refl
    none false b h = refl
