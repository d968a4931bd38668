-- The whole block: how many bytes it has, and its bytes stored one part after the other.
use mathlib.Core.Path.{◌≡◌, refl, sym, ap, ◌∙◌}
use mathlib.Core.List.{List, [], ◌∷◌, ◌++◌, map}
use Prim.Native.Nat.{ℕ, ◌+◌, ◌*◌, ◌/◌, ◌%◌, ◌≤◌}
use native.Mathlib.Nat.{div-one}
use native.Mathlib.Omega.{arith}
use lib.ListN.{length, take, length-append, length-take}
use lib.Seq.{sets}
use Rattle.std.specs.List.{sum_by}
use Rattle.std.proofs.lemmas.List.Sums.{sum_by-cons}
use Rattle.basics.specs.Lists.{flat}
use Rattle.basics.proofs.Stores.{sets_append}
use Rattle.meaning.specs.declared.Statement.{Statement}
use Rattle.meaning.specs.declared.Block.{Block as Slots}
use Rattle.meaning.specs.Block.{declared}
use Rattle.meaning.specs.Format.{statement_width, bytes_of, record_bytes, body_bytes, block_bytes}
use Rattle.meaning.proofs.Bounds.{statement_width_lem}
use Rattle.writer.proofs.Widths.{record_width}

-- "each array's length (2 bytes)"
two_each : (ns : List ℕ) → length (flat (map (bytes_of 2) ns)) ≡ 2 * length ns
two_each [] = refl
two_each (n ∷ ns) = omega (arith, two_each ns)

-- a record with the byte that counts it
abbrev pub width : Statement → ℕ
width s = 1 + statement_width s

pub widths : (ss : List Statement) → sum_by width ss ≡ length (flat (map record_bytes ss))
widths [] = refl
widths (s ∷ ss) =
    omega (arith, sum_by-cons width s ss, length-append (record_bytes s) (flat (map record_bytes ss)), record_width s, widths ss)

pub widths_few : (ss : List Statement) → sum_by width ss ≤ 15 * length ss
widths_few [] = omega arith
widths_few (s ∷ ss) = omega (arith, sum_by-cons width s ss, statement_width_lem s, widths_few ss)

-- the bytes of the declared lengths, and those of the declared statements
abbrev pub lengths_of : Slots → List ℕ
lengths_of b = flat (map (bytes_of 2) (take b.arrays b.lengths))

abbrev pub records_of : Slots → List ℕ
records_of b = flat (map record_bytes (take b.count b.statements))

pub parts_size : (b : Slots) → length (block_bytes (declared b)) ≡ 7 + length (lengths_of b) + length (records_of b)
unfolding block_bytes
parts_size b = simp length-append (omega arith)

-- the whole fits two bytes
pub size_small : (b : Slots) → b.arrays ≤ 8 → b.count ≤ 64 → length (block_bytes (declared b)) ≤ 983
size_small b arrays count =
    omega (
      arith,
      parts_size b,
      two_each (take b.arrays b.lengths),
      length-take b.arrays b.lengths,
      widths (take b.count b.statements),
      widths_few (take b.count b.statements),
      length-take b.count b.statements,
    )

-- the seven bytes in front
abbrev header : ℕ → ℕ → ℕ → ℕ → ℕ → List ℕ
header size variables live arrays statements = 1 ∷ size / 256 % 256 ∷ size % 256 ∷ variables ∷ live ∷ arrays ∷ statements ∷ []

same_header :
    (behind : List ℕ) (variables live : ℕ) {size n arrays a statements s : ℕ}
    → size ≡ n
    → arrays ≡ a
    → statements ≡ s
    → header size variables live arrays statements ++ behind ≡ header n variables live a s ++ behind
same_header behind variables live e f g = rw (e, f, g)

three_parts :
    (l : List ℕ) (i : ℕ) (p q r : List ℕ)
    → sets l i (p ++ (q ++ r)) ≡ sets (sets (sets l i p) (i + length p) q) (i + length p + length q) r
three_parts l i p q r = sets_append l i p (q ++ r) ∙ sets_append (sets l i p) (i + length p) q r

module _ (b : Slots) (arrays : b.arrays ≤ length b.lengths) where
  as_many_lengths : b.arrays ≡ length (take b.arrays b.lengths)
  as_many_lengths = omega (arith, length-take b.arrays b.lengths)

  pub block_size : length (block_bytes (declared b)) ≡ 7 + 2 * b.arrays + length (records_of b)
  block_size = omega (arith, parts_size b, two_each (take b.arrays b.lengths), as_many_lengths)

  module _ (count : b.count ≤ length b.statements) where
    as_many_statements : b.count ≡ length (take b.count b.statements)
    as_many_statements = omega (arith, length-take b.count b.statements)

    joined :
        (size : ℕ)
        → size ≡ length (block_bytes (declared b))
        → header size b.variables b.live b.arrays b.count ++ (lengths_of b ++ records_of b) ≡ block_bytes (declared b)
    unfolding block_bytes
    joined size counted =
        let n = 3 + length (body_bytes (declared b)) in
        let whole : size ≡ n = omega arith in
        same_header (lengths_of b ++ records_of b) b.variables b.live whole as_many_lengths as_many_statements ∙ simp div-one

    pub block_stored :
        (room : List ℕ) {size behind_header behind_lengths : ℕ} {one two three : List ℕ}
        → size ≡ length (block_bytes (declared b))
        → one ≡ sets room 0 (header size b.variables b.live b.arrays b.count)
        → behind_header ≡ 7
        → two ≡ sets one behind_header (lengths_of b)
        → behind_lengths ≡ behind_header + length (lengths_of b)
        → three ≡ sets two behind_lengths (records_of b)
        → three ≡ sets room 0 (block_bytes (declared b))
    block_stored room {size} counted first seven second behind third =
        rw (third, second, first, behind, seven)
        (sym (three_parts room 0 (header size b.variables b.live b.arrays b.count) (lengths_of b) (records_of b))
        ∙ ap (λ (bytes : List ℕ). sets room 0 bytes) (joined size counted))
