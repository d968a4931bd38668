-- The contents in their slices: taken three times from the same bytes, they are the same contents; and the part of an array that is lent.
use mathlib.Core.Path.{◌≡◌, sym, ap₂, subst}
use mathlib.Core.List.{List}
use Prim.Native.Nat.{ℕ, ◌≤◌}
use native.Mathlib.Omega.{arith}
use lib.ListN.{length, take, replicate, length-replicate}
use lib.Seq.{length-take-le}
use Rattle.memory.specs.Lent.{lent}
use Rattle.beside.specs.Beside.{side_by_side}
use Rattle.comparison.specs.Input.{numbers_in}
use Rattle.comparison.specs.Lines.{beside_text, compared_on}
use Rattle.comparison.specs.Compared.{room}

pub filled :
    (lengths : List ℕ) (live : ℕ) (bytes lent-room : List ℕ) {sv sc bv bc lv lc variables cells : List ℕ}
    → sv ≡ variables → sc ≡ cells → bv ≡ variables → bc ≡ cells → lv ≡ variables → lc ≡ cells
    → beside_text lengths live (lent sv sc) (side_by_side bytes lent-room (lent bv bc) (lent lv lc)) ≡ compared_on lengths live bytes lent-room (lent variables cells)
unfolding compared_on
filled lengths live bytes lent-room one two three four five six =
    ap₂ (beside_text lengths live) (ap₂ lent one two) (ap₂ (side_by_side bytes lent-room) (ap₂ lent three four) (ap₂ lent five six))

abbrev pub zeros : ℕ → List ℕ
zeros n = replicate n 0

-- so many elements of an array that has as many
pub part_long : (n slots : ℕ) → n ≤ slots → length (take n (zeros slots)) ≡ n
part_long n slots fits = length-take-le n (zeros slots) (omega (arith, length-replicate {A = ℕ} slots 0))

pub part_low : (n slots most : ℕ) → n ≤ slots → n ≤ most → length (take n (zeros slots)) ≤ most
part_low n slots most fits low = subst (λ (size : ℕ). size ≤ most) (sym (part_long n slots fits)) low

pub in_arrays :
    (lengths : List ℕ) (live : ℕ) (bytes variable-bytes cell-bytes : List ℕ) (variables cells : ℕ) → variables ≤ 32 → cells ≤ 2048
    → compared_on lengths live bytes (zeros 4096)
    (lent (numbers_in (length (take variables (zeros 32))) variable-bytes) (numbers_in (length (take cells (zeros 2048))) cell-bytes))
    ≡ compared_on lengths live bytes room (lent (numbers_in variables variable-bytes) (numbers_in cells cell-bytes))
unfolding room
in_arrays lengths live bytes variable-bytes cell-bytes variables cells v c =
    ap₂ (λ (n m : ℕ). compared_on lengths live bytes (zeros 4096) (lent (numbers_in n variable-bytes) (numbers_in m cell-bytes)))
    (part_long variables 32 v) (part_long cells 2048 c)
