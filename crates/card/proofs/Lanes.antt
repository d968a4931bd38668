-- Laws of lanes: four of them worked on at once, and cells that stand in a row.
use mathlib.Core.Path.{◌≡◌, refl, ap, ◌∙◌}
use mathlib.Core.List.{List, [], ◌∷◌, map}
use Prim.Native.Nat.{ℕ, zero, suc, ◌+◌, ◌-◌, ◌≤◌, ◌<◌, min}
use native.Mathlib.Numerals.{add-one}
use native.Mathlib.Omega.{arith}
use lib.ListN.{length, get_or, take, drop, set, length-take}
use lib.Seq.{drop-cons}
use Rattle.basics.specs.Lists.{sum}
use Rattle.basics.proofs.Parts.{spelled_whole}
use Rattle.basics.proofs.Counting.{more}
use Rattle.meaning.specs.Machine.{operate, cell_at, fetch_place}
use Rattle.meaning.specs.Card.{row, store_lanes, operate_lanes}
use Rattle.memory.specs.Lent.{lent}
use Rattle.card.specs.Registers.{row_fetched, row_stored}

-- work on the first lanes is the first of the work on all
first_lanes : (operation k : ℕ) (lanes others : List ℕ) → take k (operate_lanes operation lanes others) ≡ operate_lanes operation (take k lanes) others
first_lanes operation zero lanes others = refl
first_lanes operation (suc k) [] others = refl
first_lanes operation (suc k) (a ∷ lanes) [] = ap {B = List ℕ} (λ rest. operate operation a 0 ∷ rest) (first_lanes operation k lanes [])
first_lanes operation (suc k) (a ∷ lanes) (b ∷ others) = ap {B = List ℕ} (λ rest. operate operation a b ∷ rest) (first_lanes operation k lanes others)

four_lanes : (operation a₀ a₁ a₂ a₃ : ℕ) (others : List ℕ)
    → operate operation a₀ (get_or others 0 0) ∷ operate operation a₁ (get_or others 1 0) ∷ operate operation a₂ (get_or others 2 0) ∷ operate operation a₃ (get_or others 3 0) ∷ []
    ≡ operate_lanes operation (a₀ ∷ a₁ ∷ a₂ ∷ a₃ ∷ []) others
four_lanes operation a₀ a₁ a₂ a₃ [] = refl
four_lanes operation a₀ a₁ a₂ a₃ (b₀ ∷ []) = refl
four_lanes operation a₀ a₁ a₂ a₃ (b₀ ∷ b₁ ∷ []) = refl
four_lanes operation a₀ a₁ a₂ a₃ (b₀ ∷ b₁ ∷ b₂ ∷ []) = refl
four_lanes operation a₀ a₁ a₂ a₃ (b₀ ∷ b₁ ∷ b₂ ∷ b₃ ∷ others) = refl

pub worked : (operation k : ℕ) (lanes others : List ℕ) → length lanes ≡ 4
    → take k
    (operate operation (get_or lanes 0 0) (get_or others 0 0)
    ∷ operate operation (get_or lanes 1 0) (get_or others 1 0)
    ∷ operate operation (get_or lanes 2 0) (get_or others 2 0)
    ∷ operate operation (get_or lanes 3 0) (get_or others 3 0)
    ∷ [])
    ≡ operate_lanes operation (take k lanes) others
worked operation k lanes others e =
    ap (take k) (four_lanes operation (get_or lanes 0 0) (get_or lanes 1 0) (get_or lanes 2 0) (get_or lanes 3 0) others)
    ∙ first_lanes operation k (get_or lanes 0 0 ∷ get_or lanes 1 0 ∷ get_or lanes 2 0 ∷ get_or lanes 3 0 ∷ []) others
    ∙ ap (λ (lanes : List ℕ). operate_lanes operation (take k lanes) others) (spelled_whole 4 lanes 0 e)

-- four cells in a row
pub row_fetched_lem : (lengths variables cells : List ℕ) (a i : ℕ)
    → row_fetched (cell_at lengths a i) cells ≡ map (fetch_place lengths (lent variables cells)) (row 4 a i)
row_fetched_lem lengths variables cells a i =
    let start = sum (take a lengths) in
    let e₀ : start + i + 0 ≡ start + i = omega arith in
    let e₁ : start + i + 1 ≡ start + (i + 1) = omega arith in
    let e₂ : start + i + 2 ≡ start + (i + 1 + 1) = omega arith in
    let e₃ : start + i + 3 ≡ start + (i + 1 + 1 + 1) = omega arith in
    cc

-- k cells in a row take the lanes: cells alone change
pub row_stored_lem : (lengths variables : List ℕ) (k a i : ℕ) (lanes cells : List ℕ)
    → store_lanes lengths (row k a i) lanes (lent variables cells) ≡ lent variables (row_stored k (cell_at lengths a i) lanes cells)
unfolding row_stored
row_stored_lem lengths variables zero a i lanes cells = refl
row_stored_lem lengths variables (suc k) a i [] cells = refl
row_stored_lem lengths variables (suc k) a i (lane ∷ lanes) cells =
    let e : sum (take a lengths) + (i + 1) ≡ sum (take a lengths) + i + 1 = omega arith in
    row_stored_lem lengths variables k a (i + 1) lanes (set cells (cell_at lengths a i) lane)
    ∙ ap (λ (at : ℕ). lent variables (row_stored k at lanes (set cells (cell_at lengths a i) lane))) e

-- the same, one lane after the other
pub one_lane : (k at j : ℕ) (lanes cells : List ℕ) → j < min k (length lanes)
    → row_stored (k - j) (at + j) (drop j lanes) cells ≡ row_stored (k - (j + 1)) (at + (j + 1)) (drop (j + 1) lanes) (set cells (at + j) (get_or lanes j 0))
unfolding row_stored
one_lane k at j lanes cells below =
    let inside : j < length lanes = omega arith in
    let e : at + (j + 1) ≡ at + j + 1 = omega arith in
    rw (more k j (omega arith), drop-cons lanes j 0 inside, e, add-one)

ended : (k at : ℕ) (lanes cells : List ℕ) → min k (length lanes) ≡ 0 → row_stored k at lanes cells ≡ cells
unfolding row_stored
ended zero at lanes cells e = refl
ended (suc k) at [] cells e = refl
ended (suc k) at (lane ∷ lanes) cells e = absurd (omega arith)

pub no_lane : (k at j : ℕ) (lanes cells : List ℕ) → min k (length lanes) ≤ j → row_stored (k - j) (at + j) (drop j lanes) cells ≡ cells
no_lane k at j lanes cells above = ended (k - j) (at + j) (drop j lanes) cells (omega (arith, lib.ListN.length-drop j lanes))
