-- A block in memory that is put into a table and taken out again is itself, where its numbers fit their slots.
use mathlib.Core.Path.{◌≡◌, refl, sym, ap, ◌∙◌}
use mathlib.Core.Bool.{true, ◌&&◌}
use mathlib.Core.List.{List, [], ◌∷◌, ◌++◌, map}
use Prim.Native.Nat.{ℕ, zero, suc, ◌+◌, ◌*◌, ◌≤◌, ◌<◌}
use native.Mathlib.Nat.{add-zero, zero-add}
use native.Mathlib.Omega.{arith}
use lib.ListN.{length, get_or, get_or-append}
use lib.Seq.{get_or-append-add}
use borrow.Author.Tests.{le-leb}
use Rattle.basics.specs.Choice.{pick}
use Rattle.basics.specs.Lists.{flat}
use Rattle.meaning.specs.declared.Place.{Place}
use Rattle.meaning.specs.declared.Place.TheVariants.{Variable, Cell}
use Rattle.meaning.specs.declared.Operand.{Operand}
use Rattle.meaning.specs.declared.Operand.TheVariants.{Nothing, Constant, Held}
use Rattle.meaning.specs.declared.Statement.{Statement}
use Rattle.meaning.specs.declared.Block.{Block as Slots}
use Rattle.meaning.specs.Block.{blank}
use Rattle.table.specs.Table.{operand_numbers, statement_numbers, table_of}
use Rattle.table.specs.Said.{place_said, operand_said, number, broken, from}
use Rattle.table.specs.Taken.{byte_of, length_of, place_of, operand_of, statement_at, length_in, statement_in, block_of}
use Rattle.table.proofs.Rows.{statement_ten}

-- numbers that fit their slots: bytes, and two bytes for a length
abbrev pub PlaceFits : Place → Type 0
PlaceFits (Variable v) = v ≤ 255
PlaceFits (Cell a i) = (a ≤ 255) × (i ≤ 255)

abbrev pub OperandFits : Operand → Type 0
OperandFits Nothing = Unit
OperandFits (Constant c) = Unit
OperandFits (Held p) = PlaceFits p

pub record StatementFits (s : Statement) : Type 0 where
  pub operation : s.operation ≤ 255
  pub destination : PlaceFits s.destination
  pub left : OperandFits s.left
  pub right : OperandFits s.right

pub record SlotsFit (b : Slots) : Type 0 where
  pub variables : b.variables ≤ 255
  pub live : b.live ≤ 255
  pub arrays : b.arrays ≤ 255
  pub count : b.count ≤ 255
  pub eight : length b.lengths ≡ 8
  pub lengths : (i : ℕ) → i < 8 → get_or b.lengths i 0 ≤ 65535
  pub many : length b.statements ≡ 64
  pub statements : (i : ℕ) → i < 64 → StatementFits (get_or b.statements i blank)

pub byte_back : (n : ℕ) → n ≤ 255 → byte_of n ≡ n
byte_back n h = rw (le-leb n 255 h)

pub length_back : (n : ℕ) → n ≤ 65535 → length_of n ≡ n
length_back n h = rw (le-leb n 65535 h)

-- the three numbers of an operand, one by one
abbrev kind : Operand → ℕ
kind Nothing = 3
kind (Constant c) = 0
kind (Held (Variable v)) = 1
kind (Held (Cell a i)) = 2

abbrev second : Operand → ℕ
second Nothing = 0
second (Constant c) = c
second (Held (Variable v)) = v
second (Held (Cell a i)) = a

abbrev third : Operand → ℕ
third Nothing = 0
third (Constant c) = 0
third (Held (Variable v)) = 0
third (Held (Cell a i)) = i

three_numbers : (o : Operand) → operand_numbers o ≡ kind o ∷ second o ∷ third o ∷ []
three_numbers Nothing = refl
three_numbers (Constant c) = refl
three_numbers (Held (Variable v)) = refl
three_numbers (Held (Cell a i)) = refl

-- they say a place or an operand, and the one from which they are
place_said_lem : (p : Place) → place_said (kind (Held p)) (third (Held p)) ≡ true
place_said_lem (Variable v) = refl
place_said_lem (Cell a i) = refl

place_back : (p : Place) → PlaceFits p → place_of (kind (Held p)) (second (Held p)) (third (Held p)) ≡ p
place_back (Variable v) h = ap Variable (byte_back v h)
place_back (Cell a i) h = rw (le-leb i 255 h.1) (ap (λ (n : ℕ). Cell n i) (byte_back a h.0))

operand_said_lem : (o : Operand) → operand_said (kind o) (second o) (third o) ≡ true
operand_said_lem Nothing = refl
operand_said_lem (Constant c) = refl
operand_said_lem (Held (Variable v)) = refl
operand_said_lem (Held (Cell a i)) = refl

operand_back : (o : Operand) → OperandFits o → operand_of (kind o) (second o) (third o) ≡ o
operand_back Nothing h = refl
operand_back (Constant c) h = refl
operand_back (Held (Variable v)) h = ap Held (place_back (Variable v) h)
operand_back (Held (Cell a i)) h = ap Held (place_back (Cell a i) h)

-- the ten numbers of a statement, one by one
abbrev row : Statement → List ℕ
row s =
    s.operation ∷ kind (Held s.destination) ∷ second (Held s.destination) ∷ third (Held s.destination)
    ∷ kind s.left ∷ second s.left ∷ third s.left
    ∷ kind s.right ∷ second s.right ∷ third s.right ∷ []

row_is : (s : Statement) → statement_numbers s ≡ row s
row_is s =
    ap (λ (d : List ℕ). s.operation ∷ d ++ operand_numbers s.left ++ operand_numbers s.right) (three_numbers (Held s.destination))
    ∙ ap
    (λ (l : List ℕ). s.operation ∷ (kind (Held s.destination) ∷ second (Held s.destination) ∷ third (Held s.destination) ∷ []) ++ l ++ operand_numbers s.right)
    (three_numbers s.left)
    ∙ ap
    (λ (r : List ℕ). s.operation ∷ (kind (Held s.destination) ∷ second (Held s.destination) ∷ third (Held s.destination) ∷ []) ++ (kind s.left ∷ second s.left ∷ third s.left ∷ []) ++ r)
    (three_numbers s.right)

abbrev built : ℕ → ℕ → ℕ → ℕ → ℕ → ℕ → ℕ → ℕ → ℕ → ℕ → Statement
built o d₀ d₁ d₂ l₀ l₁ l₂ r₀ r₁ r₂ =
    pick (place_said d₀ d₂ && operand_said l₀ l₁ l₂ && operand_said r₀ r₁ r₂)
    (record { operation = byte_of o; destination = place_of d₀ d₁ d₂; left = operand_of l₀ l₁ l₂; right = operand_of r₀ r₁ r₂ })
    broken

built_is : (table : List ℕ) (at : ℕ)
    → statement_at table at
    ≡ built (number table at) (number table (at + 1)) (number table (at + 1 + 1)) (number table (at + 1 + 2)) (number table (at + 4))
    (number table (at + 4 + 1)) (number table (at + 4 + 2)) (number table (at + 7)) (number table (at + 7 + 1)) (number table (at + 7 + 2))
unfolding statement_at
built_is table at = refl

built_back : (s : Statement) → StatementFits s
    → built s.operation (kind (Held s.destination)) (second (Held s.destination)) (third (Held s.destination)) (kind s.left) (second s.left)
    (third s.left) (kind s.right) (second s.right) (third s.right)
    ≡ s
built_back s fits =
    rw (
      place_said_lem s.destination,
      operand_said_lem s.left,
      operand_said_lem s.right,
      byte_back s.operation fits.operation,
      place_back s.destination fits.destination,
      operand_back s.left fits.left,
      operand_back s.right fits.right,
    )

statement_back : (s : Statement) (table : List ℕ) (at : ℕ) → StatementFits s
    → ((j : ℕ) → j < 10 → number table (at + j) ≡ get_or (row s) j 0)
    → statement_at table at ≡ s
statement_back s table at fits h =
    let e₀ : number table at ≡ s.operation = ap (number table) (sym (add-zero at)) ∙ h 0 (omega arith) in
    let e₁ : number table (at + 1) ≡ kind (Held s.destination) = h 1 (omega arith) in
    let e₂ : number table (at + 1 + 1) ≡ second (Held s.destination) = ap (number table) (omega arith) ∙ h 2 (omega arith) in
    let e₃ : number table (at + 1 + 2) ≡ third (Held s.destination) = ap (number table) (omega arith) ∙ h 3 (omega arith) in
    let e₄ : number table (at + 4) ≡ kind s.left = h 4 (omega arith) in
    let e₅ : number table (at + 4 + 1) ≡ second s.left = ap (number table) (omega arith) ∙ h 5 (omega arith) in
    let e₆ : number table (at + 4 + 2) ≡ third s.left = ap (number table) (omega arith) ∙ h 6 (omega arith) in
    let e₇ : number table (at + 7) ≡ kind s.right = h 7 (omega arith) in
    let e₈ : number table (at + 7 + 1) ≡ second s.right = ap (number table) (omega arith) ∙ h 8 (omega arith) in
    let e₉ : number table (at + 7 + 2) ≡ third s.right = ap (number table) (omega arith) ∙ h 9 (omega arith) in
    built_is table at ∙ rw (e₀, e₁, e₂, e₃, e₄, e₅, e₆, e₇, e₈, e₉) (built_back s fits)

-- one number of one statement's row
row_at : (ss : List Statement) (i j : ℕ) → i < length ss → j < 10
    → get_or (flat (map statement_numbers ss)) (10 * i + j) 0 ≡ get_or (row (get_or ss i blank)) j 0
row_at [] i j within low = absurd (omega arith)
row_at (s ∷ ss) zero j within low =
    let here : 10 * 0 + j ≡ j = omega arith in
    ap (λ (n : ℕ). get_or (statement_numbers s ++ flat (map statement_numbers ss)) n 0) here
    ∙ get_or-append (statement_numbers s) (flat (map statement_numbers ss)) 0 j (omega (arith, statement_ten s))
    ∙ ap (λ (ns : List ℕ). get_or ns j 0) (row_is s)
row_at (s ∷ ss) (suc i) j within low =
    let behind : 10 * suc i + j ≡ length (statement_numbers s) + (10 * i + j) = omega (arith, statement_ten s) in
    ap (λ (n : ℕ). get_or (statement_numbers s ++ flat (map statement_numbers ss)) n 0) behind
    ∙ get_or-append-add (statement_numbers s) (flat (map statement_numbers ss)) (10 * i + j) 0
    ∙ row_at ss i j (omega arith) low

-- a list, taken by its numbers
from_is : {A : Type 0} (d : A) (f : ℕ → A) (l : List A) (k i : ℕ) → length l ≡ k → ((j : ℕ) → j < k → f (i + j) ≡ get_or l j d) → from f k i ≡ l
unfolding from
from_is d f [] zero i e h = refl
from_is d f [] (suc k) i e h = absurd (omega arith)
from_is d f (x ∷ l) zero i e h = absurd (omega arith)
from_is {A} d f (x ∷ l) (suc k) i e h =
    ap (λ (y : A). y ∷ from f k (i + 1)) (ap f (sym (add-zero i)) ∙ h 0 (omega arith))
    ∙ ap {B = List A} (λ rest. x ∷ rest)
    (from_is d f l k (i + 1) (omega arith) λ j low. let next : i + 1 + j ≡ i + suc j = omega arith in ap f next ∙ h (suc j) (omega arith))

-- A table that begins with the block's 652 numbers says the block.
module _ (b : Slots) (fits : SlotsFit b) (table : List ℕ) (agrees : (i : ℕ) → i < 652 → number table i ≡ number (table_of b) i) where
  counts_at : (number (table_of b) 0 ≡ b.variables) × (number (table_of b) 1 ≡ b.live) × (number (table_of b) 2 ≡ b.arrays) × (number (table_of b) 3 ≡ b.count)
  unfolding table_of
  counts_at = (refl, refl, refl, refl)

  length_at : (i : ℕ) → i < 8 → number (table_of b) (4 + i) ≡ get_or b.lengths i 0
  unfolding table_of
  length_at i low =
      let e : 4 + i ≡ suc (suc (suc (suc i))) = omega arith in
      ap (λ (n : ℕ). get_or (b.variables ∷ b.live ∷ b.arrays ∷ b.count ∷ b.lengths ++ flat (map statement_numbers b.statements)) n 0) e
      ∙ get_or-append b.lengths (flat (map statement_numbers b.statements)) 0 i (omega (arith, fits.eight))

  behind_at : (n : ℕ) → number (table_of b) (12 + n) ≡ get_or (flat (map statement_numbers b.statements)) n 0
  unfolding table_of
  behind_at n =
      let e : 12 + n ≡ suc (suc (suc (suc (length b.lengths + n)))) = omega (arith, fits.eight) in
      ap (λ (k : ℕ). get_or (b.variables ∷ b.live ∷ b.arrays ∷ b.count ∷ b.lengths ++ flat (map statement_numbers b.statements)) k 0) e
      ∙ get_or-append-add b.lengths (flat (map statement_numbers b.statements)) n 0

  lengths_back : from (length_in table) 8 0 ≡ b.lengths
  lengths_back =
      from_is 0 (length_in table) b.lengths 8 0 fits.eight λ j low.
      ap (λ (n : ℕ). length_of (number table (4 + n))) (zero-add j)
      ∙ ap length_of (agrees (4 + j) (omega arith) ∙ length_at j low)
      ∙ length_back (get_or b.lengths j 0) (fits.lengths j low)

  statements_back : from (statement_in table) 64 0 ≡ b.statements
  statements_back =
      from_is blank (statement_in table) b.statements 64 0 fits.many λ j low.
      ap (statement_in table) (zero-add j)
      ∙ statement_back (get_or b.statements j blank) table (12 + 10 * j) (fits.statements j low) λ k small.
      let e : 12 + 10 * j + k ≡ 12 + (10 * j + k) = omega arith in
      ap (number table) e
      ∙ agrees (12 + (10 * j + k)) (omega arith)
      ∙ behind_at (10 * j + k)
      ∙ row_at b.statements j k (omega (arith, fits.many)) small

  count_back : (i n : ℕ) → i < 652 → number (table_of b) i ≡ n → n ≤ 255 → byte_of (number table i) ≡ n
  count_back i n low e small = ap byte_of (agrees i low ∙ e) ∙ byte_back n small

  pub table_back : block_of table ≡ b
  unfolding block_of
  table_back =
      rw (
        count_back 0 b.variables (omega arith) counts_at.0 fits.variables,
        count_back 1 b.live (omega arith) counts_at.1 fits.live,
        count_back 2 b.arrays (omega arith) counts_at.2 fits.arrays,
        count_back 3 b.count (omega arith) counts_at.3 fits.count,
        lengths_back,
        statements_back,
      )
