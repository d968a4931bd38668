-- What the tables of a block say of its statements. The phases rest on this, and not on how the tables are filled.
use Rattle.std.specs.Prelude.{◌≡◌, ℕ, ◌+◌, ◌*◌, ◌<◌, ◌≤◌, Bool, ◌&&◌, List, eqb, ltb, length}
use Rattle.basics.specs.Sets.{has}
use Rattle.meaning.specs.declared.Statement.{Statement}
use Rattle.meaning.specs.Block.{statement, cell_place, statement_price}
use Rattle.codes.specs.Codes.{place_code, operand_code}
use Rattle.facts.specs.Facts.{fact_at}
use Rattle.facts.specs.Places.{naming}

-- the columns that a statement fills by itself
pub record Stated (ss : List Statement) (facts : List ℕ) : Type 0 where
  pub destinations : (s : ℕ) → s < length ss → fact_at facts 0 s ≡ place_code (statement ss s).destination
  pub lefts : (s : ℕ) → s < length ss → fact_at facts 64 s ≡ operand_code (statement ss s).left
  pub rights : (s : ℕ) → s < length ss → fact_at facts 128 s ≡ operand_code (statement ss s).right
  pub sorts : (s : ℕ) → s < length ss → fact_at facts 192 s ≡ 2 * (statement ss s).operation + cell_place (statement ss s).destination
  pub prices : (s : ℕ) → s < length ss → fact_at facts 256 s ≡ statement_price (statement ss s)
  -- no statement, no facts
  pub beyond : (column s : ℕ) → column < 8 → length ss ≤ s → fact_at facts (64 * column) s ≡ 0

-- what a place may have as its code: neither nothing nor a constant
abbrev pub is_place_code : ℕ → Bool
is_place_code code = ltb 0 code && ltb code 2570

-- the statements that name a place, in the column that has these codes
abbrev pub Names : List Statement → (Statement → ℕ) → List ℕ → List ℕ → Type 0
Names ss code_of numbers named =
    (code i : ℕ) → has (naming numbers named code) i ≡ ltb i (length ss) && (eqb (code_of (statement ss i)) code && is_place_code code)

pub record Named (ss : List Statement) (numbers writers lefts rights : List ℕ) : Type 0 where
  pub writing : Names ss (λ s. place_code s.destination) numbers writers
  pub reading_left : Names ss (λ s. operand_code s.left) numbers lefts
  pub reading_right : Names ss (λ s. operand_code s.right) numbers rights
