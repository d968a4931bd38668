-- The numbers of a table, stored one part behind the other: three for a place or an operand, ten for a statement, 652 for a block.
use mathlib.Core.Path.{◌≡◌, refl, sym, ap, ◌∙◌}
use mathlib.Core.List.{List, [], ◌∷◌, ◌++◌, map}
use Prim.Native.Nat.{ℕ, ◌+◌, ◌*◌, ◌≤◌}
use native.Mathlib.Omega.{arith}
use lib.ListN.{length, set, drop, length-append}
use lib.Seq.{sets}
use Rattle.basics.specs.Lists.{flat}
use Rattle.basics.proofs.Stores.{sets_append, sets_front}
use Rattle.meaning.specs.declared.Place.{Place}
use Rattle.meaning.specs.declared.Place.TheVariants.{Variable, Cell}
use Rattle.meaning.specs.declared.Operand.{Operand}
use Rattle.meaning.specs.declared.Operand.TheVariants.{Nothing, Constant, Held}
use Rattle.meaning.specs.declared.Statement.{Statement}
use Rattle.meaning.specs.declared.Block.{Block as Slots}
use Rattle.table.specs.Table.{place_numbers, operand_numbers, statement_numbers, table_of}

pub place_three : (p : Place) → length (place_numbers p) ≡ 3
place_three (Variable v) = refl
place_three (Cell a i) = refl

pub operand_three : (o : Operand) → length (operand_numbers o) ≡ 3
operand_three Nothing = refl
operand_three (Constant c) = refl
operand_three (Held p) = place_three p

pub statement_ten : (s : Statement) → length (statement_numbers s) ≡ 10
statement_ten s =
    omega (
      arith,
      length-append (place_numbers s.destination ++ operand_numbers s.left) (operand_numbers s.right),
      length-append (place_numbers s.destination) (operand_numbers s.left),
      place_three s.destination,
      operand_three s.left,
      operand_three s.right,
    )

pub statements_ten : (ss : List Statement) → length (flat (map statement_numbers ss)) ≡ 10 * length ss
statements_ten [] = refl
statements_ten (s ∷ ss) =
    omega (arith, length-append (statement_numbers s) (flat (map statement_numbers ss)), statement_ten s, statements_ten ss)

-- a block's parts, each stored behind the one before
pub block_stored : (b : Slots) (table : List ℕ) → length b.lengths ≡ 8
    → sets (sets (set (set (set (set table 0 b.variables) 1 b.live) 2 b.arrays) 3 b.count) 4 b.lengths) 12 (flat (map statement_numbers b.statements))
    ≡ sets table 0 (table_of b)
unfolding table_of
block_stored b table eight =
    let header = set (set (set (set table 0 b.variables) 1 b.live) 2 b.arrays) 3 b.count in
    let twelve : 12 ≡ 4 + length b.lengths = omega arith in
    ap (λ (n : ℕ). sets (sets header 4 b.lengths) n (flat (map statement_numbers b.statements))) twelve
    ∙ sym (sets_append header 4 b.lengths (flat (map statement_numbers b.statements)))

pub table_length : (b : Slots) → length b.lengths ≡ 8 → length b.statements ≡ 64 → length (table_of b) ≡ 652
unfolding table_of
table_length b eight many =
    omega (arith, length-append b.lengths (flat (map statement_numbers b.statements)), statements_ten b.statements)

-- stored from the front, where they fit: the numbers behind them as they were
pub table_stored : (b : Slots) (table : List ℕ) → length b.lengths ≡ 8 → length b.statements ≡ 64 → 652 ≤ length table
    → sets table 0 (table_of b) ≡ table_of b ++ drop (length (table_of b)) table
table_stored b table eight many fits = sets_front table (table_of b) (omega (arith, table_length b eight many))
