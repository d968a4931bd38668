-- The block in memory that a table of 652 numbers says. A number that stands for nothing is 0, else the statement is broken, and the writer
-- refuses it with 4.
use Rattle.std.specs.Prelude.{ℕ, zero, suc, ◌+◌, ◌*◌, Bool, ◌&&◌, List, [], ◌∷◌, eqb, get_or}
use Rattle.basics.specs.Choice.{pick}
use Rattle.meaning.specs.declared.Place.{Place}
use Rattle.meaning.specs.declared.Place.TheVariants.{Variable, Cell}
use Rattle.meaning.specs.declared.Operand.{Operand}
use Rattle.meaning.specs.declared.Operand.TheVariants.{Nothing, Constant, Held}
use Rattle.meaning.specs.declared.Statement.{Statement}
use Rattle.meaning.specs.declared.Block.{Block as Slots}

abbrev pub number : List ℕ → ℕ → ℕ
number table at = get_or table at 0

-- three numbers say a place: kind 1 a variable, 2 a cell
abbrev pub place_said : ℕ → ℕ → Bool
place_said kind b = pick (eqb kind 1) (eqb b 0) (eqb kind 2)

abbrev pub place_in : ℕ → ℕ → ℕ → Place
place_in kind a b = pick (eqb kind 1) (Variable a) (Cell a b)

-- or an operand: kind 0 a constant, 3 nothing
abbrev pub operand_said : ℕ → ℕ → ℕ → Bool
operand_said kind a b = pick (eqb kind 0) (eqb b 0) (pick (eqb kind 3) (eqb a 0 && eqb b 0) (place_said kind b))

abbrev pub operand_in : ℕ → ℕ → ℕ → Operand
operand_in kind a b = pick (eqb kind 0) (Constant a) (pick (eqb kind 3) Nothing (Held (place_in kind a b)))

-- from a position of the table on
abbrev pub place_said_at : List ℕ → ℕ → Bool
place_said_at table at = place_said (number table at) (number table (at + 2))

abbrev pub operand_said_at : List ℕ → ℕ → Bool
operand_said_at table at = operand_said (number table at) (number table (at + 1)) (number table (at + 2))

abbrev pub statement_said_at : List ℕ → ℕ → Bool
statement_said_at table at = place_said_at table (at + 1) && operand_said_at table (at + 4) && operand_said_at table (at + 7)

-- ten numbers that say no statement: an operation that there is not
abbrev pub broken : Statement
broken = record { operation = 255; destination = Variable 0; left = Nothing; right = Nothing }

unfoldable pub statement_said : List ℕ → ℕ → Statement
statement_said table at =
    pick (statement_said_at table at)
    (record {
      operation = number table at;
      destination = place_in (number table (at + 1)) (number table (at + 1 + 1)) (number table (at + 1 + 2));
      left = operand_in (number table (at + 4)) (number table (at + 4 + 1)) (number table (at + 4 + 2));
      right = operand_in (number table (at + 7)) (number table (at + 7 + 1)) (number table (at + 7 + 2));
    })
    broken

-- so many of them, from number i on
unfoldable pub from : {A : Type 0} → (ℕ → A) → ℕ → ℕ → List A
from f zero i = []
from f (suc k) i = f i ∷ from f k (i + 1)

unfoldable pub block_said : List ℕ → Slots
block_said table =
    record {
      variables = number table 0;
      live = number table 1;
      arrays = number table 2;
      count = number table 3;
      lengths = from (λ i. number table (4 + i)) 8 0;
      statements = from (λ i. statement_said table (12 + 10 * i)) 64 0;
    }
