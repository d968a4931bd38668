-- Last definitions: each stands before its reader and writes a variable; and the columns of definitions have them, at each position.
use mathlib.Core.Path.{◌≡◌, refl}
use mathlib.Core.Bool.{true}
use mathlib.Core.Option.{Option, none, some}
use mathlib.Core.List.{List}
use Prim.Native.Nat.{ℕ, ◌+◌, ◌≤◌, ◌<◌}
use native.Mathlib.Omega.{arith}
use lib.ListN.{length}
use Rattle.basics.specs.Choice.{pick}
use Rattle.basics.proofs.Counting.{count_up}
use Rattle.basics.proofs.Parts.{pick_holds}
use Rattle.meaning.specs.declared.Place.{Place}
use Rattle.meaning.specs.declared.Place.TheVariants.{Variable, Cell}
use Rattle.meaning.specs.declared.Operand.{Operand}
use Rattle.meaning.specs.declared.Operand.TheVariants.{Nothing, Constant, Held}
use Rattle.meaning.specs.declared.Statement.{Statement}
use Rattle.meaning.specs.Block.{statement, same, is_variable, Position, left, right, operand}
use Rattle.meaning.specs.Estimate.{last_writer, definition}
use Rattle.codes.specs.Codes.{operand_code}
use Rattle.facts.specs.Facts.{fact_at}
use Rattle.facts.specs.Tied.{Stated}
use Rattle.reach.specs.Tied.{number_of, Defined}

-- none, or a statement below i that writes a variable
abbrev pub Defines : List Statement → ℕ → Option ℕ → Type 0
Defines ss i none = Unit
Defines ss i (some s) = (s < i) × (is_variable (statement ss s).destination ≡ true)

pub defines_below : (ss : List Statement) (i j : ℕ) (found : Option ℕ) → i ≤ j → Defines ss i found → Defines ss j found
defines_below ss i j none h known = tt
defines_below ss i j (some s) h known = (omega (arith, known.0), known.1)

same_variable : (p : Place) (v : ℕ) → same p (Variable v) ≡ true → is_variable p ≡ true
same_variable (Variable w) v e = refl
same_variable (Cell a i) v e = e

last_writer_lem : (ss : List Statement) (reader v : ℕ) → Defines ss reader (last_writer ss reader (Variable v))
unfolding last_writer
last_writer_lem ss reader v =
    count_up (Defines ss) (λ s found. pick (same (statement ss s).destination (Variable v)) (some s) found) reader none tt
    λ s found below known.
    pick_holds (Defines ss (s + 1)) (same (statement ss s).destination (Variable v)) (some s) found
    (λ e. (omega arith, same_variable (statement ss s).destination v e))
    (λ e. defines_below ss s (s + 1) found (omega arith) known)

pub definition_defines : (ss : List Statement) (reader : ℕ) (o : Operand) → Defines ss reader (definition ss reader o)
definition_defines ss reader Nothing = tt
definition_defines ss reader (Constant c) = tt
definition_defines ss reader (Held (Variable v)) = last_writer_lem ss reader v
definition_defines ss reader (Held (Cell a i)) = tt

-- the columns of operands and of their definitions
abbrev pub operands_column : Position → ℕ
operands_column left = 64
operands_column right = 128

abbrev pub definitions_column : Position → ℕ
definitions_column left = 320
definitions_column right = 384

-- the last definition of a statement's operand
abbrev pub definition_at : List Statement → Position → ℕ → Option ℕ
definition_at ss position s = definition ss s (operand position (statement ss s))

module _ (ss : List Statement) (facts : List ℕ) where
  pub operands_at : Stated ss facts → (position : Position) (s : ℕ) → s < length ss
      → fact_at facts (operands_column position) s ≡ operand_code (operand position (statement ss s))
  operands_at stated left s below = stated.lefts s below
  operands_at stated right s below = stated.rights s below

  pub definitions_at : Defined ss facts → (position : Position) (s : ℕ) → s < length ss
      → fact_at facts (definitions_column position) s ≡ number_of (definition_at ss position s)
  definitions_at defined left s below = defined.lefts s below
  definitions_at defined right s below = defined.rights s below
