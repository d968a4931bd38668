-- "Extension": from admitted pairs to the pairs that define what they read, and to the pairs that read what they define.
use Rattle.std.specs.Prelude.{ℕ, zero, suc, ◌+◌, Bool, true, false, ◌&&◌, ◌||◌, List, eqb, ltb, length, get_or}
use Rattle.std.proofs.Math.Option.{Option, none, some}
use Rattle.basics.specs.Choice.{pick}
use Rattle.basics.specs.Counting.{count}
use Rattle.meaning.specs.declared.Statement.{Statement}
use Rattle.meaning.specs.Block.{statement, is_variable, Position, left, right, operand}
use Rattle.meaning.specs.Pairs.{Pair, pair, may_be_admitted, admit}
use Rattle.meaning.specs.Estimate.{definition, definitions, pays, estimate}

-- "admit them if they may be and the estimate is 0 or more"
abbrev pub admit_if_pays : List Statement → Pair → List Pair → List Pair
admit_if_pays ss p pairs = pick (may_be_admitted ss pairs p && pays ss pairs p) (admit pairs p) pairs

-- "where both operands are variables and each has a definition in the block before its reader, take the last such definitions"
abbrev pub admit_definitions : List Statement → Option Pair → List Pair → List Pair
admit_definitions ss none pairs = pairs
admit_definitions ss (some p) pairs = admit_if_pays ss p pairs

unfoldable pub use_to_definition : List Statement → Pair → Position → List Pair → List Pair
use_to_definition ss p position pairs = admit_definitions ss (definitions ss position p) pairs

-- a reader of s's result: "the reader's last definition is that statement"
abbrev pub is_this : ℕ → Option ℕ → Bool
is_this s none = false
is_this s (some t) = eqb s t

abbrev pub reads_result : List Statement → ℕ → ℕ → Bool
reads_result ss s t =
    is_this s (definition ss t (operand left (statement ss t))) || is_this s (definition ss t (operand right (statement ss t)))

-- the better of the best so far and a new pair: "the first with the greatest estimate"
abbrev pub is_better : List Statement → List Pair → Pair → Option Pair → Bool
is_better ss pairs p none = true
is_better ss pairs p (some best) = ltb (estimate ss pairs best) (estimate ss pairs p)

abbrev pub better : List Statement → List Pair → Pair → Option Pair → Option Pair
better ss pairs p best = pick (may_be_admitted ss pairs p && pays ss pairs p && is_better ss pairs p best) (some p) best

-- "among all t reading s's result and t' reading its partner's result (..), t then t' ascending, take the first with the greatest estimate among
-- those that may be admitted, if it is 0 or more"
abbrev pub best_with : List Statement → List Pair → ℕ → ℕ → Option Pair → Option Pair
best_with ss pairs partner t best =
    count (length ss) 0
    (λ t' found. elim (reads_result ss partner t') [ true ↦ better ss pairs (pair t t') found | false ↦ found ])
    best

unfoldable pub best_readers : List Statement → List Pair → Pair → Option Pair
best_readers ss pairs p =
    count (length ss) 0
    (λ t found. elim (reads_result ss p.left t) [ true ↦ best_with ss pairs p.right t found | false ↦ found ])
    none

abbrev pub admit_best : Option Pair → List Pair → List Pair
admit_best none pairs = pairs
admit_best (some p) pairs = admit pairs p

-- "where both destinations are variables"
abbrev pub both_variables : List Statement → Pair → Bool
both_variables ss p = is_variable (statement ss p.left).destination && is_variable (statement ss p.right).destination

unfoldable pub definition_to_use : List Statement → Pair → List Pair → List Pair
definition_to_use ss p pairs = elim (both_variables ss p) [ true ↦ admit_best (best_readers ss pairs p) pairs | false ↦ pairs ]

-- "First use to definition, left position then right. .. Then definition to use." Each sees what the earlier ones admitted.
abbrev pub visit : List Statement → Pair → List Pair → List Pair
visit ss p pairs = definition_to_use ss p (use_to_definition ss p right (use_to_definition ss p left pairs))

-- "Each pair is visited once, in order of admission, added pairs at the end."
unfoldable pub visit_from : ℕ → List Statement → ℕ → List Pair → List Pair
visit_from zero ss i pairs = pairs
visit_from (suc n) ss i pairs =
    elim (ltb i (length pairs)) [
      | true ↦ visit_from n ss (i + 1) (visit ss (get_or pairs i (pair 0 0)) pairs)
      | false ↦ pairs
    ]

-- no statement is left in two pairs, so there are at most as many visits as statements
unfoldable pub extend : List Statement → List Pair → List Pair
extend ss pairs = visit_from (length ss) ss 0 pairs
