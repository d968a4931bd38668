-- "Dependence": which statements depend on which, the paths of dependences, and independence.
use Rattle.std.specs.Prelude.{ℕ, ◌≡◌, Bool, true, ◌&&◌, ◌||◌, not, List, [], ◌∷◌, ◌++◌, eqb, ltb, length, get_or}
use Rattle.basics.specs.Choice.{pick}
use Rattle.basics.specs.Counting.{count}
use Rattle.basics.specs.Sets.{nobody, only, join, has}
use Rattle.meaning.specs.declared.Statement.{Statement}
use Rattle.meaning.specs.Block.{statement, same, reads}

-- "A later statement depends on an earlier one if it reads what that one writes, writes what that one reads, or writes the same place."
abbrev pub conflicts : Statement → Statement → Bool
conflicts later earlier =
    reads later earlier.destination || reads earlier later.destination || same later.destination earlier.destination

-- the same by number, for two statements of the block
abbrev pub depends_on : List Statement → ℕ → ℕ → Bool
depends_on ss later earlier = ltb earlier later && ltb later (length ss) && conflicts (statement ss later) (statement ss earlier)

-- a path of dependences, from a later statement to an earlier one, and on
pub data Path (ss : List Statement) : ℕ → ℕ → Type 0 where
  direct : {later earlier : ℕ} → depends_on ss later earlier ≡ true → Path ss later earlier
  through : {later between earlier : ℕ} → depends_on ss later between ≡ true → Path ss between earlier → Path ss later earlier

-- The same as rows, one for each statement: all that paths lead to from it. What it depends on, and all that each of those reaches.
abbrev pub reached_by : List Statement → List ℕ → ℕ → ℕ
reached_by ss rows later =
    count later 0
    (λ earlier row. pick (depends_on ss later earlier) (join row (join (only earlier) (get_or rows earlier nobody))) row)
    nobody

unfoldable pub reachability : List Statement → List ℕ
reachability ss = count (length ss) 0 (λ later rows. rows ++ reached_by ss rows later ∷ []) []

abbrev pub reaches : List Statement → ℕ → ℕ → Bool
reaches ss later earlier = has (get_or (reachability ss) later nobody) earlier

-- "Two different statements are independent if no path of dependences joins them."
unfoldable pub independent : List Statement → ℕ → ℕ → Bool
independent ss s t =
    ltb s (length ss) && ltb t (length ss) && not (eqb s t) && not (reaches ss s t) && not (reaches ss t s)
