-- The lines of statements, one after the other: what a loop at statement i has still to put.
use mathlib.Core.Path.{◌≡◌, refl, ap, ◌∙◌}
use mathlib.Core.List.{List, [], ◌∷◌, ◌++◌}
use Prim.Native.Nat.{ℕ, ◌+◌, ◌≤◌, ◌<◌}
use native.Mathlib.Numerals.{add-one}
use lib.ListN.{length, get_or, drop, drop_of_length-le}
use lib.Seq.{drop-cons}
use Rattle.meaning.specs.declared.Statement.{Statement}
use Rattle.meaning.specs.Block.{blank}
use Rattle.account_statements.specs.Statements.{statement_line, numbered_lines, lines_or_none}

-- of these statements, the lines from number i on
abbrev pub lines_from : List Statement → ℕ → List ℕ
lines_from ss i = numbered_lines i (drop i ss)

lines_more : (i : ℕ) (s : Statement) (ss : List Statement) → numbered_lines i (s ∷ ss) ≡ statement_line i s ++ numbered_lines (i + 1) ss
unfolding numbered_lines
lines_more i s ss = refl

lines_end : (i : ℕ) → numbered_lines i [] ≡ []
unfolding numbered_lines
lines_end i = refl

pub lines_next : (ss : List Statement) (i : ℕ) → i < length ss → lines_from ss i ≡ statement_line i (get_or ss i blank) ++ lines_from ss (i + 1)
lines_next ss i within = ap (numbered_lines i) (rw add-one (drop-cons ss i blank within)) ∙ lines_more i (get_or ss i blank) (drop (i + 1) ss)

pub lines_none : (ss : List Statement) (i : ℕ) → length ss ≤ i → lines_from ss i ≡ []
lines_none ss i past = ap (numbered_lines i) (drop_of_length-le ss past) ∙ lines_end i

-- where there is a statement, its line stands and not "none"
pub some_lines : (ss : List Statement) → (length ss ≡ 0 → ⊥) → lines_or_none ss ≡ numbered_lines 0 ss
some_lines [] some = absurd (some refl)
some_lines (s ∷ ss) some = refl
