-- A walk that asks whether some member of a set passes a test.
use mathlib.Core.Path.{◌≡◌, sym, ◌∙◌}
use mathlib.Core.Bool.{Bool, false, ◌||◌, or-false, or_assoc}
use mathlib.Core.List.{List, [], ◌∷◌}
use Prim.Native.Nat.{ℕ}
use Rattle.std.specs.List.{fold, list_any}
use Rattle.rows.specs.Walk.{walk, members}
use Rattle.rows.proofs.Walks.{walk_fold}

-- found already, or among these
fold_any : (test : ℕ → Bool) (found : Bool) (xs : List ℕ) → fold (λ f a. f || test a) found xs ≡ found || list_any test xs
fold_any test found [] = sym (or-false found)
fold_any test found (x ∷ xs) = fold_any test (found || test x) xs ∙ or_assoc found (test x) (list_any test xs)

pub walk_any : (test : ℕ → Bool) (s : ℕ) → walk 64 s (λ a found. found || test a) false ≡ list_any test (members s)
walk_any test s = walk_fold s (λ a found. found || test a) false ∙ fold_any test false (members s)
