-- The library's word for a test that every element passes is the document's.
use mathlib.Core.Path.{◌≡◌, refl, ap}
use mathlib.Core.Bool.{Bool, ◌&&◌}
use mathlib.Core.List.{List, [], ◌∷◌}
use Rattle.std.specs.List.{list_all}
use Rattle.basics.specs.Lists.{all}

pub same_all : {A : Type 0} (test : A → Bool) (xs : List A) → list_all test xs ≡ all test xs
same_all test [] = refl
same_all test (x ∷ xs) = ap (λ (rest : Bool). test x && rest) (same_all test xs)
