-- What is said number by number: the same where the same is said at each, and the lines of a list where each of its elements is.
use mathlib.Core.Path.{◌≡◌, refl, ap, ap₂, ◌∙◌}
use mathlib.Core.List.{List, [], ◌∷◌, ◌++◌, map}
use Prim.Native.Nat.{ℕ, zero, suc, ◌+◌, ◌≤◌, ◌<◌}
use native.Mathlib.Omega.{arith}
use lib.ListN.{length, get_or}
use Rattle.basics.specs.Lists.{flat}
use Rattle.account_units.specs.Lines.{each_from}

pub each_same : (said told : ℕ → List ℕ) (k i : ℕ) → ((j : ℕ) → i ≤ j → j < i + k → said j ≡ told j) → each_from k i said ≡ each_from k i told
unfolding each_from
each_same said told zero i same = refl
each_same said told (suc k) i same =
    ap₂ {C = List ℕ} (λ xs ys. xs ++ ys) (same i (omega arith) (omega arith))
    (each_same said told k (i + 1) (λ j low high. same j (omega arith) (omega arith)))

pub each_listed {ℓ} :
    {A : Type ℓ} (said : ℕ → List ℕ) (line : A → List ℕ) (d : A) (xs : List A) (i : ℕ)
    → ((j : ℕ) → j < length xs → said (i + j) ≡ line (get_or xs j d))
    → each_from (length xs) i said ≡ flat (map line xs)
unfolding each_from
each_listed said line d [] i same = refl
each_listed said line d (x ∷ xs) i same =
    ap₂ {C = List ℕ} (λ xs ys. xs ++ ys) (ap said (omega arith) ∙ same 0 (omega arith))
    (each_listed said line d xs (i + 1) (λ j h. ap said (omega arith) ∙ same (suc j) (omega arith)))
