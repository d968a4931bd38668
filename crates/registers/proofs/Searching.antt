-- The search for a register that serves, number by number: it ends at the first that does, goes on behind one that does not, and finds none behind the last.
use mathlib.Core.Path.{◌≡◌, ap, ◌∙◌}
use mathlib.Core.Bool.{Bool, true, false, ◌&&◌, and-true, and_comm}
use mathlib.Core.List.{List, [], ◌∷◌}
use Prim.Native.Nat.{ℕ, ◌+◌, ◌-◌, ◌≤◌, ◌<◌}
use native.Mathlib.Omega.{arith}
use lib.Dec.{eqb}
use lib.ListN.{length, get_or}
use lib.Pointwise.{pointwise}
use Rattle.std.specs.Prelude.{Some, None}
use Rattle.basics.proofs.Counting.{more, none_left}
use Rattle.registers.specs.declared.Tuple.{Tuple}
use Rattle.registers.specs.declared.Register.{Register}
use Rattle.registers.specs.Table.{holds_tuple, serves_at, holder_from}

-- "exactly this tuple": lane by lane and their count
four_same : (xs ys : List ℕ) → length xs ≡ 4 → length ys ≡ 4
    → pointwise eqb xs ys
    ≡ eqb (get_or xs 0 0) (get_or ys 0 0) && (eqb (get_or xs 1 0) (get_or ys 1 0) && (eqb (get_or xs 2 0) (get_or ys 2 0) && eqb (get_or xs 3 0) (get_or ys 3 0)))
four_same (a ∷ b ∷ c ∷ d ∷ []) (e ∷ f ∷ g ∷ h ∷ []) four fours =
    ap (λ (last : Bool). eqb a e && (eqb b f && (eqb c g && last))) (and-true (eqb d h))
four_same xs ys four fours = absurd (omega arith)

pub same_by_lanes : (register : Register) (tuple : Tuple) → length register.tuple.lanes ≡ 4 → length tuple.lanes ≡ 4
    → pointwise eqb register.tuple.lanes tuple.lanes && eqb register.tuple.count tuple.count ≡ holds_tuple register tuple
same_by_lanes register tuple four fours =
    and_comm (pointwise eqb register.tuple.lanes tuple.lanes) (eqb register.tuple.count tuple.count)
    ∙ ap (λ (lanes : Bool). eqb register.tuple.count tuple.count && lanes) (four_same register.tuple.lanes tuple.lanes four fours)

-- what is left of the search at one register
module _ (n r : ℕ) (registers : List ℕ) (done : ℕ) (tuple : Tuple) where
  pub found_here : r < n → serves_at registers r tuple done ≡ true → holder_from (n - r) r registers done tuple ≡ Some r
  unfolding holder_from
  found_here h e = rw (more n r h, e, holder_from)

  pub found_behind :
      r < n → serves_at registers r tuple done ≡ false
      → holder_from (n - r) r registers done tuple ≡ holder_from (n - (r + 1)) (r + 1) registers done tuple
  unfolding holder_from
  found_behind h e = rw (more n r h, e, holder_from)

  pub found_nowhere : n ≤ r → holder_from (n - r) r registers done tuple ≡ None
  unfolding holder_from
  found_nowhere h = rw (none_left n r h, holder_from)
