-- "Numbers returned": what is done, or refused with its number. A refusal of an earlier test comes before all later ones.
use Rattle.std.specs.Prelude.{ℕ, Bool, true, false}

pub data Answer (A : Type 0) : Type 0 where
  refused : ℕ → Answer A
  done : A → Answer A

-- the number where the test fails, else what follows
abbrev pub demand : {A : Type 0} → Bool → ℕ → Answer A → Answer A
demand true number following = following
demand false number following = refused number

-- a refusal stays; what is done is handed on
abbrev pub and_then : {A B : Type 0} → Answer A → (A → Answer B) → Answer B
and_then (refused number) next = refused number
and_then (done a) next = next a

-- what is done, seen through a function; a refusal stays
abbrev pub map_answer : {A B : Type 0} → (A → B) → Answer A → Answer B
map_answer f (refused number) = refused number
map_answer f (done a) = done (f a)
