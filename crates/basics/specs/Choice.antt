-- The choice by a test, where both answers are cheap to compute. (A recursion chooses by `elim`, whose cases wait.)
use Rattle.std.specs.Prelude.{Bool, true, false}

abbrev pub pick {ℓ} : {A : Type ℓ} → Bool → A → A → A
pick true a b = a
pick false a b = b
