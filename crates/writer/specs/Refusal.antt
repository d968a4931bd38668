-- The number that a block is refused with before any room is asked for, and 0 for one that is not: the order of the tests as the code has
-- it. proofs/Refused.antt ties it to `write_block`.
use Rattle.std.specs.Prelude.{ℕ, ◌&&◌, Result, Ok, Err}
use Rattle.basics.specs.Choice.{pick}
use Rattle.basics.specs.Lists.{all}
use Rattle.meaning.specs.declared.Block.{Block as Slots}
use Rattle.meaning.specs.Block.{declared, declares_statement}
use Rattle.meaning.specs.declared.Refusal.{Refusal}
use Rattle.meaning.specs.Refusals.{number_of}
use Rattle.meaning.specs.Format.{counts_fit, length_fits, well_formed}

unfoldable pub refusal_of : Slots → ℕ
refusal_of b =
    pick (counts_fit b.variables b.live b.arrays b.count && all length_fits (declared b).lengths)
    (pick (all well_formed (declared b).statements)
    (pick (all (declares_statement b.variables (declared b).lengths) (declared b).statements) 0 5)
    4)
    3

-- the number in what the tests return, and 0 where all are passed
abbrev pub number_in : {A : Type 0} → Result A Refusal → ℕ
number_in (Ok a) = 0
number_in (Err refusal) = number_of refusal
