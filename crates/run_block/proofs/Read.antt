-- What is left of the call by what reading the block answers: a refusal ends it, and a block that is read goes on.
use Rattle.std.specs.Prelude.{Result, Ok, Err, IsErrAnd}
use mathlib.Core.Path.{◌≡◌}
use Prim.Native.Nat.{ℕ}
use mathlib.Core.List.{List}
use Rattle.meaning.specs.declared.Refusal.{Refusal}
use Rattle.meaning.specs.Refusals.{number_of}
use Rattle.meaning.specs.Numbers.{refused, done}
use Rattle.meaning.specs.Block.{Block}
use Rattle.meaning.specs.Format.{read_block}
use Rattle.meaning.specs.Machine.{Contents}
use Rattle.meaning.specs.Calls.{run_block_call}
use Rattle.run_block.specs.Answers.{answer, returned, after_reading}

pub stopped : (bytes : List ℕ) (m : Contents) (out : Result ℕ Refusal) (came : Refusal) → IsErrAnd out (λ refusal. refusal ≡ came)
    → refused (number_of came) ≡ read_block bytes → answer (returned out) m ≡ run_block_call bytes m
unfolding run_block_call
stopped bytes m (Ok price) came same read = absurd same
stopped bytes m (Err refusal) came same read = rw (same, ← read)

pub went_on : (bytes : List ℕ) (m : Contents) (b : Block) → done b ≡ read_block bytes → after_reading b m ≡ run_block_call bytes m
unfolding run_block_call after_reading
went_on bytes m b read = rw (← read)
