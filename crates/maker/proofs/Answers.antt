-- What is left of the call by what reading the block answers, by the price and by the room.
use Rattle.std.specs.Prelude.{Result, Ok, Err, IsErrAnd}
use mathlib.Core.Path.{◌≡◌, refl, sym}
use Prim.Native.Nat.{ℕ, suc, ◌<◌, min}
use mathlib.Core.Bool.{true}
use mathlib.Core.List.{List, [], ◌∷◌}
use native.Mathlib.Omega.{arith}
use lib.ListN.{length, get_or, replicate, length-take, length-replicate}
use Rattle.basics.proofs.Tests.{and_both}
use borrow.Author.Tests.{lt-ltb}
use Rattle.basics.specs.Lists.{all}
use Rattle.meaning.specs.declared.Block.{Block as Slots}
use Rattle.meaning.specs.declared.Refusal.{Refusal}
use Rattle.meaning.specs.declared.Refusal.TheVariants.{Version, Length, Limits, Form, Undeclared, Sizes, Room, List as NoList, Rules}
use Rattle.meaning.specs.Refusals.{number_of, needed_of}
use Rattle.meaning.specs.Numbers.{refused, done}
use Rattle.meaning.specs.Block.{Block, declared}
use Rattle.meaning.specs.Format.{read_block}
use Rattle.meaning.specs.Calls.{list_made, make_list_call}
use Rattle.theorems.proofs.Bytes.{is_byte}
use Rattle.theorems.proofs.Readable.{refused_number, done_readable, done_fits}
use Rattle.choice.specs.Promises.{Legal}
use Rattle.maker.specs.declared.List.{List as Listed}
use Rattle.maker.specs.Promises.{answer, returned}

-- no block is refused with 7, so no length stands beside its number
no_length : (bytes : List ℕ) (came : Refusal) → refused (number_of came) ≡ read_block bytes → needed_of came ≡ 0
no_length bytes Version read = refl
no_length bytes Length read = refl
no_length bytes Limits read = refl
no_length bytes Form read = refl
no_length bytes Undeclared read = refl
no_length bytes Sizes read = refl
no_length bytes (Room needed) read = absurd (omega (arith, refused_number bytes 7 (sym read)))
no_length bytes NoList read = refl
no_length bytes Rules read = refl

-- a refusal of the block ends the call
pub stopped : (bytes room : List ℕ) (out : Result Listed Refusal) (came : Refusal) → IsErrAnd out (λ refusal. refusal ≡ came)
    → refused (number_of came) ≡ read_block bytes → answer (returned out) room ≡ make_list_call bytes room
unfolding make_list_call
stopped bytes room (Ok list) came same read = absurd same
stopped bytes room (Err refusal) came same read = rw (same, no_length bytes came read, ← read)

-- a block that is read goes on
pub went_on : (bytes room : List ℕ) (b : Block) → done b ≡ read_block bytes → list_made room (done b) ≡ make_list_call bytes room
unfolding make_list_call
went_on bytes room b read = rw (← read)

-- a block that is read is legal
pub read_legal : (bytes : List ℕ) (b : Block) → all is_byte bytes ≡ true → done b ≡ read_block bytes → Legal b
read_legal bytes b are read = record { readable = done_readable bytes b (sym read); constants = done_fits bytes b are (sym read) }

-- as many statements as the slots hold of those that are counted
pub declared_count : (block : Slots) (n : ℕ) → n ≡ min block.count 64 → length block.statements ≡ 64 → n ≡ length (declared block).statements
declared_count block n e slots = omega (arith, length-take block.count block.statements)

-- the buffer holds every list
pub buffer_long : length (replicate {A = ℕ} 4096 0) ≡ 4096
buffer_long = length-replicate {A = ℕ} 4096 0

-- what is lent as bytes are bytes
pub are_bytes : (bytes : List ℕ) → ((i : ℕ) → get_or bytes i 0 < 256) → all is_byte bytes ≡ true
are_bytes [] known = refl
are_bytes (byte ∷ bytes) known = and_both (is_byte byte) (all is_byte bytes) (lt-ltb byte 256 (known 0)) (are_bytes bytes (λ i. known (suc i)))
