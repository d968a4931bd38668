-- What the number of a refusal says of `write_block`: the block is refused with it, or its bytes are the answer and its counts fit. And
-- what that says of the call.
use mathlib.Core.Path.{◌≡◌, refl, sym, ◌∙◌}
use mathlib.Core.List.{List}
use Rattle.std.specs.Prelude.{Err}
use mathlib.Core.Bool.{Bool, true, false, ◌&&◌}
use Prim.Native.Nat.{ℕ, ◌≤◌}
use native.Mathlib.Omega.{arith}
use lib.Dec.{leb}
use borrow.Author.Tests.{leb-true}
use Rattle.basics.specs.Choice.{pick}
use Rattle.basics.specs.Lists.{all}
use Rattle.basics.proofs.Tests.{and_left, and_right}
use Rattle.meaning.specs.declared.Block.{Block as Slots}
use Rattle.meaning.specs.Numbers.{Answer, refused, done, demand}
use Rattle.meaning.specs.Block.{declared, declares_statement}
use Rattle.meaning.specs.Format.{counts_fit, length_fits, well_formed, block_bytes, write_block}
use Rattle.meaning.specs.Calls.{block_written, write_block_call}
use Rattle.meaning.specs.declared.Refusal.{Refusal}
use Rattle.meaning.specs.declared.Refusal.TheVariants.{Version, Length, Limits, Form, Undeclared, Sizes, Room, List as Listed, Rules}
use Rattle.meaning.specs.Refusals.{number_of, needed_of}
use Rattle.writer.specs.Refusal.{refusal_of}
use Rattle.writer.specs.Written.{written}

-- three tests one after the other, as a number and as an answer
number : Bool → Bool → Bool → ℕ
number a b c = pick a (pick b (pick c 0 5) 4) 3

answer : {A : Type 0} → Bool → Bool → Bool → A → Answer A
answer a b c following = demand a 3 (demand b 4 (demand c 5 (done following)))

refuses : {A : Type 0} (a b c : Bool) (following : A) → (number a b c ≡ 0 → ⊥) → answer a b c following ≡ refused (number a b c)
unfolding number answer
refuses true true true following differ = absurd (differ refl)
refuses true true false following differ = refl
refuses true false c following differ = refl
refuses false b c following differ = refl

answers : {A : Type 0} (a b c : Bool) (following : A) → number a b c ≡ 0 → answer a b c following ≡ done following
unfolding number answer
answers true true true following e = refl
answers true true false following e = absurd (omega arith)
answers true false c following e = absurd (omega arith)
answers false b c following e = absurd (omega arith)

passed : (a b c : Bool) → number a b c ≡ 0 → a ≡ true
unfolding number
passed true b c e = refl
passed false b c e = absurd (omega arith)

-- the limits that counts which fit keep
pub limits : (variables live arrays statements : ℕ) → counts_fit variables live arrays statements ≡ true → (arrays ≤ 8) × (statements ≤ 64)
limits variables live arrays statements e =
    let front = leb variables 32 && leb live variables in (
      leb-true arrays 8 (and_right front (leb arrays 8) (and_left (front && leb arrays 8) (leb statements 64) e)),
      leb-true statements 64 (and_right (front && leb arrays 8) (leb statements 64) e),
    )

-- no refusal has the number of what is done
never_0 : (refusal : Refusal) → number_of refusal ≡ 0 → ⊥
never_0 Version e = omega arith
never_0 Length e = omega arith
never_0 Limits e = omega arith
never_0 Form e = omega arith
never_0 Undeclared e = omega arith
never_0 Sizes e = omega arith
never_0 (Room needed) e = omega arith
never_0 Listed e = omega arith
never_0 Rules e = omega arith

module _ (b : Slots) where
  counts : Bool
  counts = counts_fit b.variables b.live b.arrays b.count

  lengths : Bool
  lengths = all length_fits (declared b).lengths

  forms : Bool
  forms = all well_formed (declared b).statements

  names : Bool
  names = all (declares_statement b.variables (declared b).lengths) (declared b).statements

  pub refused_with : (refusal_of b ≡ 0 → ⊥) → write_block b ≡ refused (refusal_of b)
  unfolding refusal_of write_block number answer counts lengths forms names
  refused_with = refuses (counts && lengths) forms names (block_bytes (declared b))

  pub not_refused : refusal_of b ≡ 0 → write_block b ≡ done (block_bytes (declared b))
  unfolding refusal_of write_block number answer counts lengths forms names
  not_refused = answers (counts && lengths) forms names (block_bytes (declared b))

  -- the counts of a block that is not refused
  counts_pass : refusal_of b ≡ 0 → counts ≡ true
  unfolding refusal_of number counts lengths forms names
  counts_pass e = and_left counts lengths (passed (counts && lengths) forms names e)

  pub few_arrays : refusal_of b ≡ 0 → b.arrays ≤ 8
  unfolding counts
  few_arrays e = (limits b.variables b.live b.arrays b.count (counts_pass e)).0

  pub few_statements : refusal_of b ≡ 0 → b.count ≤ 64
  unfolding counts
  few_statements e = (limits b.variables b.live b.arrays b.count (counts_pass e)).1

  -- the call, where the block is refused and where it is not
  pub refused_call : (room : List ℕ) (refusal : Refusal) → number_of refusal ≡ refusal_of b → needed_of refusal ≡ 0
      → written (Err refusal) room ≡ write_block_call b room
  unfolding write_block_call
  refused_call room refusal judged none = rw (refused_with (λ e. never_0 refusal (judged ∙ e)), judged, none)

  pub done_call : (room : List ℕ) → 0 ≡ refusal_of b → block_written room (done (block_bytes (declared b))) ≡ write_block_call b room
  unfolding write_block_call
  done_call room passed = rw (not_refused (sym passed))
