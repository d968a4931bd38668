-- The call along its tests: what it answers where the block is refused, where the sizes do not fit (6), where the list is refused (8, 9), and
-- where it is run.
use Rattle.std.specs.Prelude.{Result, Ok, Err, IsErrAnd}
use mathlib.Core.Path.{◌≡◌, ap, subst, ◌∙◌}
use mathlib.Core.Logic.{⊎_elim}
use mathlib.Core.Bool.{Bool, true, false, false≢true}
use mathlib.Core.Option.{Option, none, some}
use mathlib.Core.List.{List, []}
use Prim.Native.Nat.{ℕ}
use native.Mathlib.Nat.{zero-add}
use lib.ListN.{drop}
use Rattle.basics.proofs.Tests.{passes_or_fails}
use Rattle.meaning.specs.declared.Refusal.{Refusal}
use Rattle.meaning.specs.Refusals.{number_of}
use Rattle.meaning.specs.Numbers.{Answer, refused, done, demand, and_then}
use Rattle.meaning.specs.Block.{Block}
use Rattle.meaning.specs.Format.{read_block}
use Rattle.meaning.specs.Machine.{Contents, right_size}
use Rattle.meaning.specs.List.{Instruction, field, list_price, read_records, read_list, allowed}
use Rattle.meaning.specs.Card.{run_list}
use Rattle.meaning.specs.Calls.{ran, list_of, run_list_call}
use Rattle.lists.specs.Whole.{header_fits, allowed_of, list_checked}
use Rattle.lists.proofs.Header.{header_read, header_broken}
use Rattle.lists.proofs.Checked.{checked_allowed}
use Rattle.run_block.specs.Answers.{answer, returned}
use Rattle.run_list.specs.Runs.{card_of, paid, left, answered}

-- what stops the call is what it returns, and nothing lent is written
stopped_by : (m : Contents) (out : Result ℕ Refusal) (came : Refusal) → IsErrAnd out (λ refusal. refusal ≡ came)
    → answer (returned out) m ≡ answered (number_of came) 0 m
stopped_by m (Ok price) came same = absurd same
stopped_by m (Err refusal) came same = ap (λ (r : Refusal). answered (number_of r) 0 m) same

-- the block is refused
pub block_stopped : (block_bytes bytes : List ℕ) (m : Contents) (out : Result ℕ Refusal) (came : Refusal) → IsErrAnd out (λ refusal. refusal ≡ came)
    → refused (number_of came) ≡ read_block block_bytes → answer (returned out) m ≡ run_list_call block_bytes bytes m
unfolding run_list_call
block_stopped block_bytes bytes m out came same read = stopped_by m out came same ∙ rw (← read)

-- what follows the block's reading and its sizes
listed : Block → List ℕ → Contents → Answer (ℕ × Contents)
listed b bytes m =
    and_then (list_of (read_list bytes)) λ list. demand (allowed b [] list) 9 (done (list_price b.statements list, run_list b list m))

abbrev number_in : {A : Type 0} → Answer A → ℕ
number_in (refused number) = number
number_in (done a) = 0

abbrev is_done : {A : Type 0} → Answer A → Bool
is_done (refused number) = false
is_done (done a) = true

-- a list that is not refused is allowed, and its records are those that its count byte says
module _ (b : Block) (bytes : List ℕ) (passed : done tt ≡ list_checked b bytes) where
  list_records : read_list bytes ≡ read_records (field 3 bytes) (drop 4 bytes)
  list_records =
      ⊎_elim
      (λ (fits : header_fits bytes ≡ true). header_read bytes fits)
      (λ (broken : header_fits bytes ≡ false).
      absurd (false≢true (subst (λ (x : Option (List Instruction)). allowed_of b [] x ≡ true) (header_broken bytes broken) (checked_allowed b bytes passed))))
      (passes_or_fails (header_fits bytes))

  pub records_allowed : (count : ℕ) → count ≡ field 3 bytes → allowed_of b [] (read_records count (drop 4 bytes)) ≡ true
  records_allowed count c = rw (c, ← list_records) (checked_allowed b bytes passed)

module _ (block_bytes bytes : List ℕ) (m : Contents) (b : Block) (reads : done b ≡ read_block block_bytes) where
  -- 6
  pub wrong_sizes : right_size b m ≡ false → answered 6 0 m ≡ run_list_call block_bytes bytes m
  unfolding run_list_call
  wrong_sizes e = rw (← reads, e)

  sized_here : right_size b m ≡ true → ran m (listed b bytes m) ≡ run_list_call block_bytes bytes m
  unfolding run_list_call listed
  sized_here e = rw (← reads, e)

  -- 8 and 9
  demanded : (test : Bool) (number : ℕ) (after : ℕ × Contents) → ◌≡◌ {A = Answer (Unit {0})} (refused number) (demand test 9 (done tt))
      → answered number 0 m ≡ ran m (demand test 9 (done after))
  demanded true number after e = absurd (false≢true (ap is_done e))
  demanded false number after e = ap (λ (k : ℕ). answered k 0 m) (ap number_in e)

  refused_by : (x : Option (List Instruction)) (number : ℕ)
      → ◌≡◌ {A = Answer (Unit {0})} (refused number) (and_then (list_of x) λ list. demand (allowed b [] list) 9 (done tt))
      → answered number 0 m ≡ ran m (and_then (list_of x) λ list. demand (allowed b [] list) 9 (done (list_price b.statements list, run_list b list m)))
  refused_by none number e = ap (λ (k : ℕ). answered k 0 m) (ap number_in e)
  refused_by (some list) number e = demanded (allowed b [] list) number (list_price b.statements list, run_list b list m) e

  list_refused : right_size b m ≡ true → (number : ℕ) → refused number ≡ list_checked b bytes → answered number 0 m ≡ run_list_call block_bytes bytes m
  unfolding listed list_checked
  list_refused fits number e = refused_by (read_list bytes) number e ∙ sized_here fits

  pub list_stopped : right_size b m ≡ true → (out : Result ℕ Refusal) (came : Refusal) → IsErrAnd out (λ refusal. refusal ≡ came)
      → refused (number_of came) ≡ list_checked b bytes → answer (returned out) m ≡ run_list_call block_bytes bytes m
  list_stopped fits out came same e = stopped_by m out came same ∙ list_refused fits (number_of came) e

  -- 0
  ran_by : (x : Option (List Instruction)) → allowed_of b [] x ≡ true
      → answered 0 (paid b 0 x) (left b (card_of [] 0 m) x)
      ≡ ran m (and_then (list_of x) λ list. demand (allowed b [] list) 9 (done (list_price b.statements list, run_list b list m)))
  unfolding run_list
  ran_by none e = absurd (false≢true e)
  ran_by (some list) e = rw (e, zero-add)

  pub list_ran : right_size b m ≡ true → done tt ≡ list_checked b bytes → (count price : ℕ) (after : Contents) → count ≡ field 3 bytes
      → price ≡ paid b 0 (read_records count (drop 4 bytes)) → after ≡ left b (card_of [] 0 m) (read_records count (drop 4 bytes))
      → answered 0 price after ≡ run_list_call block_bytes bytes m
  unfolding listed
  list_ran fits passed count price after c p a =
      rw (p, a, c, ← list_records b bytes passed) (ran_by (read_list bytes) (checked_allowed b bytes passed) ∙ sized_here fits)
