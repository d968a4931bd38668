-- What the tests of a list answer: 8 where it does not read, else 9 where it is not allowed, else it is done. A list that passes them is allowed.
use mathlib.Core.Path.{◌≡◌, refl, ap}
use mathlib.Core.Bool.{Bool, true, false, true≢false, false≢true}
use mathlib.Core.Option.{Option, none, some}
use mathlib.Core.List.{List, []}
use Prim.Native.Nat.{ℕ}
use Rattle.meaning.specs.Block.{Block}
use Rattle.meaning.specs.Numbers.{Answer, refused, done, demand, and_then}
use Rattle.meaning.specs.List.{Instruction, read_list, allowed}
use Rattle.meaning.specs.Calls.{list_of}
use Rattle.lists.specs.Whole.{is_some, allowed_of, list_checked}

abbrev is_done : {A : Type 0} → Answer A → Bool
is_done (refused number) = false
is_done (done a) = true

module _ (b : Block) where
  checked : Option (List Instruction) → Answer (Unit {0})
  checked read = and_then (list_of read) λ list. demand (allowed b [] list) 9 (done tt)

  unread_by : (read : Option (List Instruction)) → is_some read ≡ false → refused 8 ≡ checked read
  unfolding checked
  unread_by none e = refl
  unread_by (some list) e = absurd (true≢false e)

  forbidden_by : (read : Option (List Instruction)) → is_some read ≡ true → allowed_of b [] read ≡ false → refused 9 ≡ checked read
  unfolding checked
  forbidden_by none e f = absurd (false≢true e)
  forbidden_by (some list) e f = rw f

  passed_by : (read : Option (List Instruction)) → allowed_of b [] read ≡ true → done tt ≡ checked read
  unfolding checked
  passed_by none f = absurd (false≢true f)
  passed_by (some list) f = rw f

  demanded : (test : Bool) → ◌≡◌ {A = Answer (Unit {0})} (done tt) (demand test 9 (done tt)) → test ≡ true
  demanded true e = refl
  demanded false e = absurd (true≢false (ap is_done e))

  allowed_by : (read : Option (List Instruction)) → done tt ≡ checked read → allowed_of b [] read ≡ true
  unfolding checked
  allowed_by none e = absurd (true≢false (ap is_done e))
  allowed_by (some list) e = demanded (allowed b [] list) e

module _ (b : Block) (bytes : List ℕ) where
  pub unread : is_some (read_list bytes) ≡ false → refused 8 ≡ list_checked b bytes
  unfolding checked list_checked
  unread e = unread_by b (read_list bytes) e

  pub forbidden : is_some (read_list bytes) ≡ true → allowed_of b [] (read_list bytes) ≡ false → refused 9 ≡ list_checked b bytes
  unfolding checked list_checked
  forbidden e f = forbidden_by b (read_list bytes) e f

  pub passed : allowed_of b [] (read_list bytes) ≡ true → done tt ≡ list_checked b bytes
  unfolding checked list_checked
  passed f = passed_by b (read_list bytes) f

  pub checked_allowed : done tt ≡ list_checked b bytes → allowed_of b [] (read_list bytes) ≡ true
  unfolding checked list_checked
  checked_allowed e = allowed_by b (read_list bytes) e
