-- What is shown to a laboratory: in a room of 3,844 bytes, from equal contents, a block that runs and the list made for it end alike, and
-- the list pays the price that was reported.
use mathlib.Core.Path.{◌≡◌, sym, subst, ◌∙◌}
use mathlib.Core.Bool.{true}
use mathlib.Core.List.{List}
use Prim.Native.Nat.{ℕ, ◌≤◌, ◌<◌}
use native.Mathlib.Omega.{arith}
use lib.ListN.{length, get_or, take, length-take}
use lib.Seq.{get_or-take, ext_get_or}
use borrow.Author.Tests.{eq-eqb}
use Rattle.basics.specs.Lists.{all}
use Rattle.basics.proofs.Tests.{and_both}
use Rattle.meaning.specs.Machine.{Contents}
use Rattle.meaning.specs.Calls.{ListMade, make_list_call, Ran, run_block_call, run_list_call}
use Rattle.theorems.proofs.Bytes.{is_byte}
use Rattle.theorems.proofs.Demand.{left_in}
use Rattle.theorems.proofs.Alike.{Alike, alike, ran_made}
use Rattle.beside.specs.Same.{same_numbers, same_ends}
use Rattle.beside.specs.declared.Beside.{Beside as Returned}
use Rattle.beside.specs.Beside.{SideBySide, beside, side_by_side, answer}
use Rattle.beside.proofs.Comparison.{same_self}
use Rattle.beside.proofs.Running.{is_run}

-- the list was made, both ran and ended alike, and the list paid the price that was reported, and no more than the block
pub record Shown (shown : SideBySide) : Type 0 where
  pub list_made_lem : shown.made ≡ 0
  pub block_done : shown.block ≡ 0
  pub list_done : shown.list ≡ 0
  pub alike : shown.same ≡ true
  pub paid : shown.list_paid ≡ shown.reported
  pub at_most : shown.list_paid ≤ shown.block_paid

-- equal numbers, compared
compared : (left right : List ℕ) → left ≡ right → same_numbers left right ≡ true
compared left right e = subst (λ (other : List ℕ). same_numbers left other ≡ true) e (same_self left)

-- runs that end alike compare so
ends_alike : (live : ℕ) (made : ListMade) (list block : Ran) → Alike live made list block → same_ends live block.contents list.contents ≡ true
unfolding same_ends
ends_alike live made list block a =
    and_both _ _ (compared _ _ (sym a.same_cells))
    (compared _ _
    (ext_get_or 0 (take live block.contents.variables) (take live list.contents.variables)
    (omega (arith, a.as_many, length-take live block.contents.variables, length-take live list.contents.variables))
    λ v below.
    let low : v < live = omega (arith, length-take live block.contents.variables) in
    get_or-take live block.contents.variables v 0 low ∙ sym (a.same_live v low) ∙ sym (get_or-take live list.contents.variables v 0 low)))

shown_of : (live : ℕ) (made : ListMade) (list block : Ran) → made.status ≡ 0 → block.status ≡ 0 → Alike live made list block → Shown (beside live made block list)
shown_of live made list block made_status block-status a =
    record {
      list_made_lem = made_status;
      block_done = block-status;
      list_done = a.list_done;
      alike =
          and_both _ _ (and_both _ _ (eq-eqb block.status 0 block-status) (eq-eqb list.status 0 a.list_done)) (ends_alike live made list block a);
      paid = a.list_paid_lem;
      at_most = omega (arith, a.list_paid_lem, a.block_paid_lem, a.at_most);
    }

-- For all bytes lent, every room of 3,844 bytes or more, and all contents, lent twice, on which the block runs: that is, it reads and they
-- have its size.
pub shown : (bytes room : List ℕ) (m : Contents) → all is_byte bytes ≡ true → 3844 ≤ length room → (run_block_call bytes m).status ≡ 0
    → Shown (side_by_side bytes room m m)
unfolding side_by_side
shown bytes room m are large block-status =
    let made = make_list_call bytes room in
    let made_status : (make_list_call bytes room).status ≡ 0 = ran_made bytes room m are large block-status in
    subst (λ (list : Ran). Shown (beside (get_or bytes 4 0) made (run_block_call bytes m) list)) (sym (is_run bytes made.status (left_in made) m made_status))
    (shown_of (get_or bytes 4 0) made (run_list_call bytes (left_in made) m) (run_block_call bytes m) made_status block-status (alike bytes room m are made_status block-status))

-- So what the call returns shows it: what it promises is all that is asked of it.
pub returned_shown : (r : Returned) (bytes room after : List ℕ) (m block_left list_left : Contents)
    → answer r after block_left list_left ≡ side_by_side bytes room m m
    → all is_byte bytes ≡ true → 3844 ≤ length room → (run_block_call bytes m).status ≡ 0
    → Shown (answer r after block_left list_left)
returned_shown r bytes room after m block_left list_left promise are large block-status = subst Shown (sym promise) (shown bytes room m are large block-status)
