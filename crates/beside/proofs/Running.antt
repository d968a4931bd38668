-- When the list beside a block is run: where it was made, and nowhere else; and the answers of the three calls, put together.
use mathlib.Core.Path.{◌≡◌, sym, ap, ap₂, ◌∙◌}
use mathlib.Core.Bool.{Bool}
use mathlib.Core.List.{List}
use Prim.Native.Nat.{ℕ, min}
use lib.ListN.{length, get_or, take}
use borrow.Author.Tests.{eq-eqb, ne_eqb}
use Rattle.basics.proofs.Lists.{take_least}
use Rattle.meaning.specs.Machine.{Contents}
use Rattle.meaning.specs.Calls.{ListMade, make_list_call, Ran, run_block_call, run_list_call}
use Rattle.beside.specs.Beside.{list_run, compared, both_alike, beside, side_by_side}

module _ (bytes : List ℕ) (status : ℕ) (list : List ℕ) (m : Contents) where
  pub is_run : status ≡ 0 → list_run bytes status list m ≡ run_list_call bytes list m
  unfolding list_run
  is_run e = rw (eq-eqb status 0 e)

  pub not_run : (status ≡ 0 → ⊥) → record { status = status; price = 0; contents = m } ≡ list_run bytes status list m
  unfolding list_run
  not_run e = rw (ne_eqb status 0 e)

-- what is run is what making the list left in the room
pub made_run : (bytes : List ℕ) (status size end : ℕ) (room : List ℕ) (m : Contents) (out : Ran) → status ≡ 0 → end ≡ min size (length room)
    → out ≡ run_list_call bytes (take end room) m → out ≡ list_run bytes status (take size room) m
made_run bytes status size end room m out done is e =
    e ∙ ap (λ (list : List ℕ). run_list_call bytes list m) (ap (λ (k : ℕ). take k room) is ∙ take_least size room) ∙ sym (is_run bytes status (take size room) m done)

pub together : (bytes room : List ℕ) (m n : Contents) (made : ListMade) (block list : Ran) (same : Bool)
    → made ≡ make_list_call bytes room → block ≡ run_block_call bytes m
    → list ≡ list_run bytes made.status (take made.size made.room) n → same ≡ both_alike (get_or bytes 4 0) block list
    → compared same made block list ≡ side_by_side bytes room m n
unfolding side_by_side
together bytes room m n made block list same made-is block-is list-is same_is =
    let live = get_or bytes 4 0 in
    ap (λ (test : Bool). compared test made block list) same_is
    ∙ ap (beside live made block) list-is
    ∙ ap₂ (λ (x : ListMade) (y : Ran). beside live x y (list_run bytes x.status (take x.size x.room) n)) made-is block-is
