-- A part of a list that is overwritten by as many elements: they are stored from where the part begins.
use mathlib.Core.Path.{◌≡◌, refl, sym, ap, ◌∙◌}
use mathlib.Core.List.{List, ◌++◌}
use Prim.Native.Nat.{ℕ, ◌+◌, ◌-◌, ◌≤◌}
use native.Mathlib.Omega.{arith}
use borrow.Rule.Slice.PartMut.{put_mid}
use lib.ListN.{length, take, drop}
use lib.Seq.{sets, sets-eq, take_all}
use Rattle.std.proofs.lemmas.Slice.{put_mid-paste}

pub part_stored :
    {A : Type 0} (room new : List A) (at end : ℕ) {part : List A}
    → part ≡ new
    → end ≡ at + length new
    → at + length new ≤ length room
    → put_mid at (end - at) room part ≡ sets room at new
part_stored {A} room new at end {part} same ends fits =
    put_mid-paste at (end - at) room part new (length new) same (omega arith) refl
    ∙ ap (λ (s : List A). take at room ++ s ++ drop (at + length new) room) (take_all (length new) new (omega arith))
    ∙ sym (sets-eq new room at fits)
