-- Text that is put piece by piece: two pieces, one behind the other, are one text; and what a loop that puts piece after piece has still to
-- put.
use mathlib.Core.Logic.{◌⊎◌, inl, inr}
use mathlib.Core.Path.{◌≡◌, refl, sym, ap, subst, ◌∙◌}
use mathlib.Core.List.{List, [], ◌∷◌, ◌++◌}
use Prim.Native.Nat.{ℕ, suc, ◌+◌, ◌≤◌, ◌<◌}
use native.Mathlib.Numerals.{add-one}
use native.Mathlib.Omega.{arith}
use lib.ListN.{length, get_or, drop, take, length-append, drop_of_length-le}
use lib.Seq.{sets, set_out, length-sets, drop-cons, take-append_seam}
use Rattle.basics.proofs.Tests.{below_or_not}
use Rattle.basics.proofs.Stores.{sets_append, sets_front}
use Rattle.text.specs.Puts.{behind_text, Puts}

-- where a text ends: no text, a text in two parts, one that fits, one with no room at all, one that does not fit; and never past the end
pub behind_none : (room at : ℕ) → behind_text room at 0 ≡ at
unfolding behind_text
behind_none room at = omega arith

pub behind_both : (room at a b : ℕ) → behind_text room (behind_text room at a) b ≡ behind_text room at (a + b)
unfolding behind_text
behind_both room at a b = omega arith

pub behind_fits : (room at size : ℕ) → at + size ≤ room → behind_text room at size ≡ at + size
unfolding behind_text
behind_fits room at size fits = omega arith

pub behind_full : (room at size : ℕ) → room ≤ at → behind_text room at size ≡ at
unfolding behind_text
behind_full room at size full = omega arith

pub behind_past : (room at size : ℕ) → room ≤ at + size → room ≤ behind_text room at size
unfolding behind_text
behind_past room at size past = omega arith

pub behind_within : (room at size : ℕ) → at ≤ room → behind_text room at size ≤ room
unfolding behind_text
behind_within room at size inside = omega arith

-- the buffer keeps its length
pub same_length :
    {text before after : List ℕ} {at behind : ℕ} → Puts text before at after behind → length after ≡ length before
same_length {text} {before} {after} {at} puts = ap length puts.stored ∙ length-sets before at text

-- the same text, said otherwise
pub reads_as :
    {text text' before after : List ℕ} {at behind : ℕ} → Puts text before at after behind → text ≡ text' → Puts text' before at after behind
reads_as {before = before} {after = after} {at = at} {behind = behind} puts e = subst (λ (t : List ℕ). Puts t before at after behind) e puts

-- no text
pub nothing : (before : List ℕ) (at : ℕ) → Puts [] before at before at
nothing before at = record { stored = refl; moved = sym (behind_none (length before) at) }

-- past the end nothing is stored
pub sets_past : (l : List ℕ) (at : ℕ) (text : List ℕ) → length l ≤ at → sets l at text ≡ l
sets_past l at [] past = refl
sets_past l at (byte ∷ text) past =
    ap (λ (m : List ℕ). sets m (suc at) text) (set_out l at byte past) ∙ sets_past l (suc at) text (omega arith)

-- a text behind another, which may have ended early
sets_behind :
    (l : List ℕ) (at : ℕ) (text more : List ℕ)
    → sets l at (text ++ more) ≡ sets (sets l at text) (behind_text (length l) at (length text)) more
sets_behind l at text more = sets_append l at text more ∙ by (below_or_not (length l) (at + length text))
  where
    by :
        (length l < at + length text) ⊎ (at + length text ≤ length l)
        → sets (sets l at text) (at + length text) more ≡ sets (sets l at text) (behind_text (length l) at (length text)) more
    by (inr fits) = ap (λ (i : ℕ). sets (sets l at text) i more) (sym (behind_fits (length l) at (length text) fits))
    by (inl past) =
        let size : length (sets l at text) ≡ length l = length-sets l at text in
        let far : length l ≤ behind_text (length l) at (length text) = behind_past (length l) at (length text) (omega arith) in
        sets_past (sets l at text) (at + length text) more (omega arith)
        ∙ sym (sets_past (sets l at text) (behind_text (length l) at (length text)) more (omega arith))

-- one text and then another
pub both :
    {text more before middle after : List ℕ} {at between behind : ℕ}
    → Puts text before at middle between
    → Puts more middle between after behind
    → Puts (text ++ more) before at after behind
both {text} {more} {before} {middle} {after} {at} {between} {behind} one two =
    record {
      stored = two.stored ∙ rw (one.stored, one.moved) (sym (sets_behind before at text more));
      moved =
          two.moved
          ∙ rw (same_length one, one.moved, length-append text more) (behind_both (length before) at (length text) (length more));
    }

-- what is put from within the buffer ends within it
pub within :
    {text before after : List ℕ} {at behind : ℕ} → Puts text before at after behind → at ≤ length before → behind ≤ length after
within {text} {before} {at = at} puts inside =
    omega (arith, puts.moved, same_length puts, behind_within (length before) at (length text) inside)

-- put from the front, where there is room enough: the first bytes of the buffer are the text
pub front :
    {text before after : List ℕ} {behind : ℕ} → Puts text before 0 after behind → length text ≤ length before → take behind after ≡ text
front {text} {before} {after} {behind} puts fits =
    let long : behind ≡ length text = omega (arith, puts.moved, behind_fits (length before) 0 (length text) (omega arith)) in
    rw (long, puts.stored, sets_front before text fits) (take-append_seam text (drop (length text) before))

-- from a buffer and a position a loop has come to this buffer, position and turn: with what is left put behind, all is put
pub record Putting (left : ℕ → List ℕ) (most : ℕ) (before : List ℕ) (at : ℕ) (out : List ℕ) (behind i : ℕ) : Type 0 where
  pub low : i ≤ most
  pub long : length out ≡ length before
  pub place : behind_text (length before) behind (length (left i)) ≡ behind_text (length before) at (length (left 0))
  pub whole : sets out behind (left i) ≡ sets before at (left 0)

module _ (left : ℕ → List ℕ) {most : ℕ} {before : List ℕ} {at : ℕ} where
  pub start : Putting left most before at before at 0
  start = record { low = omega arith; long = refl; place = refl; whole = refl }

  module _ {out : List ℕ} {behind i : ℕ} (w : Putting left most before at out behind i) where
    pub next :
        {piece out' : List ℕ} {behind' : ℕ}
        → i < most
        → left i ≡ piece ++ left (i + 1)
        → Puts piece out behind out' behind'
        → Putting left most before at out' behind' (i + 1)
    next {piece} {out'} {behind'} more split puts =
        let size : length (left i) ≡ length piece + length (left (i + 1)) = ap length split ∙ length-append piece (left (i + 1)) in
        record {
          low = omega arith;
          long = same_length puts ∙ w.long;
          place =
              rw (puts.moved, w.long)
              (behind_both (length before) behind (length piece) (length (left (i + 1)))
              ∙ ap (behind_text (length before) behind) (sym size)
              ∙ w.place);
          whole =
              rw (puts.stored, puts.moved)
              (sym (sets_behind out behind piece (left (i + 1)))
              ∙ ap (λ (vs : List ℕ). sets out behind vs) (sym split)
              ∙ w.whole);
        }

    pub finish : left i ≡ [] → Puts (left 0) before at out behind
    finish none =
        record {
          stored = ap (λ (vs : List ℕ). sets out behind vs) (sym none) ∙ w.whole;
          moved =
              sym (behind_none (length before) behind)
              ∙ ap (λ (vs : List ℕ). behind_text (length before) behind (length vs)) (sym none)
              ∙ w.place;
        }

-- what is left of bytes at number i, while there is one, and when there is none
pub drop_next : (l : List ℕ) (i : ℕ) → i < length l → drop i l ≡ (get_or l i 0 ∷ []) ++ drop (i + 1) l
drop_next l i within = rw (add-one, drop-cons l i 0 within)

pub drop_none : (l : List ℕ) (i : ℕ) → length l ≤ i → drop i l ≡ []
drop_none l i past = drop_of_length-le l {i = i} past
