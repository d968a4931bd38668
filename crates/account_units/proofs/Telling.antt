-- Lines that a loop puts one behind the other, and a section that says of itself that it has none.
use mathlib.Core.Path.{◌≡◌, refl, sym, ap, ◌∙◌}
use mathlib.Core.Bool.{Bool, true, false}
use mathlib.Core.List.{List, [], ◌∷◌, ◌++◌, append-nil}
use Prim.Native.Nat.{ℕ, ◌+◌, ◌-◌, ◌≤◌, ◌<◌}
use native.Mathlib.Nat.{sub-zero}
use native.Mathlib.Omega.{arith}
use lib.Dec.{eqb}
use lib.ListN.{length}
use borrow.Author.Tests.{eqb-true, eq-eqb}
use Rattle.basics.specs.Choice.{pick}
use Rattle.basics.proofs.Counting.{more, none_left}
use Rattle.text.specs.Puts.{behind_text, Puts}
use Rattle.text.proofs.Putting.{Putting, start, next, finish, behind_none, sets_past, reads_as, both}
use Rattle.text.specs.Text.{no_line}
use Rattle.account_units.specs.Lines.{each_from, or_none, section}

-- what is said at number i and behind it, and when no number is left
each_more : (said : ℕ → List ℕ) (n i : ℕ) → i < n → each_from (n - i) i said ≡ said i ++ each_from (n - (i + 1)) (i + 1) said
unfolding each_from
each_more said n i h = rw (more n i h)

each_none : (said : ℕ → List ℕ) (n i : ℕ) → n ≤ i → each_from (n - i) i said ≡ []
unfolding each_from
each_none said n i h = rw (none_left n i h)

-- a loop that has still to say what is said from number i on
abbrev pub Telling : (ℕ → List ℕ) → ℕ → List ℕ → ℕ → List ℕ → ℕ → ℕ → Type 0
Telling said n before at out behind i = Putting (λ k. each_from (n - k) k said) n before at out behind i

module _ (said : ℕ → List ℕ) {n : ℕ} {before : List ℕ} {at : ℕ} where
  pub tell : Telling said n before at before at 0
  tell = start (λ k. each_from (n - k) k said)

  module _ {out : List ℕ} {behind i : ℕ} (told : Telling said n before at out behind i) where
    pub tell_next : {out' : List ℕ} {behind' : ℕ} → i < n → Puts (said i) out behind out' behind' → Telling said n before at out' behind' (i + 1)
    tell_next h puts = next (λ k. each_from (n - k) k said) told h (each_more said n i h) puts

    pub tell_finish : n ≤ i → Puts (each_from n 0 said) before at out behind
    tell_finish h =
        reads_as (finish (λ k. each_from (n - k) k said) told (each_none said n i h)) (ap (λ (k : ℕ). each_from k 0 said) (sub-zero n))

-- in a buffer that has no room, whatever is put is as much as any other text
full_puts : {text text' before after : List ℕ} {at behind : ℕ} → length before ≤ at → Puts text before at after behind → Puts text' before at after behind
unfolding behind_text
full_puts {text} {text'} {before} {at = at} full puts =
    record {
      stored = puts.stored ∙ sets_past before at text full ∙ sym (sets_past before at text' full);
      moved = puts.moved ∙ omega arith;
    }

-- a text of one byte or more that ended where it began had no room
no_room_lem : (room at size : ℕ) → 0 < size → behind_text room at size ≡ at → room ≤ at
unfolding behind_text
no_room_lem room at size some e = omega arith

-- Lines, and behind them the line that says that there is none, where they ended where they began.
none_put :
    (lines : List ℕ) {before middle after : List ℕ} {at between behind : ℕ}
    → Puts lines before at middle between
    → Puts (pick (eqb between at) no_line []) middle between after behind
    → Puts (or_none lines) before at after behind
none_put [] {before} {at = at} {between = between} one two =
    reads_as (both one two) (ap (λ (test : Bool). pick test no_line []) (eq-eqb between at (one.moved ∙ behind_none (length before) at)))
none_put (byte ∷ bytes) {before} {middle} {after} {at} {between} {behind} one two = by (eqb between at) refl
  where
    by : (test : Bool) → eqb between at ≡ test → Puts (byte ∷ bytes) before at after behind
    by true e =
        full_puts (no_room_lem (length before) at (length (byte ∷ bytes)) (omega arith) (sym one.moved ∙ eqb-true between at e)) (both one two)
    by false e = reads_as (both one two) (ap (λ (test : Bool). (byte ∷ bytes) ++ pick test no_line []) e ∙ append-nil (byte ∷ bytes))

-- A section: the heading, the lines, and that there is none.
pub section_put :
    {heading lines before middle middle' after : List ℕ} {at first between behind : ℕ}
    → Puts heading before at middle first
    → Puts lines middle first middle' between
    → Puts (pick (eqb between first) no_line []) middle' between after behind
    → Puts (section heading lines) before at after behind
section_put {lines = lines} top told none = both top (none_put lines told none)
