-- One turn of each loop over lanes, along a chain and over words; and what is said of one unit, by the tests that the code makes.
use mathlib.Core.Path.{◌≡◌, refl, sym, ap, ◌∙◌}
use mathlib.Core.Bool.{Bool, true, false}
use mathlib.Core.Logic.{◌⊎◌, inl, inr}
use mathlib.Core.List.{List, [], ◌∷◌, ◌++◌}
use Prim.Native.Nat.{ℕ, zero, suc, ◌+◌, ◌-◌, ◌≤◌, ◌<◌, min}
use native.Mathlib.Nat.{sub-zero}
use native.Mathlib.Omega.{arith}
use lib.Dec.{eqb}
use lib.ListN.{length, get_or, drop}
use lib.Seq.{drop-drop}
use borrow.Author.Tests.{eq-eqb, ne_eqb}
use Rattle.std.specs.Bool.{MatchBool}
use Rattle.basics.proofs.Tests.{below_or_not}
use Rattle.basics.proofs.Counting.{more, none_left}
use Rattle.basics.proofs.Remaining.{still, none_within}
use Rattle.text.specs.Puts.{Puts}
use Rattle.text.proofs.Putting.{Putting, start, next, finish}
use Rattle.units.specs.declared.Unit.{Unit as Lanes}
use Rattle.account_units.specs.Lines.{number_text, numbers_text}
use Rattle.account_units.specs.InTables.{chain_in, unit_numbers, among_from}

-- numbers of which those in front of number i are put
abbrev pub Numbering : List ℕ → ℕ → List ℕ → ℕ → List ℕ → ℕ → ℕ → Type 0
Numbering ns most before at out behind i = Putting (λ k. numbers_text (drop k ns)) most before at out behind i

-- lanes of a unit
pub lanes_more : (unit : Lanes) (i : ℕ) → i < unit.count → i < length unit.lanes
    → numbers_text (drop i (unit_numbers unit)) ≡ number_text (get_or unit.lanes i 0) ++ numbers_text (drop (i + 1) (unit_numbers unit))
lanes_more unit i low within = ap numbers_text (still unit.lanes unit.count i 0 low within)

pub lanes_none : (unit : Lanes) (i : ℕ) → min unit.count (length unit.lanes) ≤ i → numbers_text (drop i (unit_numbers unit)) ≡ []
lanes_none unit i past = ap numbers_text (none_within unit.lanes unit.count i past)

-- a chain: one statement more, the last one, and the last one that the count allows
chain_more : (k : ℕ) (table : List ℕ) (s t : ℕ) → t ≡ get_or table s 64 → (t ≡ 64 → ⊥) → chain_in (suc k) table s ≡ s ∷ chain_in k table t
unfolding chain_in
chain_more k table s t e some = rw (ne_eqb (get_or table s 64) 64 (λ none. some (e ∙ none)), e, chain_in)

chain_end : (k : ℕ) (table : List ℕ) (s t : ℕ) → t ≡ get_or table s 64 → t ≡ 64 → chain_in (suc k) table s ≡ s ∷ []
unfolding chain_in
chain_end k table s t e none = rw (← e, eq-eqb t 64 none, chain_in)

chain_last : (table : List ℕ) (s : ℕ) → chain_in 0 table s ≡ s ∷ []
unfolding chain_in
chain_last table s = refl

drop_behind : (l : List ℕ) (i x : ℕ) (rest : List ℕ) → drop i l ≡ x ∷ rest → drop (i + 1) l ≡ rest
drop_behind l i x rest e = sym (drop-drop 1 i l) ∙ ap (drop 1) e

-- along a chain: what is put of it, and what is left of it
pub record Along (count : ℕ) (table : List ℕ) (s : ℕ) (before : List ℕ) (at : ℕ) (out : List ℕ) (behind here i : ℕ) : Type 0 where
  pub low : i ≤ count
  pub put : Numbering (chain_in count table s) (suc count) before at out behind i
  pub rest : drop i (chain_in count table s) ≡ chain_in (count - i) table here

module _ (count : ℕ) (table : List ℕ) (s : ℕ) {before : List ℕ} {at : ℕ} where
  pub along_start : Along count table s before at before at s 0
  along_start =
      record {
        low = omega arith;
        put = start (λ k. numbers_text (drop k (chain_in count table s)));
        rest = ap (λ (k : ℕ). chain_in k table s) (sym (sub-zero count));
      }

  module _ {out : List ℕ} {behind here i : ℕ} (w : Along count table s before at out behind here i) {out' : List ℕ} {behind' : ℕ}
      (puts : Puts (number_text here) out behind out' behind') where
    pub along_next : (t : ℕ) → i < count → t ≡ get_or table here 64 → (t ≡ 64 → ⊥) → Along count table s before at out' behind' t (i + 1)
    along_next t h e some =
        let left : drop i (chain_in count table s) ≡ here ∷ chain_in (count - (i + 1)) table t =
        w.rest ∙ ap (λ (k : ℕ). chain_in k table here) (more count i h) ∙ chain_more (count - (i + 1)) table here t e some in
        let behind-this = drop_behind (chain_in count table s) i here (chain_in (count - (i + 1)) table t) left in
        record {
          low = omega arith;
          put =
              next (λ k. numbers_text (drop k (chain_in count table s))) w.put (omega arith)
              (ap numbers_text left ∙ ap (λ (ns : List ℕ). number_text here ++ numbers_text ns) (sym behind-this)) puts;
          rest = behind-this;
        }

    ended : chain_in (count - i) table here ≡ here ∷ [] → Puts (numbers_text (chain_in count table s)) before at out' behind'
    ended last =
        let left : drop i (chain_in count table s) ≡ here ∷ [] = w.rest ∙ last in
        let none-behind = drop_behind (chain_in count table s) i here [] left in
        finish (λ k. numbers_text (drop k (chain_in count table s)))
        (next (λ k. numbers_text (drop k (chain_in count table s))) w.put (omega (arith, w.low))
        (ap numbers_text left ∙ ap (λ (ns : List ℕ). number_text here ++ numbers_text ns) (sym none-behind)) puts)
        (ap numbers_text none-behind)

    pub along_ends : (t : ℕ) → i < count → t ≡ get_or table here 64 → t ≡ 64 → Puts (numbers_text (chain_in count table s)) before at out' behind'
    along_ends t h e none = ended (ap (λ (k : ℕ). chain_in k table here) (more count i h) ∙ chain_end (count - (i + 1)) table here t e none)

    pub along_full : count ≤ i → Puts (numbers_text (chain_in count table s)) before at out' behind'
    along_full h = ended (ap (λ (k : ℕ). chain_in k table here) (none_left count i h) ∙ chain_last table here)

-- a word is among those from number i on where it is at one of these numbers
module _ (scheduled : List ℕ) (word : ℕ) where
  here_or_behind :
      (n i k : ℕ) → get_or scheduled k 0 ≡ word → (i < k) ⊎ (k ≤ i) → i ≤ k → (i < k → among_from n (i + 1) scheduled word ≡ true)
      → among_from (suc n) i scheduled word ≡ true
  unfolding among_from
  here_or_behind n i k e (inl further) low behind = or_behind (eqb (get_or scheduled i 0) word) (among_from n (i + 1) scheduled word) (behind further)
    where
      or_behind : (test more : Bool) → more ≡ true → elim test [ true ↦ true | false ↦ more ] ≡ true
      or_behind true more rest = refl
      or_behind false more rest = rest
  here_or_behind n i k e (inr here) low behind =
      let same : i ≡ k = omega arith in
      rw (eq-eqb (get_or scheduled i 0) word (ap (λ (j : ℕ). get_or scheduled j 0) same ∙ e), among_from)

  among_there : (n i k : ℕ) → i ≤ k → k < i + n → get_or scheduled k 0 ≡ word → among_from n i scheduled word ≡ true
  among_there zero i k low high e = absurd (omega arith)
  among_there (suc n) i k low high e =
      here_or_behind n i k e (below_or_not i k) low (λ further. among_there n (i + 1) k (omega (arith, further)) (omega arith) e)

  among_not : (n i : ℕ) → ((k : ℕ) → k < i + n → get_or scheduled k 0 ≡ word → ⊥) → among_from n i scheduled word ≡ false
  unfolding among_from
  among_not zero i absent = refl
  among_not (suc n) i absent =
      rw (ne_eqb (get_or scheduled i 0) word (absent i (omega arith)), among_from) (among_not n (i + 1) (λ k h. absent k (omega arith)))

  pub among_found :
      (n : ℕ) (found : Bool)
      → MatchBool found ((k : ℕ) × (k < n) × (get_or scheduled k 0 ≡ word)) ((k : ℕ) → k < n → get_or scheduled k 0 ≡ word → ⊥)
      → found ≡ among_from n 0 scheduled word
  among_found n true there = sym (among_there n 0 there.0 (omega arith) (omega (arith, there.1)) there.2)
  among_found n false absent = sym (among_not n 0 (λ k h. absent k (omega arith)))
