-- The lanes of an instruction as text: the first k of four slots, and k cells in a row, one after the other.
use mathlib.Core.Path.{◌≡◌, refl, sym, ap, ◌∙◌}
use mathlib.Core.List.{List, [], ◌∷◌, ◌++◌, map, append-nil, append_assoc}
use Prim.Native.Nat.{ℕ, zero, suc, ◌+◌, ◌-◌, ◌≤◌, ◌<◌}
use native.Mathlib.Omega.{arith}
use lib.ListN.{take}
use lib.Seq.{take-nil}
use borrow.Author.Tests.{lt-leb}
use Rattle.basics.proofs.Counting.{more, none_left}
use Rattle.text.specs.Text.{words}
use Rattle.named.specs.Names.{cell_text, place_text}
use Rattle.account_list.specs.Instructions.{spaced, row_text}
use Rattle.account_list.specs.Shown.{slots_text}

-- texts behind one another, joined from the left and from the right
four_texts : (p q r s : List ℕ) → p ++ q ++ r ++ s ≡ p ++ (q ++ (r ++ (s ++ [])))
four_texts p q r s =
    append_assoc (p ++ q) r s ∙ append_assoc p q (r ++ s) ∙ ap (λ (t : List ℕ). p ++ (q ++ (r ++ t))) (sym (append-nil s))

pub slots_spaced :
    {A : Type 0} (f : A → List ℕ) (k : ℕ) (a b c d : A)
    → slots_text k (f a) (f b) (f c) (f d) ≡ spaced (map f (take k (a ∷ b ∷ c ∷ d ∷ [])))
unfolding spaced
slots_spaced f zero a b c d = refl
slots_spaced f (suc zero) a b c d = simp append-nil
slots_spaced f (suc (suc zero)) a b c d = simp append-nil
slots_spaced f (suc (suc (suc zero))) a b c d = four_texts (words " " ++ f a) (words " " ++ f b) (words " " ++ f c) []
slots_spaced f (suc (suc (suc (suc k)))) a b c d =
    rw (
      take-nil k,
      lt-leb (suc (suc (suc (suc k)))) 0 (omega arith),
      lt-leb (suc (suc (suc (suc k)))) 1 (omega arith),
      lt-leb (suc (suc (suc (suc k)))) 2 (omega arith),
      lt-leb (suc (suc (suc (suc k)))) 3 (omega arith),
    )
    (four_texts (words " " ++ f a) (words " " ++ f b) (words " " ++ f c) (words " " ++ f d))

-- what is left of a row at cell i, while there is one, and when there is none
abbrev pub row_from : ℕ → ℕ → ℕ → ℕ → List ℕ
row_from k array index i = row_text (k - i) array (index + i)

row_first : (k array index : ℕ) → row_text (suc k) array index ≡ (words " " ++ cell_text array index) ++ row_text k array (index + 1)
unfolding spaced place_text
row_first k array index = refl

no_row : (array index : ℕ) → row_text 0 array index ≡ []
unfolding spaced
no_row array index = refl

pub row_next :
    (k array index i : ℕ) → i < k
    → row_from k array index i ≡ (words " " ++ cell_text array (index + i)) ++ row_from k array index (i + 1)
row_next k array index i low =
    let behind : index + i + 1 ≡ index + (i + 1) = omega arith in
    ap (λ (n : ℕ). row_text n array (index + i)) (more k i low)
    ∙ row_first (k - (i + 1)) array (index + i)
    ∙ ap (λ (j : ℕ). (words " " ++ cell_text array (index + i)) ++ row_text (k - (i + 1)) array j) behind

pub row_none : (k array index i : ℕ) → k ≤ i → row_from k array index i ≡ []
row_none k array index i past = ap (λ (n : ℕ). row_text n array (index + i)) (none_left k i past) ∙ no_row array (index + i)

-- at cell 0 all of it is left
pub row_whole : (k array index : ℕ) → row_from k array index 0 ≡ row_text k array index
row_whole k array index =
    let all_cells : k - 0 ≡ k = omega arith in
    let first_cell : index + 0 ≡ index = omega arith in
    rw (all_cells, first_cell)
