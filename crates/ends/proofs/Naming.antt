-- The parts of a line: how long a name is, and which end a line has.
use mathlib.Core.Path.{◌≡◌, ap, ◌∙◌}
use mathlib.Core.List.{◌++◌}
use Prim.Native.Nat.{ℕ, ◌+◌}
use native.Mathlib.Omega.{arith}
use borrow.Author.Tests.{eq-eqb, ne_eqb}
use lib.ListN.{length, length-append}
use Rattle.meaning.specs.declared.Place.{Place}
use Rattle.meaning.specs.declared.Place.TheVariants.{Variable, Cell}
use Rattle.text.specs.Text.{words, decimal}
use Rattle.named.specs.Names.{place_text}
use Rattle.ends.specs.Line.{line_end, line}

variable_length : (v : ℕ) → length (place_text (Variable v)) ≡ 1 + length (decimal v)
unfolding place_text
variable_length v = omega (arith, length-append (words "V") (decimal v))

cell_length : (a i : ℕ) → length (place_text (Cell a i)) ≡ 3 + length (decimal a) + length (decimal i)
unfolding place_text
cell_length a i =
    omega (
      arith,
      length-append (words "A" ++ decimal a ++ words "[" ++ decimal i) (words "]"),
      length-append (words "A" ++ decimal a ++ words "[") (decimal i),
      length-append (words "A" ++ decimal a) (words "["),
      length-append (words "A") (decimal a),
    )

-- of the place that a match has found
pub named_variable : (p : Place) (v : ℕ) → p ≡ Variable v → length (place_text p) ≡ 1 + length (decimal v)
named_variable p v e = ap (λ (q : Place). length (place_text q)) e ∙ variable_length v

pub named_cell : (p : Place) (a i : ℕ) → p ≡ Cell a i → length (place_text p) ≡ 3 + length (decimal a) + length (decimal i)
named_cell p a i e = ap (λ (q : Place). length (place_text q)) e ∙ cell_length a i

-- no mark where both ends are the same, and a mark where they are not
module _ (block list : ℕ) where
  pub same_end : block ≡ list → words "\n" ≡ line_end block list
  unfolding line_end
  same_end e = rw (eq-eqb block list e)

  pub other_end : (block ≡ list → ⊥) → words "  *\n" ≡ line_end block list
  unfolding line_end
  other_end e = rw (ne_eqb block list e)

pub same_line : (p : Place) {s s' b b' l l' : ℕ} → s ≡ s' → b ≡ b' → l ≡ l' → line p s b l ≡ line p s' b' l'
same_line p {s} {s'} {b} {b'} {l} {l'} starts blocks lists =
    ap (λ (n : ℕ). line p n b l) starts ∙ ap (λ (n : ℕ). line p s' n l) blocks ∙ ap (λ (n : ℕ). line p s' b' n) lists
