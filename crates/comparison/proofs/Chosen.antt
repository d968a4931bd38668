-- Which text the tests of the code choose.
use mathlib.Core.Path.{◌≡◌, sym}
use mathlib.Core.List.{◌++◌, append-nil}
use Prim.Native.Nat.{ℕ}
use borrow.Author.Tests.{eq-eqb, ne_eqb}
use Rattle.answers.specs.Sentences.{refusal}
use Rattle.comparison.specs.Compared.{usage, refusal_text}

module _ (number given : ℕ) where
  pub with_usage : given ≡ 0 → refusal number ++ usage ≡ refusal_text number given
  unfolding refusal_text
  with_usage none = rw (eq-eqb given 0 none)

  pub refusal_alone : (given ≡ 0 → ⊥) → refusal number ≡ refusal_text number given
  unfolding refusal_text
  refusal_alone some = rw (ne_eqb given 0 some) (sym (append-nil (refusal number)))
