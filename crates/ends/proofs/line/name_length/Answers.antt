-- `line::name_length` meets its contract: the letters, and the digits of each number.
use mathlib.Core.Path.{◌≡◌, sym, ap, ap₂, ◌∙◌}
use Prim.Native.Nat.{ℕ, ◌+◌}
use native.Mathlib.Omega.{arith}
use lib.ListN.{length}
use Rattle.text.specs.Text.{decimal}
use Rattle.ends.proofs.Naming.{named_variable, named_cell}
use Rattle.ends.proofs.line.name_length.Goals as goal

-- as many digits as the number has that was widened
spelled_by : {n m d : ℕ} → d ≡ length (decimal n) → n ≡ m → d ≡ length (decimal m)
spelled_by many same = many ∙ ap (λ (n : ℕ). length (decimal n)) same

pub overflow_add-result : goal.overflow_add-result
overflow_add-result c = omega (arith, c.digits.ensures.1)

pub overflow_add-result-in-Cell : goal.overflow_add-result-in-Cell
overflow_add-result-in-Cell c = omega (arith, c.digits-in-Cell.ensures.1)

pub overflow_add-result-in-Cell-2 : goal.overflow_add-result-in-Cell-2
overflow_add-result-in-Cell-2 c = omega (arith, c.digits-in-Cell.ensures.1, c.digits-in-Cell-2.ensures.1)

pub returns-in-Variable : goal.returns-in-Variable
returns-in-Variable c =
    ap (λ (n : ℕ). 1 + n) (spelled_by c.digits.ensures.0 c.from.ensures) ∙ sym (named_variable _ _ c.in-Variable.is)

pub returns-in-Cell : goal.returns-in-Cell
returns-in-Cell c =
    ap₂ (λ (m n : ℕ). 3 + m + n) (spelled_by c.digits-in-Cell.ensures.0 c.from-in-Cell.ensures) (spelled_by c.digits-in-Cell-2.ensures.0 c.from-in-Cell-2.ensures)
    ∙ sym (named_cell _ _ _ c.in-Cell.is)
