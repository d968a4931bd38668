-- `put_line` meets its contract: the margin, the instruction, its price.
use mathlib.Core.Path.{ap}
use Prim.Native.Nat.{ℕ}
use Rattle.text.specs.Text.{decimal}
use Rattle.text.proofs.Putting.{both, reads_as}
use Rattle.account_list.specs.Instructions.{priced_line}
use Rattle.account_list.proofs.section.put_line.Goals as goal

pub returns : goal.returns
unfolding priced_line
returns c =
    both
    (both
    (both (both c.put_words-behind_margin.ensures c.put_instruction-behind_instruction.ensures) c.put_words-behind_word.ensures)
    (reads_as c.put_decimal-behind_price.ensures (ap (λ (n : ℕ). decimal n) c.instruction_price-price.ensures.0)))
    c.put_words.ensures
