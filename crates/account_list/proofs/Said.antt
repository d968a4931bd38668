-- An instruction as it was read is said as the instruction that it means, with the statement that S names.
use mathlib.Core.Path.{◌≡◌, refl, sym, ap, ap₂, ◌∙◌}
use mathlib.Core.Option.{none, some}
use mathlib.Core.List.{List, ◌++◌, append-nil}
use Prim.Native.Nat.{ℕ, min}
use Rattle.basics.proofs.Lists.{take_least}
use lib.ListN.{length, take}
use Rattle.meaning.specs.declared.Statement.{Statement}
use Rattle.meaning.specs.Block.{statement}
use Rattle.meaning.specs.List.{instruction_price}
use Rattle.instructions.specs.declared.Instruction.{Instruction}
use Rattle.instructions.specs.declared.Instruction.TheVariants.{S, L, C, G, Copy, O, W, D, X}
use Rattle.instructions.specs.Meant.{meant}
use Rattle.rules.specs.Price.{price_of}
use Rattle.rules.proofs.Slots.{slots_price}
use Rattle.text.specs.Text.{words, decimal, spelled}
use Rattle.named.specs.Names.{operand_text, operation_text}
use Rattle.account_list.specs.Instructions.{register_text, instruction_text, priced_line}
use Rattle.account_list.specs.Shown.{number_of, shown, line_meant}
use Rattle.account_list.proofs.Slots.{slots_spaced}

text_said : (ss : List Statement) (i : Instruction) → shown i (statement ss (number_of i)) ≡ instruction_text ss (meant i)
unfolding shown instruction_text operation_text
text_said ss (S number) = refl
text_said ss (L r k a i) = refl
text_said ss (C r k c₀ c₁ c₂ c₃) = ap (λ (t : List ℕ). words "C " ++ register_text r ++ words " =" ++ t) (slots_spaced decimal k c₀ c₁ c₂ c₃)
text_said ss (G r k o₀ o₁ o₂ o₃) = ap (λ (t : List ℕ). words "G " ++ register_text r ++ words " =" ++ t) (slots_spaced operand_text k o₀ o₁ o₂ o₃)
text_said ss (Copy r k ra) = rw (append-nil, append-nil)
text_said ss (O r operation k ra rb) = refl
text_said ss (W r k a i) = refl
text_said ss (D r lane a i) = refl
text_said ss (X r lane v) = refl

price_said : (ss : List Statement) (i : Instruction) → price_of i (statement ss (number_of i)) ≡ instruction_price ss (meant i)
price_said ss (S number) = refl
price_said ss (L r k a i) = refl
price_said ss (C r k c₀ c₁ c₂ c₃) = refl
price_said ss (G r k o₀ o₁ o₂ o₃) = slots_price k o₀ o₁ o₂ o₃
price_said ss (Copy r k ra) = refl
price_said ss (O r operation k ra rb) = refl
price_said ss (W r k a i) = refl
price_said ss (D r lane a i) = refl
price_said ss (X r lane v) = refl

pub line_said :
    (ss : List Statement) (i : Instruction) (s : Statement)
    → s ≡ statement ss (number_of i)
    → priced_line (shown i s) (price_of i s) ≡ line_meant ss (some (meant i))
line_said ss i s named = ap₂ priced_line (ap (shown i) named ∙ text_said ss i) (ap (price_of i) named ∙ price_said ss i)

-- a record at fault, which costs nothing
pub broken_said : (ss : List Statement) → words "  broken (price 0)\n" ≡ line_meant ss none
unfolding spelled priced_line
broken_said ss = refl

-- the declared statements, of 64 slots
pub declared_slots : (slots : List Statement) (count : ℕ) → length slots ≡ 64 → take (min count 64) slots ≡ take count slots
declared_slots slots count sized = ap (λ (n : ℕ). take (min count n) slots) (sym sized) ∙ take_least count slots
