-- Which of the two lists is the answer, by their prices.
use mathlib.Core.Path.{◌≡◌, sym, ap, subst, ◌∙◌}
use Prim.Native.Nat.{ℕ, ◌≤◌, ◌<◌}
use mathlib.Core.List.{List}
use native.Mathlib.Omega.{arith}
use lib.ListN.{length}
use borrow.Author.Tests.{lt-ltb, le-ltb}
use Rattle.meaning.specs.Block.{Block, block_price}
use Rattle.meaning.specs.List.{Instruction, list_price}
use Rattle.meaning.specs.Choice.{packed_list, plain_list, chosen_list}
use Rattle.facts.specs.Tied.{Stated}
use Rattle.encode.specs.declared.Written.{Written}
use Rattle.encode.specs.Records.{Listing, listing}
use Rattle.choice.specs.Promises.{Legal, Holds}
use Rattle.choice.specs.Plain.{plain_in}
use Rattle.choice.proofs.Plain.{plain_holds}

-- "This list is the answer if its price is below the block's; else S for every statement in block order."
module _ (b : Block) where
  pub packed_chosen : (price : ℕ) → price ≡ list_price b.statements (packed_list b) → price < block_price b.statements → packed_list b ≡ chosen_list b
  unfolding chosen_list
  packed_chosen price e below = rw (lt-ltb (list_price b.statements (packed_list b)) (block_price b.statements) (omega arith))

  pub plain_chosen : (price : ℕ) → price ≡ list_price b.statements (packed_list b) → block_price b.statements ≤ price → plain_list b ≡ chosen_list b
  unfolding chosen_list
  plain_chosen price e above = rw (le-ltb (list_price b.statements (packed_list b)) (block_price b.statements) (omega arith))

  pub packed_holds : (out : List ℕ) (size price block : ℕ) → Holds b.statements (packed_list b) out size price → block ≡ block_price b.statements
      → price < block → Holds b.statements (chosen_list b) out size price
  packed_holds out size price block h e below =
      subst (λ (list : List Instruction). Holds b.statements list out size price) (packed_chosen price h.priced (omega arith)) h

  pub plain_instead : (facts out after : List ℕ) (n block : ℕ) (packed w : Written) → Legal b → n ≡ length b.statements → Stated b.statements facts
      → 200 ≤ length out → Holds b.statements (packed_list b) out packed.size packed.price → block ≡ block_price b.statements
      → block ≤ packed.price → listing after w ≡ plain_in facts n out
      → Holds b.statements (chosen_list b) after w.size w.price
  plain_instead facts out after n block packed w legal counted stated room h e above made =
      let made' : listing after w ≡ plain_in facts (length b.statements) out = made ∙ ap (λ (k : ℕ). plain_in facts k out) counted in
      subst (λ (list : List Instruction). Holds b.statements list after w.size w.price) (plain_chosen packed.price h.priced (omega arith))
      (subst (λ (l : Listing). Holds b.statements (plain_list b) l.out l.written.size l.written.price) (sym made')
      (plain_holds b facts out stated legal.readable.count room))
