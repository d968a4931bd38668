-- Where the tables are those that the phases leave, the sections over them are those of the block's pairs and units.
use mathlib.Core.Path.{◌≡◌, ap, ap₂, ◌∙◌}
use Prim.Native.Nat.{ℕ, ◌≤◌}
use mathlib.Core.List.{List, ◌++◌}
use lib.ListN.{length}
use Rattle.meaning.specs.declared.Statement.{Statement}
use Rattle.course.specs.declared.Found.{Found}
use Rattle.course.specs.Course.{Follows}
use Rattle.account_units.proofs.OfBlock.{pairs_of_block, chains_of_block, packs_of_block, schedule_of_block, dissolved_of_block}
use Rattle.account.specs.Account.{pairing_told, packing_told}
use Rattle.account.specs.InTables.{pairing_in, packing_in}

module _ (ss : List Statement) (few : length ss ≤ 64) (order next packs scheduled : List ℕ) (found : Found) (follows : Follows ss order next packs scheduled found) where
  pub pairing_of_block : (n : ℕ) → n ≡ length ss → pairing_in order next found n ≡ pairing_told ss
  unfolding pairing_in pairing_told
  pairing_of_block n counted =
      ap (λ (k : ℕ). pairing_in order next found k) counted
      ∙ ap₂ (λ (a b : List ℕ). a ++ b)
      (pairs_of_block ss few order next found.pairs found.rights follows.paired)
      (chains_of_block ss few order next found.pairs found.rights follows.paired)

  pub packing_of_block : packing_in packs scheduled found ≡ packing_told ss
  unfolding packing_in packing_told
  packing_of_block =
      ap₂ (λ (a b : List ℕ). a ++ b)
      (ap₂ (λ (a b : List ℕ). a ++ b)
      (packs_of_block ss few follows.direct follows.needs packs found.waiting follows.waits)
      (schedule_of_block ss few scheduled found.units follows.in_order))
      (dissolved_of_block ss few follows.direct follows.needs packs found.waiting follows.waits scheduled found.units follows.in_order)
