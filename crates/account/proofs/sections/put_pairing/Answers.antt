-- `sections::put_pairing` meets its contract: its parts, one behind the other.
use Rattle.text.proofs.Putting.{both}
use Rattle.account.specs.InTables.{pairing_in}
use Rattle.account.proofs.sections.put_pairing.Goals as goal

pub returns : goal.returns
unfolding pairing_in
returns c =
    both c.put_pairs-behind.ensures c.put_chains.ensures
