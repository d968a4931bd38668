-- The sections of a block: where the tables are those that its phases leave, they are what the rules say of its pairs and units.
use mathlib.Core.Path.{◌≡◌, ap}
use mathlib.Core.List.{List}
use Prim.Native.Nat.{ℕ, ◌≤◌}
use native.Mathlib.Omega.{arith}
use lib.ListN.{length}
use Rattle.meaning.specs.declared.Statement.{Statement}
use Rattle.meaning.specs.Pairs.{Pair}
use Rattle.meaning.specs.Seeding.{seed}
use Rattle.meaning.specs.Extension.{extend}
use Rattle.meaning.specs.Combination.{combine}
use Rattle.meaning.specs.Choice.{scheduled_units}
use Rattle.theorems.specs.Units.{Units}
use Rattle.theorems.proofs.Pairing.{pairs_admitted}
use Rattle.theorems.proofs.Combination.{combined_units}
use Rattle.theorems.proofs.Schedule.{schedule_units}
use Rattle.pairs.specs.Admission.{tables, tables_of}
use Rattle.pairs.proofs.Tables.{pairs_few}
use Rattle.units.specs.Words.{InOrder}
use Rattle.units.specs.Waiting.{Waits}
use Rattle.account_units.specs.Lines.{section}
use Rattle.account_units.specs.Sections.{pair_section, chain_section, pack_section, schedule_section, dissolved_section, pairs_heading, chains_heading, packs_heading, schedule_heading, dissolved_heading}
use Rattle.account_units.specs.InTables.{pair_lines_in, chain_lines_in, pack_lines_in, schedule_lines_in, dissolved_lines_in}
use Rattle.account_units.proofs.OfPairs.{pairs_told, chains_told}
use Rattle.account_units.proofs.OfUnits.{packs_told, schedule_told, dissolved_told}
use Rattle.account_units.proofs.Lengths.{pair_section_length, chain_section_length, pack_section_length, schedule_section_length, dissolved_section_length}

module _ (ss : List Statement) where
  -- the pairs of the block, the units that they are combined into, and that both these and the scheduled ones are units of the block
  abbrev pub pairs_of : List Pair
  pairs_of = extend ss (seed ss)

  abbrev pub units_of : List (List ℕ)
  units_of = combine ss pairs_of

  units_known : Units ss units_of
  units_known = combined_units ss pairs_of (pairs_admitted ss)

  scheduled_known : Units ss (scheduled_units ss)
  unfolding scheduled_units
  scheduled_known = schedule_units ss units_of units_known

  module _ (few : length ss ≤ 64) where
    module _ (order next : List ℕ) (size rights : ℕ) (tied : tables order next size rights ≡ tables_of pairs_of) where
      pub pairs_of_block : section pairs_heading (pair_lines_in order next size) ≡ pair_section pairs_of
      pairs_of_block = ap (section pairs_heading) (pairs_told ss pairs_of (pairs_admitted ss) few (tables order next size rights) tied)

      pub chains_of_block : section chains_heading (chain_lines_in next rights size (length ss)) ≡ chain_section (length ss) pairs_of
      chains_of_block = ap (section chains_heading) (chains_told ss pairs_of (pairs_admitted ss) few (tables order next size rights) tied (length ss))

    pub schedule_of_block : (scheduled : List ℕ) (count : ℕ) → InOrder (scheduled_units ss) scheduled count
        → section schedule_heading (schedule_lines_in scheduled count) ≡ schedule_section (scheduled_units ss)
    schedule_of_block scheduled count in_order =
        ap (section schedule_heading) (schedule_told ss few (scheduled_units ss) scheduled count scheduled_known in_order)

    module _ (direct needs table : List ℕ) (waiting : ℕ) (waits : Waits direct units_of table needs waiting) where
      pub packs_of_block : section packs_heading (pack_lines_in table waiting) ≡ pack_section units_of
      packs_of_block = ap (section packs_heading) (packs_told ss few direct needs table units_of waiting units_known waits)

      pub dissolved_of_block : (scheduled : List ℕ) (count : ℕ) → InOrder (scheduled_units ss) scheduled count
          → section dissolved_heading (dissolved_lines_in table waiting scheduled count) ≡ dissolved_section units_of (scheduled_units ss)
      dissolved_of_block scheduled count in_order =
          ap (section dissolved_heading) (dissolved_told ss few direct needs table units_of waiting units_known waits (scheduled_units ss) scheduled count scheduled_known in_order)

    -- No section is longer than this, whatever the block.
    pub pairs_short : length (pair_section pairs_of) ≤ 2849
    pairs_short = omega (arith, pair_section_length pairs_of, pairs_few ss pairs_of (pairs_admitted ss))

    pub chains_short : length (chain_section (length ss) pairs_of) ≤ 1487
    chains_short = omega (arith, chain_section_length ss pairs_of (pairs_admitted ss))

    pub packs_short : length (pack_section units_of) ≤ 1486
    packs_short = omega (arith, pack_section_length ss units_of units_known)

    pub schedule_short : length (schedule_section (scheduled_units ss)) ≤ 1489
    schedule_short = omega (arith, schedule_section_length ss (scheduled_units ss) scheduled_known)

    pub dissolved_short : length (dissolved_section units_of (scheduled_units ss)) ≤ 1496
    dissolved_short = omega (arith, dissolved_section_length ss units_of (scheduled_units ss) units_known)
