-- The same sections over the tables that the phases leave.
use Rattle.std.specs.Prelude.{ℕ, List, ◌++◌}
use Rattle.course.specs.declared.Found.{Found}
use Rattle.account_units.specs.Lines.{section}
use Rattle.account_units.specs.Sections.{pairs_heading, chains_heading, packs_heading, schedule_heading, dissolved_heading}
use Rattle.account_units.specs.InTables.{pair_lines_in, chain_lines_in, pack_lines_in, schedule_lines_in, dissolved_lines_in}

unfoldable pub pairing_in : List ℕ → List ℕ → Found → ℕ → List ℕ
pairing_in order next found n =
    section pairs_heading (pair_lines_in order next found.pairs) ++ section chains_heading (chain_lines_in next found.rights found.pairs n)

unfoldable pub packing_in : List ℕ → List ℕ → Found → List ℕ
packing_in packs scheduled found =
    section packs_heading (pack_lines_in packs found.waiting)
    ++ section schedule_heading (schedule_lines_in scheduled found.units)
    ++ section dissolved_heading (dissolved_lines_in packs found.waiting scheduled found.units)
