-- Sections as they are printed.
use mathlib.Core.Path.{◌≡◌, refl}
use mathlib.Core.List.{[], ◌∷◌}
use Rattle.meaning.specs.Pairs.{chain, pair}
use Rattle.text.specs.Text.{words, spelled}
use Rattle.account_units.specs.Lines.{each_from}
use Rattle.account_units.specs.Sections.{chain_lines, pack_lines, pair_section, chain_section, pack_section, schedule_section, dissolved_section}

pub printed_sections :
    (pair_section (pair 2 3 ∷ pair 0 1 ∷ []) ≡ words "Admitted pairs, in order:\n  2 3\n  0 1\n")
    × (pair_section [] ≡ words "Admitted pairs, in order:\n  none\n")
    × (chain_section 12 (pair 10 11 ∷ pair 0 1 ∷ pair 1 4 ∷ []) ≡ words "Chains:\n  0 1 4\n  10 11\n")
    × (pack_section ((9 ∷ 3 ∷ []) ∷ (4 ∷ []) ∷ (0 ∷ 1 ∷ []) ∷ []) ≡ words "Packs:\n  0 1\n  9 3\n")
    × (schedule_section ((4 ∷ []) ∷ (0 ∷ 1 ∷ []) ∷ []) ≡ words "Schedule:\n  4\n  0 1\n")
    × (dissolved_section ((0 ∷ 1 ∷ []) ∷ (2 ∷ 3 ∷ []) ∷ []) ((0 ∷ 1 ∷ []) ∷ (2 ∷ []) ∷ (3 ∷ []) ∷ []) ≡ words "Dissolved packs:\n  2 3\n")
    × (dissolved_section ((0 ∷ 1 ∷ []) ∷ []) ((0 ∷ 1 ∷ []) ∷ []) ≡ words "Dissolved packs:\n  none\n")
unfolding spelled each_from chain chain_lines pack_lines
printed_sections = (refl, refl, refl, refl, refl, refl, refl)
