-- The lines as the document has them: worked block 2, and input over 4,096 bytes.
use mathlib.Core.Path.{◌≡◌, refl}
use mathlib.Core.List.{List, [], ◌∷◌}
use Prim.Native.Nat.{ℕ}
use Rattle.text.specs.Text.{spelled, hex, words}
use Rattle.answers.specs.Lines.{list_lines, overlong}

abbrev list_of_four : List ℕ
list_of_four =
    1 ∷ 0 ∷ 29 ∷ 4 ∷ 5 ∷ 1 ∷ 0 ∷ 4 ∷ 0 ∷ 0 ∷ 5 ∷ 1 ∷ 1 ∷ 4 ∷ 1 ∷ 0 ∷ 6 ∷ 4 ∷ 2 ∷ 1 ∷ 4 ∷ 0 ∷ 1 ∷ 5 ∷ 5 ∷ 2 ∷ 4 ∷ 2 ∷ 0 ∷ 170 ∷ []

pub worked_lines :
    list_lines (record { status = 0; size = 29; block_cost = 16; list_cost = 4; room = list_of_four })
    ≡ words "0 29 16 4\n01001d0405010004000005010104010006040201040001050502040200\n"
unfolding list_lines spelled hex
worked_lines = refl

pub overlong_line : (room : List ℕ) → list_lines (overlong room) ≡ words "2 0 0 0\n"
unfolding list_lines spelled hex
overlong_line room = refl
