-- Units by value: a number for each of four lanes, 64 where there is none, and their count; what is read off them, and their words in tables.
use Rattle.std.specs.Prelude.{ℕ, ◌+◌, ◌*◌, ◌/◌, ◌%◌, List, [], ◌∷◌, ltb, length, get_or}
use Rattle.basics.specs.Choice.{pick}
use Rattle.basics.specs.Sets.{nobody, only, join}
use Rattle.units.specs.declared.Unit.{Unit as Lanes}

-- the list of a unit's statements by value
abbrev pub lanes_of : List ℕ → Lanes
lanes_of unit =
    record { lanes = get_or unit 0 64 ∷ get_or unit 1 64 ∷ get_or unit 2 64 ∷ get_or unit 3 64 ∷ []; count = length unit }

abbrev pub lane : Lanes → ℕ → ℕ
lane unit i = get_or unit.lanes i 0

-- the word of a unit, and the unit of a word
abbrev pub lanes_word : Lanes → ℕ
lanes_word unit = lane unit 0 + 256 * lane unit 1 + 65536 * (lane unit 2 + 256 * lane unit 3) + 4294967296 * unit.count

abbrev pub word_lanes : ℕ → Lanes
word_lanes word =
    record {
      lanes = word % 256 ∷ word / 256 % 256 ∷ word / 65536 % 256 ∷ word / 16777216 % 256 ∷ [];
      count = word / 4294967296 % 256;
    }

-- "A unit goes by its lowest statement number." A lane that is not there has a higher one.
abbrev pub lower_lane : ℕ → ℕ → ℕ
lower_lane s t = pick (ltb s t) s t

abbrev pub lowest_lane : Lanes → ℕ
lowest_lane unit = lower_lane (lower_lane (lane unit 0) (lane unit 1)) (lower_lane (lane unit 2) (lane unit 3))

-- lanes as a set: what is not there is not in it
abbrev pub member_lane : ℕ → ℕ
member_lane s = pick (ltb s 64) (only s) nobody

abbrev pub member_lanes : Lanes → ℕ
member_lanes unit =
    join (join (join (member_lane (lane unit 0)) (member_lane (lane unit 1))) (member_lane (lane unit 2))) (member_lane (lane unit 3))

-- all that the statements depend on
abbrev pub needed_lanes : List ℕ → Lanes → ℕ
needed_lanes direct unit =
    join (join (get_or direct (lane unit 0) 0) (get_or direct (lane unit 1) 0))
    (join (get_or direct (lane unit 2) 0) (get_or direct (lane unit 3) 0))
