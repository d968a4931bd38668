-- "Schedule" over tables: the waiting units by lowest statement number, what each waits for, and the words of the units that are scheduled.
use Rattle.std.specs.Prelude.{◌≡◌, ℕ, zero, suc, ◌+◌, ◌<◌, Option, None, Some, Bool, true, false, ◌&&◌, List, [], ◌∷◌, eqb, ltb, get_or, set}
use Rattle.std.specs.Int.Bits.{bit_and, bit_xor}
use Rattle.basics.specs.Choice.{pick}
use Rattle.basics.specs.Sets.{nobody, only, join, has}
use Rattle.schedule.specs.declared.Progress.{Progress}
use Rattle.units.specs.Words.{unit_word}
use Rattle.units.specs.Lanes.{lanes_of, lane, lanes_word, word_lanes, member_lane, member_lanes, needed_lanes}

pub record Stage : Type 0 where
  pub table : List ℕ
  pub needs : List ℕ
  pub order : List ℕ
  pub waiting : ℕ
  pub scheduled : ℕ
  pub size : ℕ

abbrev pub stage : List ℕ → List ℕ → List ℕ → ℕ → ℕ → ℕ → Stage
stage table needs order waiting scheduled size =
    record { table = table; needs = needs; order = order; waiting = waiting; scheduled = scheduled; size = size }

abbrev pub stage_of : List ℕ → List ℕ → List ℕ → Progress → Stage
stage_of table needs order progress = stage table needs order progress.waiting progress.scheduled progress.count

-- "It is ready when all that its statements depend on is scheduled."
abbrev pub word_ready : ℕ → ℕ → Bool
word_ready needed scheduled = eqb (bit_and needed scheduled) needed

-- the first of k numbers from i on that passes the test, 64 where none does
unfoldable pub first_of : (ℕ → Bool) → ℕ → ℕ → ℕ
first_of test zero i = 64
first_of test (suc k) i = elim (test i) [ true ↦ i | false ↦ first_of test k (i + 1) ]

-- the lowest number of a waiting unit that is ready, and of one that is a pack
abbrev pub ready_at : List ℕ → ℕ → ℕ → Bool
ready_at needs scheduled i = word_ready (get_or needs i 0) scheduled

abbrev pub pack_at : List ℕ → ℕ → Bool
pack_at table i = ltb 1 (word_lanes (get_or table i 0)).count

abbrev pub lowest_waiting : (ℕ → Bool) → ℕ → ℕ
lowest_waiting test waiting = first_of (λ i. has waiting i && test i) 64 0

-- the lowest of a set that passes a test, where one does
abbrev pub IsLowest : (ℕ → Bool) → ℕ → Option ℕ → Type 0
IsLowest test waiting None = lowest_waiting test waiting ≡ 64
IsLowest test waiting (Some at) = (at < 64) × (lowest_waiting test waiting ≡ at)

-- what a call answers, by its number, is what the test says
abbrev pub Decides : (ℕ → Bool → Type 0) → (ℕ → Bool) → Type 0
Decides answers test = (i : ℕ) (answer : Bool) → i < 64 → answers i answer → answer ≡ test i

-- the set without this one
abbrev pub without_one : ℕ → ℕ → ℕ
without_one set i = pick (has set i) (bit_xor set (only i)) set

-- the unit at this number is taken
abbrev pub taken : ℕ → Stage → Stage
taken at s =
    let unit = word_lanes (get_or s.table at 0) in
    record {
      table = s.table;
      needs = s.needs;
      order = set s.order s.size (lanes_word unit);
      waiting = without_one s.waiting at;
      scheduled = join s.scheduled (member_lanes unit);
      size = s.size + 1;
    }

-- the statement of a lane, where there is one, waits as a single: what is written for it, in the table and in the needs
abbrev pub written : (ℕ → ℕ) → ℕ → List ℕ → List ℕ
written word s table = pick (ltb s 64) (set table s (word s)) table

abbrev pub single_word : ℕ → ℕ
single_word s = unit_word (s ∷ [])

abbrev pub single_need : List ℕ → ℕ → ℕ
single_need direct s = needed_lanes direct (lanes_of (s ∷ []))

abbrev pub with_single : ℕ → ℕ → ℕ
with_single s waiting = join waiting (member_lane s)

-- the pack at this number is dissolved: its lanes wait as singles
abbrev pub in_lanes {ℓ} : {A : Type ℓ} → (ℕ → A → A) → ℕ → A → A
in_lanes f word a =
    let unit = word_lanes word in
    f (lane unit 3) (f (lane unit 2) (f (lane unit 1) (f (lane unit 0) a)))

abbrev pub dissolved : List ℕ → ℕ → Stage → Stage
dissolved direct at s =
    record {
      table = in_lanes (written single_word) (get_or s.table at 0) s.table;
      needs = in_lanes (written (single_need direct)) (get_or s.table at 0) s.needs;
      order = s.order;
      waiting = in_lanes with_single (get_or s.table at 0) s.waiting;
      scheduled = s.scheduled;
      size = s.size;
    }

-- "Take the ready unit with the lowest statement number. If none is ready, dissolve the waiting pack with the lowest statement number into
-- singles."
abbrev pub unready_step : List ℕ → Stage → Stage
unready_step direct s =
    let pack = lowest_waiting (pack_at s.table) s.waiting in
    pick (ltb pack 64) (dissolved direct pack s) s

unfoldable pub stepped : List ℕ → Stage → Stage
stepped direct s =
    let ready = lowest_waiting (ready_at s.needs s.scheduled) s.waiting in
    pick (ltb ready 64) (taken ready s) (unready_step direct s)

unfoldable pub steps_from : ℕ → List ℕ → Stage → Stage
steps_from zero direct s = s
steps_from (suc k) direct s = elim (eqb s.waiting 0) [ true ↦ s | false ↦ steps_from k direct (stepped direct s) ]

unfoldable pub scheduled_tables : ℕ → List ℕ → List ℕ → List ℕ → ℕ → List ℕ → Stage
scheduled_tables n direct table needs waiting order = steps_from (n + n) direct (stage table needs order waiting nobody 0)
