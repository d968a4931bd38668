-- "Schedule": one step over the tables is one step of the schedule, and so the words in the order are those of the scheduled units.
use mathlib.Core.Path.{◌≡◌, refl, sym, ap, subst, ◌∙◌}
use mathlib.Core.Logic.{inl}
use mathlib.Core.Bool.{Bool, true, false, false≢true}
use mathlib.Core.Option.{Option, none, some}
use mathlib.Core.List.{List, [], ◌∷◌, ◌++◌, append-nil}
use Prim.Native.Nat.{ℕ, zero, suc, ◌+◌, ◌≤◌, ◌<◌}
use native.Mathlib.Omega.{arith}
use lib.Dec.{eqb, ltb}
use lib.ListN.{length, get_or, set, length-append, length-set}
use lib.Seq.{append_snoc}
use Rattle.basics.specs.Lists.{flat, each}
use Rattle.basics.specs.Sets.{nobody, join}
use Rattle.basics.proofs.Sets.{not_nobody}
use Rattle.meaning.specs.declared.Statement.{Statement}
use Rattle.meaning.specs.Schedule.{lowest, is_pack, is_ready, lowest_unit, without, singles, with_unit, schedule_from, schedule}
use Rattle.theorems.specs.Units.{Every, occurs, Fits, Units}
use Rattle.theorems.proofs.Occurs.{every_weaker}
use Rattle.theorems.proofs.Units.{fits_sized, fits_filled, units_size}
use Rattle.theorems.proofs.Waiting.{In, sums, sums_append, sums_in, every_in, every_without, lowest_in, Finds, finds}
use Rattle.theorems.proofs.Schedule.{Waits as Partition, filled, at_most_once, taken as sum-taken, left_waiting, dissolved_waits, all_wait}
use Rattle.reach.specs.Tied.{Rowed}
use Rattle.reach.proofs.Reaching.{no_row}
use Rattle.units.specs.Words.{InOrder}
use Rattle.units.specs.Waiting.{Waits}
use Rattle.units.proofs.Lanes.{Laned, one, fits_laned, lanes_read, lowest_small, members_with, needed_lanes_lem}
use Rattle.units.specs.Lanes.{lanes_of, lane, lanes_word, word_lanes, member_lanes}
use Rattle.schedule.specs.Stages.{Stage, stage, word_ready, ready_at, pack_at, lowest_waiting, written, single_word, single_need, with_single, in_lanes, taken, dissolved, stepped, steps_from, scheduled_tables}
use Rattle.schedule.proofs.Searches.{has_number, number_of_unit, lowest_unit_lem}
use Rattle.schedule.proofs.Turns.{step_takes, step_unready, step_dissolves, step_none}
use Rattle.schedule.proofs.Words.{unit_within}
use Rattle.schedule.proofs.Members.{lanes_each, singles_with}
use Rattle.schedule.proofs.Taking.{left_in_tables, in_order_more}
use Rattle.schedule.proofs.Dissolving.{written_length, dissolved_tables}

-- how many statements the units have
singles_length : (pack : List ℕ) → sums length (singles pack) ≡ length pack
singles_length [] = refl
singles_length (s ∷ rest) = omega (arith, singles_length rest)

flat_sums : (units : List (List ℕ)) → length (flat units) ≡ sums length units
flat_sums [] = refl
flat_sums (u ∷ us) = length-append u (flat us) ∙ ap (λ (n : ℕ). length u + n) (flat_sums us)

-- where no unit waits, or none can be taken or dissolved, nothing more comes
nothing_waits : (k : ℕ) (ss : List Statement) (set : ℕ) → schedule_from k ss [] set ≡ []
unfolding schedule_from
nothing_waits zero ss set = refl
nothing_waits (suc k) ss set = refl

nothing_comes : (k : ℕ) (ss : List Statement) (units : List (List ℕ)) (set : ℕ)
    → lowest_unit (is_ready ss set) units ≡ none → lowest_unit is_pack units ≡ none → schedule_from k ss units set ≡ []
unfolding schedule_from
nothing_comes zero ss units set unready unpacked = refl
nothing_comes (suc k) ss units set unready unpacked =
    ap (λ (found : Option (List ℕ)).
    elim found [
      | some unit ↦ unit ∷ schedule_from k ss (without unit units) (with_unit unit set)
      | none ↦ elim (lowest_unit is_pack units) [ some pack ↦ schedule_from k ss (singles pack ++ without pack units) set | none ↦ [] ]
    ])
    unready
    ∙ ap (λ (found : Option (List ℕ)). elim found [ some pack ↦ schedule_from k ss (singles pack ++ without pack units) set | none ↦ [] ]) unpacked

-- the scheduled units so far stand in the order of the stage
abbrev Stands : List (List ℕ) → Stage → Type 0
Stands units s = InOrder units s.order s.size

module _ (ss : List Statement) (direct reached : List ℕ) (rowed : Rowed ss direct reached) (small : length ss ≤ 64) where
  -- what holds at each stage: the units that wait and those that are scheduled
  record Follows (units done : List (List ℕ)) (s : Stage) : Type 0 where
    partition : Partition ss units s.scheduled
    waits : Waits direct units s.table s.needs s.waiting
    ordered : Stands done s
    room : s.size + sums length units ≤ length s.order
    table_room : 64 ≤ length s.table
    needs_room : 64 ≤ length s.needs

  in_word : (unit : List ℕ) → Fits ss unit → Every (λ s. s < 64) unit
  in_word unit fits = every_weaker (λ s h. omega (arith, small, h)) unit fits.in_range

  module _ (units done : List (List ℕ)) (s : Stage) (follows : Follows units done s) where
    fits : (unit : List ℕ) → In unit units → Fits ss unit
    fits unit there = every_in (Fits ss) units unit follows.partition.fit there

    laned : (unit : List ℕ) → In unit units → Laned unit
    laned unit there = fits_laned ss unit small (fits unit there)

    range : (unit : List ℕ) → In unit units → lowest unit < 64
    range unit there = lowest_small (laned unit there)

    lanes_here : (unit : List ℕ) → In unit units → word_lanes (get_or s.table (lowest unit) 0) ≡ lanes_of unit
    lanes_here unit there =
        ap word_lanes (follows.waits.word unit there) ∙ lanes_read (laned unit there)

    -- the searches find what the schedule finds
    ready_number : lowest_waiting (ready_at s.needs s.scheduled) s.waiting ≡ number_of_unit (lowest_unit (is_ready ss s.scheduled) units)
    ready_number =
        lowest_unit_lem (is_ready ss s.scheduled) (ready_at s.needs s.scheduled) units s.waiting follows.waits.numbers
        (λ unit there.
        ap (λ (needed : ℕ). word_ready needed s.scheduled) (follows.waits.need unit there)
        ∙ unit_within ss direct reached rowed s.scheduled unit)
        range

    pack_number : lowest_waiting (pack_at s.table) s.waiting ≡ number_of_unit (lowest_unit is_pack units)
    pack_number =
        lowest_unit_lem is_pack (pack_at s.table) units s.waiting follows.waits.numbers
        (λ unit there. ap (λ lanes. ltb 1 lanes.count) (lanes_here unit there))
        range

    -- nobody waits where the set is empty
    none_waits : eqb s.waiting 0 ≡ true → units ≡ []
    none_waits e = either units refl
      where
        either : (us : List (List ℕ)) → units ≡ us → us ≡ []
        either [] f = refl
        either (u ∷ us) f =
            let there : In u units = subst (In u) (sym f) (inl refl) in
            absurd (false≢true (sym (not_nobody s.waiting (lowest u) (follows.waits.numbers (lowest u) ∙ has_number units u there)) ∙ e))

    -- a unit is taken
    scheduled_with : (unit : List ℕ) → In unit units → (taken (lowest unit) s).scheduled ≡ with_unit unit s.scheduled
    scheduled_with unit there =
        ap (λ lanes. join s.scheduled (member_lanes lanes)) (lanes_here unit there) ∙ members_with (laned unit there) s.scheduled

    taken_follows : (unit : List ℕ) → In unit units → Follows (without unit units) (done ++ unit ∷ []) (taken (lowest unit) s)
    taken_follows unit there =
        record {
          partition =
              subst (Partition ss (without unit units)) (sym (scheduled_with unit there))
              (left_waiting ss units s.scheduled follows.partition unit there);
          waits = left_in_tables direct units s.table s.needs s.waiting unit follows.waits;
          ordered =
              subst (λ (word : ℕ). InOrder (done ++ unit ∷ []) (set s.order s.size word) (s.size + 1)) (sym (ap lanes_word (lanes_here unit there)))
              (in_order_more done s.order s.size unit follows.ordered (omega (arith, follows.room, fewer)));
          room =
              omega (
                arith,
                follows.room,
                fewer,
                length-set s.order s.size (lanes_word (word_lanes (get_or s.table (lowest unit) 0))),
              );
          table_room = follows.table_room;
          needs_room = follows.needs_room;
        }
      where
        fewer : 1 + sums length (without unit units) ≤ sums length units
        fewer = omega (arith, sum-taken ss units s.scheduled follows.partition length unit there, fits_filled ss unit (fits unit there))

    -- a pack is dissolved
    lanes_met {ℓ} : {A : Type ℓ} (f : ℕ → A → A) → ((a : A) → f 64 a ≡ a) → (pack : List ℕ) → In pack units → (a : A)
        → in_lanes f (get_or s.table (lowest pack) 0) a ≡ each f pack a
    lanes_met f absent pack there a =
        ap (λ lanes. f (lane lanes 3) (f (lane lanes 2) (f (lane lanes 1) (f (lane lanes 0) a)))) (lanes_here pack there)
        ∙ lanes_each f absent pack (fits_sized ss pack (fits pack there)).1 a

    dissolved_follows : (pack : List ℕ) → In pack units → Follows (singles pack ++ without pack units) done (dissolved direct (lowest pack) s)
    dissolved_follows pack there =
        record {
          partition = dissolved_waits ss units s.scheduled follows.partition pack there;
          waits =
              subst (λ (table : List ℕ). Waits direct next table (dissolved direct (lowest pack) s).needs (dissolved direct (lowest pack) s).waiting) (sym table_met)
              (subst (λ (needs : List ℕ). Waits direct next (each (written single_word) pack s.table) needs (dissolved direct (lowest pack) s).waiting) (sym needs_met)
              (subst (λ (waiting : ℕ). Waits direct next (each (written single_word) pack s.table) (each (written (single_need direct)) pack s.needs) waiting) (sym waiting_met)
              (dissolved_tables direct units s.table s.needs s.waiting pack follows.waits (fits_filled ss pack known) (in_word pack known) others
              follows.table_room follows.needs_room (λ t h. needed_lanes_lem direct (no_row ss direct reached rowed 64 small) (one {a = t} h)))));
          ordered = follows.ordered;
          room =
              omega (
                arith,
                follows.room,
                sum-taken ss units s.scheduled follows.partition length pack there,
                sums_append length (singles pack) (without pack units),
                singles_length pack,
              );
          table_room = omega (arith, follows.table_room, ap length table_met, written_length single_word pack s.table (in_word pack known));
          needs_room = omega (arith, follows.needs_room, ap length needs_met, written_length (single_need direct) pack s.needs (in_word pack known));
        }
      where
        next : List (List ℕ)
        next = singles pack ++ without pack units

        known : Fits ss pack
        known = fits pack there

        table_met : (dissolved direct (lowest pack) s).table ≡ each (written single_word) pack s.table
        table_met = lanes_met (written single_word) (λ table. refl) pack there s.table

        needs_met : (dissolved direct (lowest pack) s).needs ≡ each (written (single_need direct)) pack s.needs
        needs_met = lanes_met (written (single_need direct)) (λ needs. refl) pack there s.needs

        waiting_met : (dissolved direct (lowest pack) s).waiting ≡ with_unit pack s.waiting
        waiting_met =
            ap (λ lanes. with_single (lane lanes 3) (with_single (lane lanes 2) (with_single (lane lanes 1) (with_single (lane lanes 0) s.waiting))))
            (lanes_here pack there)
            ∙ singles_with pack s.waiting (fits_sized ss pack known).1 (in_word pack known)

        others : (unit : List ℕ) → In unit (without pack units) → occurs (lowest unit) pack ≡ 0
        others unit left =
            omega (
              arith,
              sum-taken ss units s.scheduled follows.partition (occurs (lowest unit)) pack there,
              at_most_once ss units s.scheduled follows.partition (lowest unit),
              sums_in (occurs (lowest unit)) (without pack units) unit left,
              lowest_in unit
                  (every_in (λ u. 0 < length u) (without pack units) unit
                  (every_without (λ u. 0 < length u) pack units (filled ss units s.scheduled follows.partition)) left),
            )

  -- with k steps to go, all that k steps of the schedule give comes behind what stands there
  abbrev Answers : ℕ → Type 0
  Answers k = (units done : List (List ℕ)) (s : Stage) → Follows units done s → Stands (done ++ schedule_from k ss units s.scheduled) (steps_from k direct s)

  no_steps : Answers zero
  unfolding schedule_from steps_from
  no_steps units done s follows = subst (λ (us : List (List ℕ)). Stands us s) (sym (append-nil done)) follows.ordered

  one_step : (k : ℕ) → Answers k → (units done : List (List ℕ)) (s : Stage) → Follows units done s
      → Stands (done ++ schedule_from (suc k) ss units s.scheduled) (steps_from k direct (stepped direct s))
  unfolding schedule_from
  one_step k later units done s follows = take (lowest_unit (is_ready ss s.scheduled) units) refl (finds (is_ready ss s.scheduled) units)
    where
      dissolve : lowest_unit (is_ready ss s.scheduled) units ≡ none → (found : Option (List ℕ)) → lowest_unit is_pack units ≡ found → Finds is_pack units found
          → Stands (done ++ elim found [ some pack ↦ schedule_from k ss (singles pack ++ without pack units) s.scheduled | none ↦ [] ])
          (steps_from k direct (stepped direct s))
      dissolve unready none e unpacked =
          let same : stepped direct s ≡ s =
          step_unready direct s 64 (ready_number units done s follows ∙ ap number_of_unit unready) (omega arith)
          ∙ step_none direct s 64 (pack_number units done s follows ∙ ap number_of_unit e) (omega arith) in
          subst (λ (st : Stage). Stands (done ++ []) (steps_from k direct st)) (sym same)
          (subst (λ (rest : List (List ℕ)). Stands (done ++ rest) (steps_from k direct s)) (nothing_comes k ss units s.scheduled unready e)
          (later units done s follows))
      dissolve unready (some pack) e found =
          let stage-e : stepped direct s ≡ dissolved direct (lowest pack) s =
          step_unready direct s 64 (ready_number units done s follows ∙ ap number_of_unit unready) (omega arith)
          ∙ step_dissolves direct s (lowest pack) (pack_number units done s follows ∙ ap number_of_unit e) (range units done s follows pack found.0) in
          subst (λ (st : Stage). Stands (done ++ schedule_from k ss (singles pack ++ without pack units) s.scheduled) (steps_from k direct st)) (sym stage-e)
          (later (singles pack ++ without pack units) done (dissolved direct (lowest pack) s) (dissolved_follows units done s follows pack found.0))

      take : (found : Option (List ℕ)) → lowest_unit (is_ready ss s.scheduled) units ≡ found → Finds (is_ready ss s.scheduled) units found
          → Stands
          (done
          ++ elim found [
            | some unit ↦ unit ∷ schedule_from k ss (without unit units) (with_unit unit s.scheduled)
            | none ↦
                elim (lowest_unit is_pack units) [
                  | some pack ↦ schedule_from k ss (singles pack ++ without pack units) s.scheduled
                  | none ↦ []
                ]
          ])
          (steps_from k direct (stepped direct s))
      take none e unready = dissolve e (lowest_unit is_pack units) refl (finds is_pack units)
      take (some unit) e found =
          let stage-e : stepped direct s ≡ taken (lowest unit) s =
          step_takes direct s (lowest unit) (ready_number units done s follows ∙ ap number_of_unit e) (range units done s follows unit found.0) in
          let list-e : done ++ unit ∷ [] ++ schedule_from k ss (without unit units) (taken (lowest unit) s).scheduled
          ≡ done ++ unit ∷ schedule_from k ss (without unit units) (with_unit unit s.scheduled) =
          append_snoc done unit (schedule_from k ss (without unit units) (taken (lowest unit) s).scheduled)
          ∙ ap (λ (set : ℕ). done ++ unit ∷ schedule_from k ss (without unit units) set) (scheduled_with units done s follows unit found.0) in
          subst (λ (us : List (List ℕ)). Stands us (steps_from k direct (stepped direct s))) list-e
          (subst (λ (st : Stage). Stands (done ++ unit ∷ [] ++ schedule_from k ss (without unit units) (taken (lowest unit) s).scheduled) (steps_from k direct st)) (sym stage-e)
          (later (without unit units) (done ++ unit ∷ []) (taken (lowest unit) s) (taken_follows units done s follows unit found.0)))

  more_steps : (k : ℕ) → Answers k → Answers (suc k)
  unfolding steps_from
  more_steps k later units done s follows = by (eqb s.waiting 0) refl
    where
      by : (t : Bool) → eqb s.waiting 0 ≡ t
          → Stands (done ++ schedule_from (suc k) ss units s.scheduled) (elim t [ true ↦ s | false ↦ steps_from k direct (stepped direct s) ])
      by true e =
          let ended : done ++ schedule_from (suc k) ss units s.scheduled ≡ done =
          ap (λ (us : List (List ℕ)). done ++ schedule_from (suc k) ss us s.scheduled) (none_waits units done s follows e)
          ∙ ap (λ (rest : List (List ℕ)). done ++ rest) (nothing_waits (suc k) ss s.scheduled)
          ∙ append-nil done in
          subst (λ (us : List (List ℕ)). Stands us s) (sym ended) follows.ordered
      by false e = one_step k later units done s follows

  answers : (k : ℕ) → Answers k
  answers zero = no_steps
  answers (suc k) = more_steps k (answers k)

  -- What stands in the order at the end are the words of the scheduled units.
  pub schedule_in_order : (units : List (List ℕ)) (table needs order : List ℕ) (waiting : ℕ)
      → Units ss units → Waits direct units table needs waiting → 64 ≤ length table → 64 ≤ length needs → length ss ≤ length order
      → let end = scheduled_tables (length ss) direct table needs waiting order in InOrder (schedule ss units) end.order end.size
  unfolding schedule scheduled_tables
  schedule_in_order units table needs order waiting known waits table_room needs_room order-room =
      answers (length ss + length ss) units [] (stage table needs order waiting nobody 0)
      (record {
        partition = all_wait ss units known;
        waits = waits;
        ordered = record { sized = refl; words = λ i h. absurd (omega arith) };
        room = omega (arith, order-room, units_size ss units known, flat_sums units);
        table_room = table_room;
        needs_room = needs_room;
      })
