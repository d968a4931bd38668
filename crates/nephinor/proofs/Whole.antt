-- Packing loses nothing: whatever an export is lent, each number of its answer is within the bits that it is given, so what a caller takes
-- out of the returned number is what the call's definition says. A written block has at most 983 bytes and a list at most 3,844, a block's
-- table has 652 numbers, and no price is above 1,280: 160 instructions of at most 8 each.
use mathlib.Core.Path.{◌≡◌, refl, sym, ap, subst}
use mathlib.Core.Bool.{Bool, true, false}
use mathlib.Core.Option.{Option, none, some}
use mathlib.Core.List.{List, []}
use Prim.Native.Nat.{ℕ, ◌^◌, ◌≤◌, ◌<◌}
use native.Mathlib.Omega.{arith}
use lib.Dec.{eqb, leb}
use lib.ListN.{length}
use Rattle.basics.specs.Choice.{pick}
use Rattle.basics.specs.Lists.{all}
use Rattle.basics.proofs.Parts.{pick_holds}
use Rattle.meaning.specs.Numbers.{Answer, refused, done, demand, and_then}
use Rattle.meaning.specs.declared.Block.{Block as Slots}
use Rattle.meaning.specs.Block.{Block, declared, block_price}
use Rattle.meaning.specs.Format.{read_block, write_block}
use Rattle.meaning.specs.Machine.{Contents, right_size, run_block}
use Rattle.meaning.specs.List.{Instruction, list_price, list_bytes, read_list, allowed}
use Rattle.meaning.specs.Card.{run_list}
use Rattle.meaning.specs.Choice.{plain_list, chosen_list}
use Rattle.meaning.specs.Calls.{block_read, read_block_call, BlockWritten, block_written, write_block_call, ListMade, list_made, make_list_call, Ran, ran, list_of, run_block_call, run_list_call}
use Rattle.theorems.proofs.Bytes.{is_byte}
use Rattle.theorems.proofs.Readable.{Readable, refused_number, done_readable, done_fits}
use Rattle.theorems.proofs.BlockRoundTrip.{block_length, writer_refused, writer_done}
use Rattle.theorems.proofs.ListRoundTrip.{ListFits, list_length, list_read}
use Rattle.theorems.proofs.Prices.{plain_price}
use Rattle.theorems.proofs.Lawful.{plain_lawful}
use Rattle.theorems.proofs.Chosen.{chosen_priced, chosen_lawful}
use Rattle.theorems.proofs.ScheduleRuns.{units_of_lem}
use Rattle.emit.proofs.Prices.{list_cheap}
use Rattle.table.specs.Said.{block_said}
use Rattle.nephinor.specs.Packed.{packed}
use Rattle.nephinor.specs.Exports.{RanPacked, ran_packed, TableRead, table_read, TableWritten, written_packed, table_written, MadePacked, made_packed}
use Rattle.nephinor.proofs.Unpacked.{Whole, comes_back_whole}

-- numbers that have room in the bits they are given
record Held (status size first second : ℕ) : Type 0 where
  status_held : status < 2 ^ 8
  size_held : size < 2 ^ 16
  first_held : first < 2 ^ 16
  second_held : second < 2 ^ 16

whole : (status size first second : ℕ) → Held status size first second → Whole status size first second (packed status size first second)
whole status size first second h = comes_back_whole status size first second h.status_held h.size_held h.first_held h.second_held

-- prices are small
list_price_lem : (b : Block) (list : List Instruction) → ListFits list → list_price b.statements list ≤ 1280
list_price_lem b list fits = omega (arith, list_cheap b.statements list fits.fit, fits.count)

block_price_lem : (b : Block) → Readable b → block_price b.statements ≤ 1280
block_price_lem b readable = omega (arith, plain_price b, list_price_lem b (plain_list b) (plain_lawful b readable).fits)

-- making a list
abbrev MadeHeld : ListMade → Type 0
MadeHeld m = Held m.status m.size m.block_cost m.list_cost

made_held : (bytes room : List ℕ) → all is_byte bytes ≡ true → MadeHeld (make_list_call bytes room)
unfolding make_list_call
made_held bytes room are = by (read_block bytes) refl
  where
    by : (answer : Answer Block) → read_block bytes ≡ answer → MadeHeld (list_made room answer)
    by (refused n) e =
        record { status_held = omega (arith, refused_number bytes n e); size_held = omega arith; first_held = omega arith; second_held = omega arith }
    by (done b) e =
        let readable = done_readable bytes b e in
        let size = list_length (chosen_list b) (chosen_lawful b readable (done_fits bytes b are e) (units_of_lem b.statements)).fits in
        let price = block_price_lem b readable in
        pick_holds MadeHeld (leb (length (list_bytes (chosen_list b))) (length room)) _ _
        (λ fits.
        record {
          status_held = omega arith;
          size_held = omega (arith, size);
          first_held = omega (arith, price);
          second_held = omega (arith, price, (chosen_priced b (units_of_lem b.statements)).at_most);
        })
        (λ short. record { status_held = omega arith; size_held = omega (arith, size); first_held = omega arith; second_held = omega arith })

-- running
abbrev RanHeld : Ran → Type 0
RanHeld r = Held r.status 0 r.price 0

ran_held : (status price : ℕ) → status ≤ 9 → price ≤ 1280 → Held status 0 price 0
ran_held status price s p = record { status_held = omega arith; size_held = omega arith; first_held = omega arith; second_held = omega arith }

block_held : (bytes : List ℕ) (m : Contents) → RanHeld (run_block_call bytes m)
unfolding run_block_call
block_held bytes m = by (read_block bytes) refl
  where
    sized : (b : Block) → Readable b → (test : Bool)
        → RanHeld (ran m (and_then (demand test 6 (done b)) λ x. done (block_price x.statements, run_block x m)))
    sized b readable true = ran_held 0 (block_price b.statements) (omega arith) (block_price_lem b readable)
    sized b readable false = ran_held 6 0 (omega arith) (omega arith)

    by : (answer : Answer Block) → read_block bytes ≡ answer
        → RanHeld (ran m (and_then (and_then answer λ b. demand (right_size b m) 6 (done b)) λ x. done (block_price x.statements, run_block x m)))
    by (refused n) e = ran_held n 0 (omega (arith, refused_number bytes n e)) (omega arith)
    by (done b) e = sized b (done_readable bytes b e) (right_size b m)

list_held : (block_bytes_lem bytes : List ℕ) (m : Contents) → all is_byte bytes ≡ true → RanHeld (run_list_call block_bytes_lem bytes m)
unfolding run_list_call
list_held block_bytes_lem bytes m are = by (read_block block_bytes_lem) refl
  where
    permitted : (b : Block) (list : List Instruction) → ListFits list → (test : Bool)
        → RanHeld (ran m (demand test 9 (done (list_price b.statements list, run_list b list m))))
    permitted b list fits true = ran_held 0 (list_price b.statements list) (omega arith) (list_price_lem b list fits)
    permitted b list fits false = ran_held 9 0 (omega arith) (omega arith)

    listed : (b : Block) (found : Option (List Instruction)) → read_list bytes ≡ found
        → RanHeld (ran m (and_then (list_of found) λ list. demand (allowed b [] list) 9 (done (list_price b.statements list, run_list b list m))))
    listed b none e = ran_held 8 0 (omega arith) (omega arith)
    listed b (some list) e = permitted b list (list_read bytes list are e).fits (allowed b [] list)

    sized : (b : Block) (test : Bool)
        → RanHeld
        (ran m
        (and_then (demand test 6 (done b)) λ x.
        and_then (list_of (read_list bytes)) λ list.
        demand (allowed x [] list) 9 (done (list_price x.statements list, run_list x list m))))
    sized b true = listed b (read_list bytes) refl
    sized b false = ran_held 6 0 (omega arith) (omega arith)

    by : (answer : Answer Block) → read_block block_bytes_lem ≡ answer
        → RanHeld
        (ran m
        (and_then (and_then answer λ b. demand (right_size b m) 6 (done b)) λ x.
        and_then (list_of (read_list bytes)) λ list.
        demand (allowed x [] list) 9 (done (list_price x.statements list, run_list x list m))))
    by (refused n) e = ran_held n 0 (omega (arith, refused_number block_bytes_lem n e)) (omega arith)
    by (done b) e = sized b (right_size b m)

-- writing a block, and reading one
sized_held : (status size : ℕ) → status ≤ 9 → size ≤ 983 → Held status size 0 0
sized_held status size s z = record { status_held = omega arith; size_held = omega arith; first_held = omega arith; second_held = omega arith }

abbrev WrittenHeld : BlockWritten → Type 0
WrittenHeld w = Held w.status w.size 0 0

written_held : (slots : Slots) (room : List ℕ) → WrittenHeld (write_block_call slots room)
unfolding write_block_call
written_held slots room = by (write_block slots) refl
  where
    by : (answer : Answer (List ℕ)) → write_block slots ≡ answer → WrittenHeld (block_written room answer)
    by (refused n) e = sized_held n 0 (omega (arith, writer_refused slots n e)) (omega arith)
    by (done bytes) e =
        let written = writer_done slots bytes e in
        let size : length bytes ≤ 983 = omega (arith, ap length written.bytes_are, block_length (declared slots) written.readable) in
        pick_holds WrittenHeld (leb (length bytes) (length room)) _ _
        (λ fits. sized_held 0 (length bytes) (omega arith) size) (λ short. sized_held 7 (length bytes) (omega arith) size)

read_status : (bytes : List ℕ) → (read_block_call bytes).status ≤ 5
unfolding read_block_call
read_status bytes = by (read_block bytes) refl
  where
    by : (answer : Answer Block) → read_block bytes ≡ answer → (block_read answer).status ≤ 5
    by (refused n) e = omega (arith, refused_number bytes n e)
    by (done b) e = omega arith

-- The five exports. The last premise of each is what the export promises of the number that it returns (src/exports.rt).

-- Making a list: status, size and both prices come out as `make_list_call` has them.
pub make_list_whole : (bytes room after : List ℕ) (number : ℕ) → all is_byte bytes ≡ true
    → record { number = number; room = after } ≡ made_packed (make_list_call bytes room)
    → Whole (make_list_call bytes room).status (make_list_call bytes room).size (make_list_call bytes room).block_cost (make_list_call bytes room).list_cost number
make_list_whole bytes room after number are promise =
    let m = make_list_call bytes room in
    subst (Whole m.status m.size m.block_cost m.list_cost) (sym (ap (λ (p : MadePacked). p.number) promise))
    (whole m.status m.size m.block_cost m.list_cost (made_held bytes room are))

-- Running a block: status and price paid, as `run_block_call` has them.
pub run_block_whole : (bytes : List ℕ) (m after : Contents) (number : ℕ)
    → record { number = number; contents = after } ≡ ran_packed (run_block_call bytes m)
    → Whole (run_block_call bytes m).status 0 (run_block_call bytes m).price 0 number
run_block_whole bytes m after number promise =
    let r = run_block_call bytes m in
    subst (Whole r.status 0 r.price 0) (sym (ap (λ (p : RanPacked). p.number) promise)) (whole r.status 0 r.price 0 (block_held bytes m))

-- Running a list: status and price paid, as `run_list_call` has them.
pub run_list_whole : (block_bytes_lem bytes : List ℕ) (m after : Contents) (number : ℕ) → all is_byte bytes ≡ true
    → record { number = number; contents = after } ≡ ran_packed (run_list_call block_bytes_lem bytes m)
    → Whole (run_list_call block_bytes_lem bytes m).status 0 (run_list_call block_bytes_lem bytes m).price 0 number
run_list_whole block_bytes_lem bytes m after number are promise =
    let r = run_list_call block_bytes_lem bytes m in
    subst (Whole r.status 0 r.price 0) (sym (ap (λ (p : RanPacked). p.number) promise))
    (whole r.status 0 r.price 0 (list_held block_bytes_lem bytes m are))

-- Reading into a table: a block's own refusal, with 0; else the 652 numbers needed, with 7 where the table is short.
abbrev pub status_read : List ℕ → ℕ → ℕ
status_read table status = pick (eqb status 0) (pick (leb 652 (length table)) 0 7) status

abbrev pub size_read : ℕ → ℕ
size_read status = pick (eqb status 0) 652 0

pub read_block_whole : (bytes table after : List ℕ) (number : ℕ)
    → record { number = number; table = after } ≡ table_read table (read_block_call bytes)
    → Whole (status_read table (read_block_call bytes).status) (size_read (read_block_call bytes).status) 0 0 number
read_block_whole bytes table after number promise =
    subst (Whole (status_read table status) (size_read status) 0 0) (sym (ap (λ (p : TableRead). p.number) promise))
    (by (eqb status 0) (leb 652 (length table)) _)
  where
    status : ℕ
    status = (read_block_call bytes).status

    by : (zero-status enough : Bool) (stored : List ℕ)
        → Whole (pick zero-status (pick enough 0 7) status) (pick zero-status 652 0) 0 0
        (pick {A = TableRead} zero-status
        (pick enough (record { number = packed 0 652 0 0; table = stored }) (record { number = packed 7 652 0 0; table = table }))
        (record { number = packed status 0 0 0; table = table })
        ).number
    by true true stored = whole 0 652 0 0 (sized_held 0 652 (omega arith) (omega arith))
    by true false stored = whole 7 652 0 0 (sized_held 7 652 (omega arith) (omega arith))
    by false enough stored = whole status 0 0 0 (sized_held status 0 (omega (arith, read_status bytes)) (omega arith))

-- Writing from a table: 2 with 0 where it is short, else as `write_block_call` of the block that it says.
pub write_block_whole : (table room after : List ℕ) (number : ℕ)
    → record { number = number; room = after } ≡ table_written table room
    → Whole
    (pick (leb 652 (length table)) (write_block_call (block_said table) room).status 2)
    (pick (leb 652 (length table)) (write_block_call (block_said table) room).size 0)
    0 0 number
write_block_whole table room after number promise = by (leb 652 (length table)) (ap (λ (p : TableWritten). p.number) promise)
  where
    w : BlockWritten
    w = write_block_call (block_said table) room

    by : (enough : Bool) → number ≡ (pick enough (written_packed w) (record { number = packed 2 0 0 0; room = room })).number
        → Whole (pick enough w.status 2) (pick enough w.size 0) 0 0 number
    by true e = subst (Whole w.status w.size 0 0) (sym e) (whole w.status w.size 0 0 (written_held (block_said table) room))
    by false e = subst (Whole 2 0 0 0) (sym e) (whole 2 0 0 0 (sized_held 2 0 (omega arith) (omega arith)))
