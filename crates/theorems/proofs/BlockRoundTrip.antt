-- A block and its bytes: what is read is written as it was read, and what is written is read as it was written, over the definitions and
-- over the calls.
use Rattle.std.specs.Prelude.{Some}
use mathlib.Core.Path.{◌≡◌, refl, sym, ap, ap₂, subst, ◌∙◌}
use mathlib.Core.Bool.{Bool, true, false, ◌&&◌}
use mathlib.Core.List.{List, [], ◌∷◌, ◌++◌, map, append_assoc, append-nil}
use Prim.Native.Nat.{ℕ, suc, ◌+◌, ◌≤◌}
use native.Mathlib.Omega.{arith}
use lib.Dec.{leb, eqb}
use lib.ListN.{length, take, drop, length-append, length-take}
use lib.Seq.{take_at, drop_at, take-append_seam}
use borrow.Author.Tests.{le-leb, eq-eqb}
use Rattle.basics.specs.Choice.{pick}
use Rattle.basics.specs.Lists.{all, flat}
use Rattle.basics.proofs.Tests.{and_left, and_right, and_both}
use Rattle.basics.proofs.Parts.{all_first, all_others, flat_length}
use Rattle.meaning.specs.declared.Statement.{Statement}
use Rattle.meaning.specs.declared.Block.{Block as Slots}
use Rattle.meaning.specs.Numbers.{Answer, refused, done, demand}
use Rattle.meaning.specs.Block.{Block, declared, declares_statement}
use Rattle.meaning.specs.Format.{number, bytes_of, counts_fit, length_fits, well_formed, statement_bytes, statement_width, read_record, in_front, read_lengths, read_statements, read_block, in_memory, record_bytes, body_bytes, block_bytes, write_block}
use Rattle.meaning.specs.Calls.{in_room, BlockWritten, block_read, block_written, read_block_call, write_block_call}
use Rattle.meaning.proofs.Lengths.{statement_length}
use Rattle.meaning.proofs.Bounds.{statement_width_lem}
use Rattle.theorems.proofs.Bytes.{is_byte, number_bytes_fits}
use Rattle.theorems.proofs.Header.{header_stated}
use Rattle.theorems.proofs.Reading.{ReaderNumber, Reads, demand_reads, read_lengths_more, read_statements_more}
use Rattle.theorems.proofs.Records.{constants_fit, record_read}
use Rattle.theorems.proofs.Readable.{Readable, Counts, counts_fit_lem, length_fits_lem, refused_number, done_readable, done_written, declared_in_memory}

-- a demand that is met
demand_met : {A : Type 0} (test : Bool) (n : ℕ) (following : Answer A) → test ≡ true → demand test n following ≡ following
demand_met test n following e = ap (λ (t : Bool). demand t n following) e

-- the lengths are read back
lengths_back : (ls rest : List ℕ) → all length_fits ls ≡ true → read_lengths (length ls) (flat (map (bytes_of 2) ls) ++ rest) ≡ done (ls, rest)
unfolding read_lengths
lengths_back [] rest fit = refl
lengths_back (l ∷ ls) rest fit =
    let behind = flat (map (bytes_of 2) ls) ++ rest in
    let fits = all_first length_fits l ls fit in
    let is : number (bytes_of 2 l) ≡ l = number_bytes_fits 2 l (omega (arith, length_fits_lem l fits)) in
    read_lengths_more (length ls) (bytes_of 2 l ++ behind)
    ∙ demand_met (leb 2 (suc (suc (length behind)))) 4 _ (le-leb 2 (suc (suc (length behind))) (omega arith))
    ∙ demand_met (length_fits (number (bytes_of 2 l))) 3 _ (ap length_fits is ∙ fits)
    ∙ ap₂ in_front is (lengths_back ls rest (all_others length_fits l ls fit))

-- the statements are read back, one after the other
found_back : (s : Statement) (behind : List ℕ) → well_formed s ≡ true → constants_fit s ≡ true
    → read_record (take (statement_width s) (statement_bytes s ++ behind)) ≡ Some s
found_back s behind formed fit = ap read_record (take_at (statement_bytes s) behind (statement_width s) (statement_length s)) ∙ record_read s formed fit

enough_behind : (s : Statement) (behind : List ℕ) → leb (statement_width s) (length (statement_bytes s ++ behind)) ≡ true
enough_behind s behind =
    le-leb (statement_width s) (length (statement_bytes s ++ behind)) (omega (arith, length-append (statement_bytes s) behind, statement_length s))

module _ (variables : ℕ) (lengths : List ℕ) where
  record_back : (n : ℕ) (s : Statement) (behind : List ℕ)
      → well_formed s ≡ true → constants_fit s ≡ true → declares_statement variables lengths s ≡ true
      → read_statements (suc n) variables lengths (record_bytes s ++ behind) ≡ in_front s (read_statements n variables lengths behind)
  record_back n s behind formed fit names =
      read_statements_more n variables lengths (statement_width s) (statement_bytes s ++ behind)
      ∙ demand_met (leb (statement_width s) (length (statement_bytes s ++ behind))) 4 _ (enough_behind s behind)
      ∙ rw (found_back s behind formed fit, drop_at (statement_bytes s) behind (statement_width s) (statement_length s))
      (demand_met (declares_statement variables lengths s) 5 _ names)

  statements_back : (ss : List Statement) (rest : List ℕ)
      → all well_formed ss ≡ true → all constants_fit ss ≡ true → all (declares_statement variables lengths) ss ≡ true
      → read_statements (length ss) variables lengths (flat (map record_bytes ss) ++ rest) ≡ done (ss, rest)
  unfolding read_statements
  statements_back [] rest formed fit names = refl
  statements_back (s ∷ ss) rest formed fit names =
      let declares = declares_statement variables lengths in
      let others = statements_back ss rest (all_others well_formed s ss formed) (all_others constants_fit s ss fit) (all_others declares s ss names) in
      let behind = flat (map record_bytes ss) in
      ap (read_statements (suc (length ss)) variables lengths) (append_assoc (record_bytes s) behind rest)
      ∙ record_back (length ss) s (behind ++ rest) (all_first well_formed s ss formed) (all_first constants_fit s ss fit) (all_first declares s ss names)
      ∙ ap (in_front s) others

-- the body is short
record_length : (s : Statement) → length (record_bytes s) ≤ 15
record_length s = omega (arith, statement_length s, statement_width_lem s)

body_length : (b : Block) → Readable b → length (body_bytes b) ≤ 980
body_length b h =
    omega (
      arith,
      length-append (flat (map (bytes_of 2) b.lengths)) (flat (map record_bytes b.statements)),
      h.arrays,
      h.count,
      flat_length (bytes_of 2) 2 (λ l. omega arith) b.lengths,
      flat_length record_bytes 15 record_length b.statements,
    )

-- all tests of the reader are met
counts_met : (variables live arrays count : ℕ) → Counts variables live arrays count → counts_fit variables live arrays count ≡ true
counts_met variables live arrays count c =
    and_both _ _
    (and_both _ _ (and_both _ _ (le-leb variables 32 c.variables) (le-leb live variables c.live)) (le-leb arrays 8 c.arrays))
    (le-leb count 64 c.count)

readable_counts : (b : Block) → Readable b → Counts b.variables b.live (length b.lengths) (length b.statements)
readable_counts b h = record { variables = h.variables; live = h.live; arrays = h.arrays; count = h.count }

all_statements_back : (b : Block) → Readable b → all constants_fit b.statements ≡ true
    → read_statements (length b.statements) b.variables b.lengths (flat (map record_bytes b.statements)) ≡ done (b.statements, [])
all_statements_back b h fit =
    ap (read_statements (length b.statements) b.variables b.lengths) (sym (append-nil (flat (map record_bytes b.statements))))
    ∙ statements_back b.variables b.lengths b.statements [] h.formed fit h.declares

-- A block within all limits is read back from its bytes.
pub block_back : (b : Block) → Readable b → all constants_fit b.statements ≡ true → read_block (block_bytes b) ≡ done b
unfolding read_block block_bytes
block_back b h fit =
    let size = suc (suc (suc (length (body_bytes b)))) in
    let stated = number (bytes_of 2 (3 + length (body_bytes b))) in
    demand_met (leb 7 size) 2 _ (le-leb 7 size (omega arith))
    ∙ demand_met (eqb stated size) 2 _ (eq-eqb stated size (header_stated (length (body_bytes b)) (omega (arith, body_length b h))))
    ∙ demand_met (counts_fit b.variables b.live (length b.lengths) (length b.statements)) 3 _ (counts_met _ _ _ _ (readable_counts b h))
    ∙ rw (lengths_back b.lengths (flat (map record_bytes b.statements)) h.lengths, all_statements_back b h fit)

-- what writing comes to: a block in memory that declares one within all limits is written as that block's bytes
pub record Written (slots : Slots) (bytes : List ℕ) : Type 0 where
  pub readable : Readable (declared slots)
  pub bytes_are : bytes ≡ block_bytes (declared slots)

write_outcome : (slots : Slots) → Reads (Written slots) (write_block slots)
unfolding write_block
write_outcome slots =
    let counts = counts_fit slots.variables slots.live slots.arrays slots.count in
    demand_reads (Written slots) (counts && all length_fits (declared slots).lengths) 3 _ (omega arith) λ threes.
    demand_reads (Written slots) (all well_formed (declared slots).statements) 4 _ (omega arith) λ fours.
    demand_reads (Written slots) (all (declares_statement slots.variables (declared slots).lengths) (declared slots).statements) 5 _ (omega arith) λ fives.
    let c = counts_fit_lem slots.variables slots.live slots.arrays slots.count (and_left _ _ threes) in
    record {
      readable =
          record {
            variables = c.variables;
            live = c.live;
            arrays = omega (arith, c.arrays, length-take slots.arrays slots.lengths);
            lengths = and_right counts _ threes;
            count = omega (arith, c.count, length-take slots.count slots.statements);
            formed = fours;
            declares = fives;
          };
      bytes_are = refl;
    }

writes_readable : (slots : Slots) → slots.arrays ≡ length (declared slots).lengths → slots.count ≡ length (declared slots).statements
    → Readable (declared slots) → write_block slots ≡ done (block_bytes (declared slots))
unfolding write_block
writes_readable slots arrays count h =
    demand_met (counts_fit slots.variables slots.live slots.arrays slots.count && all length_fits (declared slots).lengths) 3 _
    (and_both _ _ (counts_met slots.variables slots.live slots.arrays slots.count (rw (arrays, count) (readable_counts (declared slots) h))) h.lengths)
    ∙ demand_met (all well_formed (declared slots).statements) 4 _ h.formed
    ∙ demand_met (all (declares_statement slots.variables (declared slots).lengths) (declared slots).statements) 5 _ h.declares

-- what is written, by whether the room is large enough
abbrev block_written_by : Bool → List ℕ → List ℕ → BlockWritten
block_written_by fits bytes room =
    pick fits (record { status = 0; size = length bytes; room = in_room bytes room }) (record { status = 7; size = length bytes; room = room })

in_room_lem : (bytes room : List ℕ) → length bytes ≤ length room → block_written room (done bytes) ≡ record { status = 0; size = length bytes; room = bytes ++ drop (length bytes) room }
in_room_lem bytes room enough = rw (le-leb (length bytes) (length room) enough)

-- a block in memory is read back the same in all that it declares
pub record ReadBack (slots : Slots) (bytes : List ℕ) : Type 0 where
  pub status : (read_block_call bytes).status ≡ 0
  pub same : declared (read_block_call bytes).block ≡ declared slots

read_back : (slots : Slots) (bytes : List ℕ) → read_block bytes ≡ done (declared slots) → ReadBack slots bytes
unfolding read_block_call
read_back slots bytes e =
    record {
      status = ap (λ (answer : Answer Block). (block_read answer).status) e;
      same = ap (λ (answer : Answer Block). declared (block_read answer).block) e ∙ declared_in_memory (declared slots);
    }

-- A block within the limits has at most 983 bytes, so its length fits the two bytes that state it.
pub block_length : (b : Block) → Readable b → length (block_bytes b) ≤ 983
unfolding block_bytes
block_length b h = omega (arith, body_length b h)

-- A refusal of the writer is not 0, and what it writes are the bytes of a block within the limits.
pub writer_refused : (slots : Slots) (n : ℕ) → write_block slots ≡ refused n → ReaderNumber n
writer_refused slots n e = subst (Reads (Written slots)) e (write_outcome slots)

pub writer_done : (slots : Slots) (bytes : List ℕ) → write_block slots ≡ done bytes → Written slots bytes
writer_done slots bytes e = subst (Reads (Written slots)) e (write_outcome slots)

-- A block that reads, put into memory and written, gives the bytes from which it was read.
pub read_then_written : (bytes : List ℕ) (b : Block) → all is_byte bytes ≡ true → read_block bytes ≡ done b → write_block (in_memory b) ≡ done bytes
read_then_written bytes b are e =
    let same = declared_in_memory b in
    writes_readable (in_memory b) (ap (λ (x : Block). length x.lengths) (sym same)) (ap (λ (x : Block). length x.statements) (sym same))
    (rw same (done_readable bytes b e))
    ∙ ap done (ap block_bytes same ∙ done_written bytes b are e)

-- What is written of a block in memory is read as the block that it declares. Of the numbers' ranges only that of the constants is needed.
pub written_then_read : (slots : Slots) (bytes : List ℕ) → all constants_fit (declared slots).statements ≡ true
    → write_block slots ≡ done bytes → read_block bytes ≡ done (declared slots)
written_then_read slots bytes fit e =
    let written = writer_done slots bytes e in
    ap read_block written.bytes_are ∙ block_back (declared slots) written.readable fit

-- Over the calls: a block that was read is written as it was, where the room is large enough, and the room behind it keeps its contents.
pub read_then_write : (bytes room : List ℕ) → all is_byte bytes ≡ true → (read_block_call bytes).status ≡ 0 → length bytes ≤ length room
    → write_block_call (read_block_call bytes).block room ≡ record { status = 0; size = length bytes; room = bytes ++ drop (length bytes) room }
unfolding read_block_call write_block_call
read_then_write bytes room are status enough = by (read_block bytes) refl status
  where
    by : (answer : Answer Block) → read_block bytes ≡ answer → (block_read answer).status ≡ 0
        → block_written room (write_block (block_read answer).block) ≡ record { status = 0; size = length bytes; room = bytes ++ drop (length bytes) room }
    by (refused n) e zero-status = absurd (omega (arith, refused_number bytes n e))
    by (done b) e zero-status =
        ap (block_written room) (read_then_written bytes b are e) ∙ in_room_lem bytes room enough

-- And a block in memory that was written is read back the same in all that it declares.
pub write_then_read : (slots : Slots) (room : List ℕ) → all constants_fit (declared slots).statements ≡ true → (write_block_call slots room).status ≡ 0
    → ReadBack slots (take (write_block_call slots room).size (write_block_call slots room).room)
unfolding write_block_call
write_then_read slots room fit status = by (write_block slots) refl status
  where
    by_room : (bytes : List ℕ) → ReadBack slots bytes → (fits : Bool) → (block_written_by fits bytes room).status ≡ 0
        → ReadBack slots (take (block_written_by fits bytes room).size (block_written_by fits bytes room).room)
    by_room bytes back true zero-status = rw (take-append_seam bytes) back
    by_room bytes back false zero-status = absurd (omega arith)

    by : (answer : Answer (List ℕ)) → write_block slots ≡ answer → (block_written room answer).status ≡ 0
        → ReadBack slots (take (block_written room answer).size (block_written room answer).room)
    by (refused n) e zero-status = absurd (omega (arith, writer_refused slots n e))
    by (done bytes) e zero-status =
        by_room bytes (read_back slots bytes (written_then_read slots bytes fit e)) (leb (length bytes) (length room)) zero-status
