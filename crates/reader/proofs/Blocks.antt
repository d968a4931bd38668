-- The whole answer of reading a block, test by test: where it is refused, and what stands in the slots where it is not.
use mathlib.Core.Path.{◌≡◌, refl, sym, ap, ◌∙◌}
use mathlib.Core.Bool.{Bool, true, false}
use mathlib.Core.List.{List}
use Prim.Native.Nat.{ℕ, ◌+◌, ◌*◌, ◌-◌, ◌≤◌, ◌<◌}
use native.Mathlib.Omega.{arith}
use lib.Dec.{eqb}
use lib.ListN.{length, get_or, take, drop, length-drop}
use lib.Seq.{sets, take_at, drop-drop, take-append_seam}
use borrow.Author.Tests.{le-leb, lt-leb, eq-eqb, ne_eqb}
use Rattle.basics.specs.Lists.{fill}
use Rattle.basics.proofs.Lists.{sets_fill, take_rest}
use Rattle.meaning.specs.declared.Statement.{Statement}
use Rattle.meaning.specs.declared.Block.{Block as Slots}
use Rattle.meaning.specs.Numbers.{Answer, refused, done, demand, and_then, map_answer}
use Rattle.meaning.specs.Block.{Block, declared, blank}
use Rattle.meaning.specs.Format.{Rest, counts_fit, read_lengths, read_statements, nothing_left, read_body, read_block, in_memory}
use Rattle.meaning.specs.Calls.{BlockRead, block_read, read_block_call}
use Rattle.reader.specs.declared.Header.{Header}
use Rattle.reader.specs.Answers.{answer, no_lengths, no_statements, refusal, lengths_read, block_behind, counted}
use Rattle.reader.proofs.Extents.{LengthsExtent, lengths_extent, StatementsExtent, statements_extent}
use Rattle.reader.proofs.Next.{two_at}
use Rattle.reader.proofs.Counts.{arrays_within, statements_within}

-- "A refusal returns zeros beside its number"
pub refused_read : (number : ℕ) → block_read (refused number) ≡ answer (refusal number)
unfolding refusal no_lengths no_statements
refused_read number = refl

-- the slots that are not declared are zero
lengths_fill : (ls : List ℕ) → length ls ≤ 8 → sets no_lengths 0 ls ≡ fill 8 0 ls
unfolding no_lengths
lengths_fill ls h = sets_fill 8 0 ls h

statements_fill : (ss : List Statement) → length ss ≤ 64 → sets no_statements 0 ss ≡ fill 64 blank ss
unfolding no_statements
statements_fill ss h = sets_fill 64 blank ss h

-- the block as it is built, behind its header and lengths
abbrev built : Header → List ℕ → Rest (List Statement) → Answer Block
built header lengths answered =
    and_then answered λ statements.
    and_then (nothing_left statements) λ read.
    done (record { variables = header.variables; live = header.live; lengths = lengths; statements = read })

module _ (header : Header) (lengths : List ℕ) (arrays : length lengths ≡ header.arrays) (few : header.arrays ≤ 8) (fit : header.statements ≤ 64) where
  -- what is read, in its slots
  abbrev in_slots : List Statement → Slots
  in_slots ss =
      record {
        variables = header.variables;
        live = header.live;
        arrays = header.arrays;
        count = header.statements;
        lengths = sets no_lengths 0 lengths;
        statements = sets no_statements 0 ss;
      }

  in_slots_lem :
      (ss : List Statement) → length ss ≡ header.statements
      → in_memory (record { variables = header.variables; live = header.live; lengths = lengths; statements = ss }) ≡ in_slots ss
  in_slots_lem ss count = rw (lengths_fill lengths (omega arith), statements_fill ss (omega arith), arrays, count)

  left_over :
      (none : Bool) (ss : List Statement) → length ss ≡ header.statements
      → map_answer in_memory
      (and_then (demand none 4 (done ss)) λ read.
      done (record { variables = header.variables; live = header.live; lengths = lengths; statements = read }))
      ≡ demand none 4 (done (in_slots ss))
  left_over true ss count = ap done (in_slots_lem ss count)
  left_over false ss count = refl

  behind_lengths_lem :
      (answered : Rest (List Statement)) → StatementsExtent header.statements answered
      → map_answer in_memory (built header lengths answered) ≡ block_behind header (sets no_lengths 0 lengths) no_statements 0 answered
  behind_lengths_lem (refused number) extent = refl
  behind_lengths_lem (done read) extent = left_over (eqb (length read.1) 0) read.0 extent

-- the declared ones of the slots are the lengths themselves
declared_lengths : (n : ℕ) (ls : List ℕ) → length ls ≡ n → n ≤ 8 → take n (sets no_lengths 0 ls) ≡ ls
declared_lengths n ls e few = rw (lengths_fill ls (omega arith)) (take_at ls _ n e)

-- what follows the counts, by what the array lengths turn out to be
abbrev body : Header → Rest (List ℕ) → Answer Block
body header answered =
    and_then answered λ lengths. built header lengths.0 (read_statements header.statements header.variables lengths.0 lengths.1)

-- the number of a refusal
abbrev number_in : Answer (List ℕ) → ℕ
number_in (refused number) = number
number_in (done slots) = 0

lengths_refused :
    (header : Header) (number : ℕ) (answered : Rest (List ℕ)) → lengths_read no_lengths 0 answered ≡ refused number
    → map_answer in_memory (body header answered) ≡ refused number
lengths_refused header number (refused other) e = ap (λ (a : Answer (List ℕ)). refused (number_in a)) e
lengths_refused header number (done lengths) e = cc

-- the slots that were done
abbrev slots_done : Answer (List ℕ) → List ℕ
slots_done (refused number) = no_lengths
slots_done (done slots) = slots

lengths_whole :
    (header : Header) (bytes slots : List ℕ) (answered : Rest (List ℕ)) → lengths_read no_lengths 0 answered ≡ done slots
    → LengthsExtent header.arrays bytes answered → header.arrays ≤ 8 → header.statements ≤ 64
    → map_answer in_memory (body header answered)
    ≡ block_behind header slots no_statements 0
    (read_statements header.statements header.variables (take header.arrays slots) (drop (header.arrays + header.arrays) bytes))
lengths_whole header bytes slots (refused number) e extent few fit = cc
lengths_whole header bytes slots (done lengths) e extent few fit =
    let filled : slots ≡ sets no_lengths 0 lengths.0 = sym (ap slots_done e) in
    rw (filled, declared_lengths header.arrays lengths.0 extent.0 few, ← extent.1)
    (behind_lengths_lem header lengths.0 extent.0 few fit
    (read_statements header.statements header.variables lengths.0 lengths.1)
    (statements_extent header.statements header.variables lengths.0 lengths.1))

abbrev pub header_of : List ℕ → Header
header_of bytes = record { variables = get_or bytes 3 0; live = get_or bytes 4 0; arrays = get_or bytes 5 0; statements = get_or bytes 6 0 }

abbrev pub lengths_of : List ℕ → Rest (List ℕ)
lengths_of bytes = read_lengths (get_or bytes 5 0) (drop 7 bytes)

enough :
    (n : ℕ) (bytes slots : List ℕ) (answered : Rest (List ℕ)) → lengths_read no_lengths 0 answered ≡ done slots
    → LengthsExtent n bytes answered → n + n ≤ length bytes
enough n bytes slots (refused number) e extent = cc
enough n bytes slots (done lengths) e extent = extent.2

module _ (bytes : List ℕ) where
  -- the counts are within their limits
  abbrev pub counts_within : Bool
  counts_within = counts_fit (get_or bytes 3 0) (get_or bytes 4 0) (get_or bytes 5 0) (get_or bytes 6 0)

  pub few_arrays : counts_within ≡ true → get_or bytes 5 0 ≤ 8
  few_arrays fit = arrays_within (get_or bytes 3 0) (get_or bytes 4 0) (get_or bytes 5 0) (get_or bytes 6 0) fit

  pub few_statements : counts_within ≡ true → get_or bytes 6 0 ≤ 64
  few_statements fit = statements_within (get_or bytes 3 0) (get_or bytes 4 0) (get_or bytes 5 0) (get_or bytes 6 0) fit

  after_counts : (fit : Bool) → counts_within ≡ fit → counted bytes ≡ map_answer in_memory (demand fit 3 (body (header_of bytes) (lengths_of bytes)))
  after_counts fit e = ap (λ (t : Bool). map_answer in_memory (demand t 3 (body (header_of bytes) (lengths_of bytes)))) e

  pub counts_over : counts_within ≡ false → counted bytes ≡ refused 3
  counts_over e = after_counts false e

  module _ (fit : counts_within ≡ true) (n : ℕ) (said : n ≡ length bytes - 7) where
    pub lengths_stopped :
        (number : ℕ) → lengths_read no_lengths 0 (read_lengths (get_or bytes 5 0) (take n (drop 7 bytes))) ≡ refused number
        → counted bytes ≡ refused number
    lengths_stopped number e =
        after_counts true fit ∙ lengths_refused (header_of bytes) number (lengths_of bytes) (all_behind ∙ e)
      where
        all_behind : lengths_read no_lengths 0 (lengths_of bytes) ≡ lengths_read no_lengths 0 (read_lengths (get_or bytes 5 0) (take n (drop 7 bytes)))
        all_behind = rw (said, take_rest)

    module _ (slots : List ℕ) (e : lengths_read no_lengths 0 (read_lengths (get_or bytes 5 0) (take n (drop 7 bytes))) ≡ done slots) where
      all_behind : lengths_read no_lengths 0 (lengths_of bytes) ≡ done slots
      all_behind = rw (said, take_rest) at e

      pub lengths_room : 7 ≤ length bytes → 7 + (get_or bytes 5 0 + get_or bytes 5 0) ≤ length bytes
      lengths_room long =
          let room : get_or bytes 5 0 + get_or bytes 5 0 ≤ length (drop 7 bytes) =
          enough (get_or bytes 5 0) (drop 7 bytes) slots (lengths_of bytes) all_behind (lengths_extent (get_or bytes 5 0) (drop 7 bytes)) in
          omega (arith, room, length-drop 7 bytes)

      pub lengths_done :
          (start : ℕ) → start ≡ 7 + (get_or bytes 5 0 + get_or bytes 5 0)
          → counted bytes
          ≡ block_behind (header_of bytes) slots no_statements 0
          (read_statements (get_or bytes 6 0) (get_or bytes 3 0) (take (get_or bytes 5 0) slots)
          (take (length bytes - start) (drop start bytes)))
      lengths_done start is =
          after_counts true fit
          ∙ lengths_whole (header_of bytes) (drop 7 bytes) slots (lengths_of bytes) all_behind (lengths_extent (get_or bytes 5 0) (drop 7 bytes))
          (few_arrays fit) (few_statements fit)
          ∙ rw (is, take_rest, drop-drop)

  -- the tests before the counts
  pub too_short : length bytes < 7 → read_block bytes ≡ refused 2
  unfolding read_block
  too_short h = rw (lt-leb 7 (length bytes) h)

  module _ (long : 7 ≤ length bytes) where
    pub other_version_lem : (get_or bytes 0 0 ≡ 1 → ⊥) → read_block bytes ≡ refused 1
    unfolding read_block
    other_version_lem other = rw (le-leb 7 (length bytes) long, ne_eqb (get_or bytes 0 0) 1 other)

    module _ (version : get_or bytes 0 0 ≡ 1) (stated : ℕ) (said : stated ≡ get_or bytes 1 0 * 256 + get_or bytes 2 0) where
      to_length : read_block bytes ≡ demand (eqb stated (length bytes)) 2 (demand counts_within 3 (read_body bytes))
      unfolding read_block
      to_length =
          rw (
            le-leb 7 (length bytes) long,
            eq-eqb (get_or bytes 0 0) 1 version,
            two_at bytes 1 (omega arith),
            said,
          )

      pub other_length_lem : (stated ≡ length bytes → ⊥) → read_block bytes ≡ refused 2
      other_length_lem other =
          to_length ∙ ap (λ (t : Bool). demand t 2 (demand counts_within 3 (read_body bytes))) (ne_eqb stated (length bytes) other)

      pub length_as_stated : stated ≡ length bytes → map_answer in_memory (read_block bytes) ≡ counted bytes
      length_as_stated same =
          ap (map_answer in_memory) (to_length ∙ ap (λ (t : Bool). demand t 2 (demand counts_within 3 (read_body bytes))) (eq-eqb stated (length bytes) same))

-- what stands in memory declares what was read
declared_done : (a : Answer Block) → map_answer declared (map_answer in_memory a) ≡ a
declared_done (refused number) = refl
declared_done (done b) = rw (take-append_seam b.lengths, take-append_seam b.statements)

pub declares_read : (bytes : List ℕ) (a : Answer Slots) → a ≡ map_answer in_memory (read_block bytes) → map_answer declared a ≡ read_block bytes
declares_read bytes a e = ap (map_answer declared) e ∙ declared_done (read_block bytes)

-- what the call returns of a block in its slots
abbrev call_of : Answer Slots → BlockRead
call_of (refused number) = block_read (refused number)
call_of (done slots) = record { status = 0; block = slots }

-- the call, by what was parsed
pub read_whole :
    (bytes : List ℕ) (slots : Slots) → done slots ≡ map_answer in_memory (read_block bytes)
    → ◌≡◌ {A = BlockRead} (record { status = 0; block = slots }) (read_block_call bytes)
unfolding read_block_call
read_whole bytes slots e = by (read_block bytes) e
  where
    by :
        (a : Answer Block) → done slots ≡ map_answer in_memory a
        → ◌≡◌ {A = BlockRead} (record { status = 0; block = slots }) (block_read a)
    by (refused number) same = cc
    by (done b) same = ap call_of same

pub read_refused :
    (bytes : List ℕ) (number : ℕ) → refused number ≡ map_answer in_memory (read_block bytes) → answer (refusal number) ≡ read_block_call bytes
unfolding read_block_call
read_refused bytes number e = by (read_block bytes) e
  where
    by : (a : Answer Block) → refused number ≡ map_answer in_memory a → answer (refusal number) ≡ block_read a
    by (refused other) same = sym (refused_read number) ∙ ap call_of same
    by (done b) same = cc
