-- What is said of a list's bytes is what a reader expects of the list: for all bytes that read as a list, and so for the list that is made
-- of a block.
use mathlib.Core.Path.{◌≡◌, refl, sym, ap, subst, ◌∙◌}
use mathlib.Core.Bool.{Bool, true, false}
use mathlib.Core.Option.{Option, none, some}
use mathlib.Core.List.{List, [], ◌++◌, map}
use Prim.Native.Nat.{ℕ, zero, suc}
use native.Mathlib.Omega.{arith}
use lib.Dec.{leb}
use lib.ListN.{length, get_or, drop}
use lib.Seq.{take-append_seam}
use Rattle.basics.specs.Choice.{pick}
use Rattle.basics.specs.Lists.{all, flat}
use Rattle.meaning.specs.declared.Statement.{Statement}
use Rattle.meaning.specs.Numbers.{Answer, done}
use Rattle.meaning.specs.Block.{Block}
use Rattle.meaning.specs.Format.{read_block}
use Rattle.meaning.specs.List.{Instruction, list_bytes, read_records, read_list}
use Rattle.meaning.specs.Choice.{chosen_list}
use Rattle.meaning.specs.Calls.{ListMade, list_made, make_list_call}
use Rattle.theorems.proofs.Bytes.{is_byte}
use Rattle.theorems.proofs.Readable.{done_readable, done_fits}
use Rattle.theorems.proofs.Lawful.{lawful_back}
use Rattle.theorems.proofs.Chosen.{chosen_lawful}
use Rattle.theorems.proofs.ScheduleRuns.{units_of_lem}
use Rattle.theorems.proofs.Demand.{left_in}
use Rattle.instructions.specs.Next.{instruction_at, end_at, behind}
use Rattle.instructions.proofs.Places.{records_at, records_end}
use Rattle.lists.specs.Whole.{header_fits}
use Rattle.lists.proofs.Header.{header_read, header_broken}
use Rattle.text.specs.Text.{no_line}
use Rattle.account_list.specs.Instructions.{instruction_line, instruction_lines}
use Rattle.account_list.specs.Shown.{line_meant, lines_from, list_text}
use Rattle.account_list.proofs.Records.{lines_more, lines_end, none_listed, some_listed}

module _ (ss : List Statement) where
  -- a text has the lines of what was read
  abbrev Lines : List ℕ → Option (List Instruction) → Type 0
  Lines text none = Unit
  Lines text (some list) = text ≡ flat (map (instruction_line ss) list)

  abbrev Section : List ℕ → Option (List Instruction) → Type 0
  Section text none = Unit
  Section text (some list) = text ≡ instruction_lines ss list

  one_line : (read : Option Instruction) (rest : Option (List Instruction)) (text : List ℕ) → Lines text rest → Lines (line_meant ss read ++ text) (behind read rest)
  one_line none rest text h = tt
  one_line (some i) none text h = tt
  one_line (some i) (some list) text h = ap (λ (t : List ℕ). instruction_line ss i ++ t) h

  lines_section : (read : Option Instruction) (rest : Option (List Instruction)) (text : List ℕ) → Lines text (behind read rest) → Section text (behind read rest)
  unfolding instruction_lines
  lines_section none rest text h = tt
  lines_section (some i) none text h = tt
  lines_section (some i) (some list) text h = h

  module _ (bytes : List ℕ) where
    -- the records from a place on
    lines_told : (n start : ℕ) → Lines (lines_from ss bytes n start) (read_records n (drop start bytes))
    lines_told zero start = rw (records_end bytes start, lines_end ss bytes start) (by (leb (length bytes) start))
      where
        by : (test : Bool) → Lines [] (pick test (some []) none)
        by true = refl
        by false = tt
    lines_told (suc n) start =
        rw (records_at bytes start n, lines_more ss bytes n start)
        (one_line (instruction_at bytes start) (read_records n (drop (end_at bytes start) bytes)) (lines_from ss bytes n (end_at bytes start)) (lines_told n (end_at bytes start)))

    -- and all of them
    section_told : (count : ℕ) → count ≡ get_or bytes 3 0 → Section (list_text ss bytes) (read_records count (drop 4 bytes))
    unfolding instruction_lines
    section_told zero e = rw (records_end bytes 4, ← none_listed ss bytes 0 e refl) (by (leb (length bytes) 4))
      where
        by : (test : Bool) → Section no_line (pick test (some []) none)
        by true = refl
        by false = tt
    section_told (suc n) e =
        let lines = subst (Lines (lines_from ss bytes (suc n) 4)) (records_at bytes 4 n) (lines_told (suc n) 4) in
        let some-records : suc n ≡ 0 → ⊥ = λ (z : suc n ≡ 0). omega arith in
        rw (records_at bytes 4 n, ← some_listed ss bytes (suc n) e some-records)
        (lines_section (instruction_at bytes 4) (read_records n (drop (end_at bytes 4) bytes)) (lines_from ss bytes (suc n) 4) lines)

  -- Bytes that read as a list are said as its instructions, each with its price.
  pub list_said : (bytes : List ℕ) (list : List Instruction) → read_list bytes ≡ some list → list_text ss bytes ≡ instruction_lines ss list
  list_said bytes list e = subst (Section (list_text ss bytes)) (by (header_fits bytes) refl) (section_told bytes (get_or bytes 3 0) refl)
    where
      by : (fits : Bool) → header_fits bytes ≡ fits → read_records (get_or bytes 3 0) (drop 4 bytes) ≡ some list
      by true h = sym (header_read bytes h) ∙ e
      by false h = absurd (let broken = sym (header_broken bytes h) ∙ e in let z : ◌≡◌ {A = ℕ} 0 1 = cc in omega arith)

-- The bytes of the list that the rules choose for a block that reads are said as that list, beside the block's statements.
pub chosen_said :
    (bytes : List ℕ) (b : Block) → all is_byte bytes ≡ true → read_block bytes ≡ done b
    → list_text b.statements (list_bytes (chosen_list b)) ≡ instruction_lines b.statements (chosen_list b)
chosen_said bytes b are e =
    let lawful = chosen_lawful b (done_readable bytes b e) (done_fits bytes b are e) (units_of_lem b.statements) in
    list_said b.statements (list_bytes (chosen_list b)) (chosen_list b) (lawful_back b (chosen_list b) lawful)

-- what making a list leaves in the room, where it is done
left_made : (bytes room : List ℕ) (b : Block) → read_block bytes ≡ done b → (make_list_call bytes room).status ≡ 0 → left_in (make_list_call bytes room) ≡ list_bytes (chosen_list b)
unfolding make_list_call
left_made bytes room b e made =
    ap (λ (answer : Answer Block). left_in (list_made room answer)) e
    ∙ by (leb (length (list_bytes (chosen_list b))) (length room)) _ _ (take-append_seam (list_bytes (chosen_list b)) _) refl
    (sym (ap (λ (answer : Answer Block). (list_made room answer).status) e) ∙ made)
  where
    by : (test : Bool) (fits short : ListMade) → left_in fits ≡ list_bytes (chosen_list b) → short.status ≡ 7
        → (pick test fits short).status ≡ 0 → left_in (pick test fits short) ≡ list_bytes (chosen_list b)
    by true fits short left seven status = left
    by false fits short left seven status = absurd (omega (arith, seven))

-- So are the bytes that making the list leaves in the room, for every block that reads and every room that the list fits in.
pub made_said :
    (bytes room : List ℕ) (b : Block) → all is_byte bytes ≡ true → read_block bytes ≡ done b → (make_list_call bytes room).status ≡ 0
    → list_text b.statements (left_in (make_list_call bytes room)) ≡ instruction_lines b.statements (chosen_list b)
made_said bytes room b are e made = ap (list_text b.statements) (left_made bytes room b e made) ∙ chosen_said bytes b are e
