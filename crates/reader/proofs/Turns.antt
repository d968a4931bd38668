-- What remains of each loop, turn by turn: the array lengths and the statements go into their slots from the front.
use Rattle.std.specs.Prelude.{Option, Some, None}
use mathlib.Core.Path.{◌≡◌, refl, sym, ap, ◌∙◌}
use mathlib.Core.Bool.{Bool, true, false}
use mathlib.Core.List.{List, [], ◌∷◌}
use Prim.Native.Nat.{ℕ, suc, ◌+◌, ◌*◌, ◌-◌, ◌≤◌, ◌<◌}
use native.Mathlib.Numerals.{add-one}
use native.Mathlib.Omega.{arith}
use lib.Dec.{leb}
use lib.ListN.{length, take, drop, set, length-drop, drop_of_length-le}
use borrow.Author.Tests.{ne_eqb}
use lib.Seq.{drop-drop}
use Rattle.basics.proofs.Counting.{more, none_left}
use Rattle.meaning.specs.declared.Statement.{Statement}
use Rattle.meaning.specs.declared.Block.{Block as Slots}
use Rattle.meaning.specs.Numbers.{Answer, refused, done, demand}
use Rattle.meaning.specs.Block.{declares_statement}
use Rattle.meaning.specs.Format.{Rest, number, length_fits, in_front, read_record, read_lengths, read_statements}
use Rattle.reader.specs.declared.Header.{Header}
use Rattle.reader.specs.Answers.{lengths_read, block_behind}
use Rattle.reader.specs.Next.{next_length, record_next, next_statement}

-- The array lengths.

slot_length : (slots : List ℕ) (i x : ℕ) (rest : Rest (List ℕ)) → lengths_read slots i (in_front x rest) ≡ lengths_read (set slots i x) (i + 1) rest
slot_length slots i x (refused number) = refl
slot_length slots i x (done read) = rw add-one

-- the place of a length, as the code says it
pub twice : (i : ℕ) (bytes : List ℕ) (read : Answer ℕ) → read ≡ next_length (drop (2 * i) bytes) → read ≡ next_length (drop (i + i) bytes)
twice i bytes read e =
    let same : 2 * i ≡ i + i = omega arith in
    e ∙ rw same

-- what one turn makes of what remains
abbrev after_length : List ℕ → ℕ → Rest (List ℕ) → Answer ℕ → Answer (List ℕ)
after_length slots i rest (refused number) = refused number
after_length slots i rest (done x) = lengths_read (set slots i x) (i + 1) rest

length_turn :
    (a b : Bool) (slots : List ℕ) (i x : ℕ) (rest : Rest (List ℕ))
    → lengths_read slots i (elim a [ false ↦ refused 4 | true ↦ elim b [ false ↦ refused 3 | true ↦ in_front x rest ] ])
    ≡ after_length slots i rest (demand a 4 (demand b 3 (done x)))
length_turn true true slots i x rest = slot_length slots i x rest
length_turn true false slots i x rest = refl
length_turn false b slots i x rest = refl

lengths_step :
    (slots : List ℕ) (i n : ℕ) (bytes : List ℕ)
    → lengths_read slots i (read_lengths (suc n) bytes) ≡ after_length slots i (read_lengths n (drop 2 bytes)) (next_length bytes)
unfolding read_lengths next_length
lengths_step slots i n bytes =
    length_turn (leb 2 (length bytes)) (length_fits (number (take 2 bytes))) slots i (number (take 2 bytes)) (read_lengths n (drop 2 bytes))

module _ (bytes slots : List ℕ) (n i : ℕ) where
  pub lengths_end : n ≤ i → lengths_read slots i (read_lengths (n - i) (drop (i + i) bytes)) ≡ done slots
  unfolding read_lengths
  lengths_end h = rw (none_left n i h)

  pub lengths_stop :
      (number : ℕ) → i < n → next_length (drop (i + i) bytes) ≡ refused number
      → lengths_read slots i (read_lengths (n - i) (drop (i + i) bytes)) ≡ refused number
  lengths_stop number h e = rw (more n i h) (lengths_step slots i (n - (i + 1)) (drop (i + i) bytes) ∙ rw e)

  pub lengths_more :
      (x : ℕ) → i < n → next_length (drop (i + i) bytes) ≡ done x
      → lengths_read slots i (read_lengths (n - i) (drop (i + i) bytes))
      ≡ lengths_read (set slots i x) (i + 1) (read_lengths (n - (i + 1)) (drop (i + 1 + (i + 1)) bytes))
  lengths_more x h e =
      let two : i + i + 2 ≡ i + 1 + (i + 1) = omega arith in
      rw (more n i h) (lengths_step slots i (n - (i + 1)) (drop (i + i) bytes) ∙ rw (e, drop-drop, two))

-- The statements.

-- the bytes behind a record that starts at a place
behind : (bytes : List ℕ) (start size : ℕ) (front : List ℕ) → drop start bytes ≡ size ∷ front → drop (start + 1 + size) bytes ≡ drop size front
behind bytes start size front e =
    let further : start + 1 + size ≡ start + suc size = omega arith in
    rw (further, ← drop-drop (suc size) start bytes, e)

module _ (header : Header) (lengths : List ℕ) where
  slot_statement :
      (slots : List Statement) (i : ℕ) (s : Statement) (rest : Rest (List Statement))
      → block_behind header lengths slots i (in_front s rest) ≡ block_behind header lengths (set slots i s) (i + 1) rest
  slot_statement slots i s (refused number) = refl
  slot_statement slots i s (done read) = rw add-one

  -- what one turn makes of what remains
  abbrev after_statement : List Statement → ℕ → (ℕ → Rest (List Statement)) → Answer (Statement × ℕ) → Answer Slots
  after_statement slots i rest (refused number) = refused number
  after_statement slots i rest (done read) = block_behind header lengths (set slots i read.0) (i + 1) (rest read.1)

  declared_turn :
      (a : Bool) (slots : List Statement) (i : ℕ) (s : Statement) (next : ℕ) (rest : ℕ → Rest (List Statement)) (tail : Rest (List Statement))
      → tail ≡ rest next
      → block_behind header lengths slots i (elim a [ false ↦ refused 5 | true ↦ in_front s tail ])
      ≡ after_statement slots i rest (demand a 5 (done (s, next)))
  declared_turn true slots i s next rest tail e =
      slot_statement slots i s tail ∙ ap (block_behind header lengths (set slots i s) (i + 1)) e
  declared_turn false slots i s next rest tail e = refl

  statement_turn :
      (a : Bool) (variables : ℕ) (sizes : List ℕ) (found : Option Statement) (slots : List Statement) (i next : ℕ)
      (rest : ℕ → Rest (List Statement)) (tail : Rest (List Statement))
      → tail ≡ rest next
      → block_behind header lengths slots i
      (elim a [
        | false ↦ refused 4
        | true ↦
            elim found [
              | None ↦ refused 4
              | Some s ↦ elim (declares_statement variables sizes s) [ false ↦ refused 5 | true ↦ in_front s tail ]
            ]
      ])
      ≡ after_statement slots i rest (demand a 4 (record_next variables sizes next found))
  statement_turn true variables sizes None slots i next rest tail e = refl
  statement_turn true variables sizes (Some s) slots i next rest tail e =
      declared_turn (declares_statement variables sizes s) slots i s next rest tail e
  statement_turn false variables sizes found slots i next rest tail e = refl

  statements_step :
      (variables : ℕ) (sizes : List ℕ) (slots : List Statement) (i n start : ℕ) (bytes front : List ℕ) → drop start bytes ≡ front
      → block_behind header lengths slots i (read_statements (suc n) variables sizes front)
      ≡ after_statement slots i (λ next. read_statements n variables sizes (drop next bytes)) (next_statement variables sizes start front)
  unfolding read_statements next_statement
  statements_step variables sizes slots i n start bytes [] e = refl
  statements_step variables sizes slots i n start bytes (size ∷ front) e =
      statement_turn (leb size (length front)) variables sizes (read_record (take size front)) slots i (start + 1 + size)
      (λ next. read_statements n variables sizes (drop next bytes)) (read_statements n variables sizes (drop size front))
      (ap (read_statements n variables sizes) (sym (behind bytes start size front e)))

  module _ (variables : ℕ) (sizes bytes : List ℕ) (slots : List Statement) (n i start : ℕ) where
    pub statements_stop :
        (number : ℕ) → i < n → next_statement variables sizes start (drop start bytes) ≡ refused number
        → block_behind header lengths slots i (read_statements (n - i) variables sizes (drop start bytes)) ≡ refused number
    statements_stop number h e =
        rw (more n i h) (statements_step variables sizes slots i (n - (i + 1)) start bytes (drop start bytes) refl ∙ rw e)

    pub statements_more :
        (s : Statement) (next : ℕ) → i < n → next_statement variables sizes start (drop start bytes) ≡ done (s, next)
        → block_behind header lengths slots i (read_statements (n - i) variables sizes (drop start bytes))
        ≡ block_behind header lengths (set slots i s) (i + 1) (read_statements (n - (i + 1)) variables sizes (drop next bytes))
    statements_more s next h e =
        rw (more n i h) (statements_step variables sizes slots i (n - (i + 1)) start bytes (drop start bytes) refl ∙ rw e)

    pub bytes_left :
        n ≤ i → start < length bytes
        → block_behind header lengths slots i (read_statements (n - i) variables sizes (drop start bytes)) ≡ refused 4
    unfolding read_statements
    bytes_left h left =
        rw (none_left n i h, ne_eqb (length (drop start bytes)) 0 (λ e. absurd (omega (arith, e, length-drop start bytes))))

    pub statements_end :
        n ≤ i → length bytes ≤ start
        → block_behind header lengths slots i (read_statements (n - i) variables sizes (drop start bytes)) ≡ block_behind header lengths slots i (done ([], []))
    unfolding read_statements
    statements_end h past = rw (none_left n i h, drop_of_length-le bytes past)
