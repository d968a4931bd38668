-- What reading a block answers: a refusal has one of the numbers 1 to 5, and a block that reads keeps every limit of "The block".
use mathlib.Core.Path.{◌≡◌, refl, sym, ap, ap₂, subst, ◌∙◌}
use mathlib.Core.Bool.{true, ◌&&◌}
use mathlib.Core.List.{List, [], ◌∷◌, ◌++◌, map, append_assoc, append-nil}
use Prim.Native.Nat.{ℕ, zero, suc, ◌≤◌, ◌<◌}
use native.Mathlib.Omega.{arith}
use lib.Dec.{eqb, leb}
use lib.ListN.{length, get_or, take, drop, length-drop, take-append-drop}
use lib.Seq.{length-take-le, take-append_seam, drop-drop, get_or-drop}
use borrow.Author.Tests.{leb-true, eqb-true}
use Rattle.basics.specs.Lists.{all, flat}
use Rattle.basics.proofs.Tests.{and_left, and_right, and_both}
use Rattle.basics.proofs.Parts.{all_at, all_others, all_take, all_drop, all_behind, no_elements, spelled_front}
use Rattle.meaning.specs.declared.Statement.{Statement}
use Rattle.meaning.specs.Numbers.{refused, done}
use Rattle.meaning.specs.Block.{Block, declared, declares_statement}
use Rattle.meaning.specs.Format.{number, bytes_of, counts_fit, length_fits, well_formed, statement_bytes, read_record, read_lengths, read_statements, nothing_left, read_block, in_memory, record_bytes, body_bytes, block_bytes}
use Rattle.theorems.proofs.Bytes.{is_byte}
use Rattle.theorems.proofs.Header.{two_bytes, header_written}
use Rattle.theorems.proofs.Reading.{ReaderNumber, Reads, demand_reads, then_reads, front_reads, read_lengths_more, said, read_statements_more}
use Rattle.theorems.proofs.Records.{constants_fit, Said, record_said}

-- what the array lengths come to
record Lengths (n : ℕ) (bytes : List ℕ) (read : List ℕ × List ℕ) : Type 0 where
  counted : length read.0 ≡ n
  fit : all length_fits read.0 ≡ true
  written : all is_byte bytes ≡ true → flat (map (bytes_of 2) read.0) ++ read.1 ≡ bytes

lengths_read_lem : (n : ℕ) (bytes : List ℕ) → Reads (Lengths n bytes) (read_lengths n bytes)
unfolding read_lengths
lengths_read_lem zero bytes = record { counted = refl; fit = refl; written = λ are. refl }
lengths_read_lem (suc n) bytes =
    rw read_lengths_more
    (demand_reads (Lengths (suc n) bytes) (leb 2 (length bytes)) 4 _ (omega arith) λ enough.
    demand_reads (Lengths (suc n) bytes) (length_fits (number (take 2 bytes))) 3 _ (omega arith) λ fits.
    front_reads (Lengths n (drop 2 bytes)) (Lengths (suc n) bytes) (number (take 2 bytes)) (read_lengths n (drop 2 bytes)) (lengths_read_lem n (drop 2 bytes)) λ read h.
    record {
      counted = ap suc h.counted;
      fit = and_both _ _ fits h.fit;
      written = λ are.
          ap (λ (rest : List ℕ). bytes_of 2 (number (take 2 bytes)) ++ rest) (h.written (all_drop is_byte 2 bytes are))
          ∙ two_bytes bytes (leb-true 2 (length bytes) enough) are;
    })

-- what the statements come to
record Statements (n variables : ℕ) (lengths bytes : List ℕ) (read : List Statement × List ℕ) : Type 0 where
  counted : length read.0 ≡ n
  formed : all well_formed read.0 ≡ true
  declares : all (declares_statement variables lengths) read.0 ≡ true
  fit : all is_byte bytes ≡ true → all constants_fit read.0 ≡ true
  written : all is_byte bytes ≡ true → flat (map record_bytes read.0) ++ read.1 ≡ bytes

one_record : (size : ℕ) (bytes : List ℕ) (s : Statement) (others rest : List ℕ) → size ≤ length bytes → Said (take size bytes) s
    → all is_byte bytes ≡ true → others ++ rest ≡ drop size bytes → record_bytes s ++ others ++ rest ≡ size ∷ bytes
one_record size bytes s others rest enough record_of are e =
    ap₂ ◌∷◌ (omega (arith, record_of.sized, length-take-le size bytes enough))
    (append_assoc (statement_bytes s) others rest
    ∙ ap₂ ◌++◌ (record_of.written (all_take is_byte size bytes are)) e
    ∙ take-append-drop size bytes)

statements_read : (n variables : ℕ) (lengths bytes : List ℕ) → Reads (Statements n variables lengths bytes) (read_statements n variables lengths bytes)
unfolding read_statements
statements_read zero variables lengths bytes = record { counted = refl; formed = refl; declares = refl; fit = λ are. refl; written = λ are. refl }
statements_read (suc n) variables lengths [] = omega arith
statements_read (suc n) variables lengths (size ∷ bytes) =
    rw read_statements_more
    (demand_reads (Statements (suc n) variables lengths (size ∷ bytes)) (leb size (length bytes)) 4 _ (omega arith) λ enough.
    then_reads (Said (take size bytes)) (Statements (suc n) variables lengths (size ∷ bytes)) (said (read_record (take size bytes))) _ (record_said (take size bytes)) λ s record_of.
    demand_reads (Statements (suc n) variables lengths (size ∷ bytes)) (declares_statement variables lengths s) 5 _ (omega arith) λ names.
    front_reads (Statements n variables lengths (drop size bytes)) (Statements (suc n) variables lengths (size ∷ bytes)) s (read_statements n variables lengths (drop size bytes))
    (statements_read n variables lengths (drop size bytes)) λ read h.
    record {
      counted = ap suc h.counted;
      formed = and_both _ _ record_of.formed h.formed;
      declares = and_both _ _ names h.declares;
      fit = λ are.
          let are-behind = all_others is_byte size bytes are in
          and_both _ _ (record_of.fit (all_take is_byte size bytes are-behind)) (h.fit (all_drop is_byte size bytes are-behind));
      written = λ are.
          one_record size bytes s _ read.1 (leb-true size (length bytes) enough) record_of (all_others is_byte size bytes are)
          (h.written (all_drop is_byte size bytes (all_others is_byte size bytes are)));
    })

-- "A block has up to 32 variables, of which the first so many are live out; up to 8 arrays of 1 to 256 cells; and 0 to 64 statements."
-- A statement has a known operation and as many operands as that takes, and names what is declared.
pub record Readable (b : Block) : Type 0 where
  pub variables : b.variables ≤ 32
  pub live : b.live ≤ b.variables
  pub arrays : length b.lengths ≤ 8
  pub lengths : all length_fits b.lengths ≡ true
  pub count : length b.statements ≤ 64
  pub formed : all well_formed b.statements ≡ true
  pub declares : all (declares_statement b.variables b.lengths) b.statements ≡ true

-- "header counts (3)"
pub record Counts (v l a c : ℕ) : Type 0 where
  pub variables : v ≤ 32
  pub live : l ≤ v
  pub arrays : a ≤ 8
  pub count : c ≤ 64

pub counts_fit_lem : (variables live arrays count : ℕ) → counts_fit variables live arrays count ≡ true → Counts variables live arrays count
counts_fit_lem variables live arrays count e =
    record {
      variables = leb-true _ _ (and_left _ _ (and_left _ _ (and_left _ _ e)));
      live = leb-true _ _ (and_right (leb variables 32) _ (and_left _ _ (and_left _ _ e)));
      arrays = leb-true _ _ (and_right (leb variables 32 && leb live variables) _ (and_left _ _ e));
      count = leb-true _ _ (and_right (leb variables 32 && leb live variables && leb arrays 8) _ e);
    }

-- what the front of the bytes comes to
record Front (bytes : List ℕ) : Type 0 where
  long : 7 ≤ length bytes
  version : get_or bytes 0 0 ≡ 1
  stated : number (take 2 (drop 1 bytes)) ≡ length bytes
  counts : Counts (get_or bytes 3 0) (get_or bytes 4 0) (get_or bytes 5 0) (get_or bytes 6 0)

-- "bytes left over (4)": there are none
record Whole-read (statements : List Statement × List ℕ) (read : List Statement) : Type 0 where
  same : read ≡ statements.0
  nothing : statements.1 ≡ []

left_read : (statements : List Statement × List ℕ) → Reads (Whole-read statements) (nothing_left statements)
left_read statements =
    demand_reads (Whole-read statements) (eqb (length statements.1) 0) 4 (done statements.0) (omega arith) λ none.
    record { same = refl; nothing = no_elements statements.1 (eqb-true _ _ none) }

-- what a block that is read comes to
pub record Outcome (bytes : List ℕ) (b : Block) : Type 0 where
  pub readable : Readable b
  pub fit : all is_byte bytes ≡ true → all constants_fit b.statements ≡ true
  pub written : all is_byte bytes ≡ true → block_bytes b ≡ bytes

-- the bytes behind the stated length are those of the block
body_written : (bytes : List ℕ) (b : Block) → 7 ≤ length bytes
    → get_or bytes 3 0 ≡ b.variables → get_or bytes 4 0 ≡ b.live → get_or bytes 5 0 ≡ length b.lengths → get_or bytes 6 0 ≡ length b.statements
    → flat (map (bytes_of 2) b.lengths) ++ flat (map record_bytes b.statements) ≡ drop 7 bytes
    → body_bytes b ≡ drop 3 bytes
body_written bytes b long v l a c rest =
    rw (← v, ← l, ← a, ← c, rest, ← drop-drop 4 3 bytes, ← get_or-drop 3 bytes 0 0, ← get_or-drop 3 bytes 1 0, ← get_or-drop 3 bytes 2 0, ← get_or-drop 3 bytes 3 0)
    (spelled_front 4 (drop 3 bytes) 0 (omega (arith, length-drop 3 bytes)))

parts_written : (bytes ls ss rest behind : List ℕ) → ls ++ rest ≡ bytes → ss ++ behind ≡ rest → behind ≡ [] → ls ++ ss ≡ bytes
parts_written bytes ls ss rest behind e f nothing = rw (← e, ← f, nothing, append-nil ss)

-- the parts of what was read, put together
module _ (bytes : List ℕ) (front : Front bytes)
    (lengths : List ℕ × List ℕ) (l : Lengths (get_or bytes 5 0) (drop 7 bytes) lengths)
    (statements : List Statement × List ℕ) (s : Statements (get_or bytes 6 0) (get_or bytes 3 0) lengths.0 lengths.1 statements)
    (read : List Statement) (w : Whole-read statements read) where
  abbrev block : Block
  block = record { variables = get_or bytes 3 0; live = get_or bytes 4 0; lengths = lengths.0; statements = read }

  counted : length read ≡ get_or bytes 6 0
  counted = ap length w.same ∙ s.counted

  block_readable : Readable block
  block_readable =
      record {
        variables = front.counts.variables;
        live = front.counts.live;
        arrays = omega (arith, l.counted, front.counts.arrays);
        lengths = l.fit;
        count = omega (arith, counted, front.counts.count);
        formed = ap (all well_formed) w.same ∙ s.formed;
        declares = ap (all (declares_statement (get_or bytes 3 0) lengths.0)) w.same ∙ s.declares;
      }

  lengths_written : all is_byte bytes ≡ true → flat (map (bytes_of 2) lengths.0) ++ lengths.1 ≡ drop 7 bytes
  lengths_written are = l.written (all_drop is_byte 7 bytes are)

  behind_lengths_lem : all is_byte bytes ≡ true → all is_byte lengths.1 ≡ true
  behind_lengths_lem are = all_behind is_byte (flat (map (bytes_of 2) lengths.0)) lengths.1 (rw (lengths_written are) (all_drop is_byte 7 bytes are))

  statements_written : all is_byte bytes ≡ true → flat (map record_bytes read) ++ statements.1 ≡ lengths.1
  statements_written are = rw w.same (s.written (behind_lengths_lem are))

  block_written_lem : all is_byte bytes ≡ true → block_bytes block ≡ bytes
  unfolding block_bytes
  block_written_lem are =
      header_written bytes (body_bytes block) (omega (arith, front.long)) front.version front.stated
      (body_written bytes block front.long refl refl (sym l.counted) (sym counted)
      (parts_written (drop 7 bytes) (flat (map (bytes_of 2) lengths.0)) (flat (map record_bytes read)) lengths.1 statements.1 (lengths_written are)
      (statements_written are) w.nothing))
      are

  block_outcome : Outcome bytes block
  block_outcome =
      record {
        readable = block_readable;
        fit = λ are. ap (all constants_fit) w.same ∙ s.fit (behind_lengths_lem are);
        written = block_written_lem;
      }

block_read : (bytes : List ℕ) → Reads (Outcome bytes) (read_block bytes)
unfolding read_block
block_read bytes =
    demand_reads (Outcome bytes) (leb 7 (length bytes)) 2 _ (omega arith) λ long.
    demand_reads (Outcome bytes) (eqb (get_or bytes 0 0) 1) 1 _ (omega arith) λ version.
    demand_reads (Outcome bytes) (eqb (number (take 2 (drop 1 bytes))) (length bytes)) 2 _ (omega arith) λ stated.
    demand_reads (Outcome bytes) (counts_fit (get_or bytes 3 0) (get_or bytes 4 0) (get_or bytes 5 0) (get_or bytes 6 0)) 3 _ (omega arith) λ fit.
    then_reads (Lengths (get_or bytes 5 0) (drop 7 bytes)) (Outcome bytes) (read_lengths (get_or bytes 5 0) (drop 7 bytes)) _ (lengths_read_lem (get_or bytes 5 0) (drop 7 bytes)) λ lengths l.
    then_reads (Statements (get_or bytes 6 0) (get_or bytes 3 0) lengths.0 lengths.1) (Outcome bytes)
    (read_statements (get_or bytes 6 0) (get_or bytes 3 0) lengths.0 lengths.1) _
    (statements_read (get_or bytes 6 0) (get_or bytes 3 0) lengths.0 lengths.1) λ statements s.
    then_reads (Whole-read statements) (Outcome bytes) (nothing_left statements) _ (left_read statements) λ read w.
    block_outcome bytes
    (record {
      long = leb-true 7 (length bytes) long;
      version = eqb-true _ _ version;
      stated = eqb-true _ _ stated;
      counts = counts_fit_lem (get_or bytes 3 0) (get_or bytes 4 0) (get_or bytes 5 0) (get_or bytes 6 0) fit;
    })
    lengths l statements s read w

-- A refusal has one of the numbers 1 to 5: no refusal is 0.
pub refused_number : (bytes : List ℕ) (n : ℕ) → read_block bytes ≡ refused n → ReaderNumber n
refused_number bytes n e = subst (Reads (Outcome bytes)) e (block_read bytes)

done_outcome : (bytes : List ℕ) (b : Block) → read_block bytes ≡ done b → Outcome bytes b
done_outcome bytes b e = subst (Reads (Outcome bytes)) e (block_read bytes)

-- A block that reads is within all limits.
pub done_readable : (bytes : List ℕ) (b : Block) → read_block bytes ≡ done b → Readable b
done_readable bytes b e = (done_outcome bytes b e).readable

-- Its bytes are those from which it was read.
pub done_written : (bytes : List ℕ) (b : Block) → all is_byte bytes ≡ true → read_block bytes ≡ done b → block_bytes b ≡ bytes
done_written bytes b are e = (done_outcome bytes b e).written are

-- Its constants are below 2 ^ 32.
pub done_fits : (bytes : List ℕ) (b : Block) → all is_byte bytes ≡ true → read_block bytes ≡ done b → all constants_fit b.statements ≡ true
done_fits bytes b are e = (done_outcome bytes b e).fit are

-- So each array has 1 to 256 cells.
pub length_fits_lem : (n : ℕ) → length_fits n ≡ true → (1 ≤ n) × (n ≤ 256)
length_fits_lem n e = (leb-true 1 n (and_left _ _ e), leb-true n 256 (and_right (leb 1 n) _ e))

pub readable_length : (b : Block) → Readable b → (a : ℕ) → a < length b.lengths → (1 ≤ get_or b.lengths a 0) × (get_or b.lengths a 0 ≤ 256)
readable_length b h a below = length_fits_lem (get_or b.lengths a 0) (all_at length_fits b.lengths a 0 h.lengths below)

-- A block put into memory declares what it was.
pub declared_in_memory : (b : Block) → declared (in_memory b) ≡ b
declared_in_memory b = rw (take-append_seam b.lengths, take-append_seam b.statements)
