-- The last definitions of what each statement reads, and who reads its result: what the columns of definitions and of readers say.
use mathlib.Core.Path.{◌≡◌, refl, sym, ap, ap₂, ◌∙◌}
use mathlib.Core.Logic.{◌⊎◌, inl, inr}
use mathlib.Core.Bool.{Bool, true, false, ◌&&◌, ◌||◌, and-true, and-false, or-false}
use mathlib.Core.Option.{Option, none, some}
use mathlib.Core.List.{List}
use Prim.Native.Nat.{ℕ, ◌+◌, ◌*◌, ◌-◌, ◌^◌, ◌≤◌, ◌<◌}
use native.Mathlib.Omega.{arith}
use lib.Dec.{eqb, ltb}
use lib.Bits.{bit_and}
use lib.ListN.{length, get_or, set, length-set}
use lib.Seq.{get_or-set_same, get_or-set_other}
use borrow.Author.Tests.{eqb-true, eqb-false, eq-eqb, ne_eqb, lt-ltb, le-ltb}
use Rattle.basics.specs.Choice.{pick}
use Rattle.basics.specs.Lists.{all}
use Rattle.basics.specs.Sets.{only, join, has}
use Rattle.basics.proofs.Tests.{same_test, below_or_not}
use Rattle.basics.proofs.Counting.{one_further, count_up, count_through}
use Rattle.basics.proofs.Sets.{has_nobody, has_only, has_join, has_both, has_below, no_one}
use Rattle.meaning.specs.declared.Place.TheVariants.{Variable, Cell}
use Rattle.meaning.specs.declared.Operand.{Operand}
use Rattle.meaning.specs.declared.Operand.TheVariants.{Nothing, Constant, Held}
use Rattle.meaning.specs.declared.Statement.{Statement}
use Rattle.meaning.specs.Block.{statement, same}
use Rattle.meaning.specs.Estimate.{last_writer, definition}
use Rattle.meaning.specs.Extension.{is_this, reads_result}
use Rattle.rows.specs.Walk.{highest}
use Rattle.rows.proofs.Walks.{highest_counts}
use Rattle.codes.specs.Codes.{operand_code}
use Rattle.codes.specs.Fitting.{place_fits, operand_fits, statement_fits}
use Rattle.codes.proofs.Places.{variable_code}
use Rattle.codes.proofs.Operands.{constant_not_variable}
use Rattle.codes.proofs.Fits.{left_fits, right_fits}
use Rattle.facts.specs.Facts.{fact_at}
use Rattle.facts.specs.Places.{naming}
use Rattle.facts.specs.Tied.{Stated, Named}
use Rattle.facts.proofs.Columns.{fact_within}
use Rattle.reach.specs.Rows.{last_definition, define_operands, with_definitions, add_reader, add_readers, with_readers}
use Rattle.reach.specs.Tied.{number_of, Defined}
use Rattle.reach.proofs.Direct.{place_writers, where_below}
use Rattle.reach.proofs.Columns.{same_fact, stated_kept}

-- of those before a reader in the block, all are of the block
reader_tests : (i reader n : ℕ) (writes : Bool) → reader ≤ n → (ltb i n && writes) && ltb i reader ≡ ltb i reader && writes
reader_tests i reader n writes h = by (below_or_not i reader)
  where
    by : (i < reader) ⊎ (reader ≤ i) → (ltb i n && writes) && ltb i reader ≡ ltb i reader && writes
    by (inl low) = rw (lt-ltb i reader low, lt-ltb i n (omega arith)) (and-true writes)
    by (inr high) = rw (le-ltb i reader high) (and-false (ltb i n && writes))

-- the number of what a count finds
number_picked : (test : Bool) (s : ℕ) (found : Option ℕ) → number_of (pick test (some s) found) ≡ pick test s (number_of found)
number_picked true s found = refl
number_picked false s found = refl

module _ (ss : List Statement) (small : length ss ≤ 64) (fits : all statement_fits ss ≡ true) (numbers writers lefts rights : List ℕ)
    (named : Named ss numbers writers lefts rights) where
  last_writer_lem : (v reader : ℕ) → place_fits (Variable v) ≡ true → reader ≤ length ss
      → highest (bit_and (naming numbers writers (2 + 2 * v)) (2 ^ reader - 1)) ≡ number_of (last_writer ss reader (Variable v))
  unfolding last_writer
  last_writer_lem v reader ok h =
      highest_counts reader (bit_and (naming numbers writers (2 + 2 * v)) (2 ^ reader - 1)) (λ i. same (statement ss i).destination (Variable v)) (omega arith)
      (λ i.
      has_both (naming numbers writers (2 + 2 * v)) (2 ^ reader - 1) i
      ∙ ap₂ ◌&&◌ (place_writers ss fits numbers writers lefts rights named (Variable v) i ok) (has_below reader i)
      ∙ reader_tests i reader (length ss) (same (statement ss i).destination (Variable v)) h)
      ∙ sym (count_through number_of
      (λ s found. pick (same (statement ss s).destination (Variable v)) (some s) found)
      (λ s found. pick (same (statement ss s).destination (Variable v)) s found)
      (λ s found. number_picked (same (statement ss s).destination (Variable v)) s found) reader 0 none)

  last_definition_lem : (o : Operand) (reader : ℕ) → operand_fits o ≡ true → reader ≤ length ss
      → last_definition (operand_code o) reader numbers writers ≡ number_of (definition ss reader o)
  last_definition_lem Nothing reader ok h = refl
  last_definition_lem (Constant c) reader ok h = rw (constant_not_variable c)
  last_definition_lem (Held (Variable v)) reader ok h = rw (variable_code (Variable v) ok) (last_writer_lem v reader ok h)
  last_definition_lem (Held (Cell a i)) reader ok h = rw (variable_code (Cell a i) ok)

-- The columns of definitions, filled for the first k statements: each by its own function of the number, all other words as they were.
record Defining (lefts rights : ℕ → ℕ) (before : List ℕ) (k : ℕ) (facts : List ℕ) : Type 0 where
  sized : length facts ≡ 512
  left : (s : ℕ) → s < k → get_or facts (320 + s) 0 ≡ lefts s
  right : (s : ℕ) → s < k → get_or facts (384 + s) 0 ≡ rights s
  low : (at : ℕ) → at < 320 → get_or facts at 0 ≡ get_or before at 0
  between : (at : ℕ) → 320 + k ≤ at → at < 384 → get_or facts at 0 ≡ get_or before at 0
  high : (at : ℕ) → 384 + k ≤ at → get_or facts at 0 ≡ get_or before at 0

-- two words stored, and a third
two_others : (facts : List ℕ) (a b x y at : ℕ) → (at ≡ a → ⊥) → (at ≡ b → ⊥) → get_or (set (set facts a x) b y) at 0 ≡ get_or facts at 0
two_others facts a b x y at not_a not-b = get_or-set_other (set facts a x) b at y 0 not-b ∙ get_or-set_other facts a at x 0 not_a

two_first : (facts : List ℕ) (a b x y : ℕ) → (a ≡ b → ⊥) → a < length facts → get_or (set (set facts a x) b y) a 0 ≡ x
two_first facts a b x y differ within = get_or-set_other (set facts a x) b a y 0 differ ∙ get_or-set_same facts a x 0 within

two_second : (facts : List ℕ) (a b x y : ℕ) → b < length facts → get_or (set (set facts a x) b y) b 0 ≡ y
two_second facts a b x y within = get_or-set_same (set facts a x) b y 0 (omega (arith, length-set facts a x))

define_one : (lefts rights : ℕ → ℕ) (before : List ℕ) (k : ℕ) (facts : List ℕ) (l r : ℕ) → k < 64 → l ≡ lefts k → r ≡ rights k
    → Defining lefts rights before k facts → Defining lefts rights before (k + 1) (set (set facts (320 + k) l) (384 + k) r)
define_one lefts rights before k facts l r small el er h =
    record {
      sized = length-set (set facts (320 + k) l) (384 + k) r ∙ length-set facts (320 + k) l ∙ h.sized;
      left =
          one_further (λ s. get_or (set (set facts (320 + k) l) (384 + k) r) (320 + s) 0 ≡ lefts s) k
          (λ s earlier. two_others facts (320 + k) (384 + k) l r (320 + s) (omega arith) (omega arith) ∙ h.left s earlier)
          (two_first facts (320 + k) (384 + k) l r (omega arith) (omega (arith, h.sized)) ∙ el);
      right =
          one_further (λ s. get_or (set (set facts (320 + k) l) (384 + k) r) (384 + s) 0 ≡ rights s) k
          (λ s earlier. two_others facts (320 + k) (384 + k) l r (384 + s) (omega arith) (omega arith) ∙ h.right s earlier)
          (two_second facts (320 + k) (384 + k) l r (omega (arith, h.sized)) ∙ er);
      low = λ at below. two_others facts (320 + k) (384 + k) l r at (omega arith) (omega arith) ∙ h.low at below;
      between = λ at above below. two_others facts (320 + k) (384 + k) l r at (omega arith) (omega arith) ∙ h.between at (omega arith) below;
      high = λ at above. two_others facts (320 + k) (384 + k) l r at (omega arith) (omega arith) ∙ h.high at (omega arith);
    }

-- the last definitions that the tables give
abbrev defined_by : List ℕ → List ℕ → List ℕ → ℕ → ℕ → ℕ
defined_by numbers writers facts column s = last_definition (fact_at facts column s) s numbers writers

all_defined : (numbers writers facts : List ℕ) (n : ℕ) → n ≤ 64 → length facts ≡ 512
    → Defining (defined_by numbers writers facts 64) (defined_by numbers writers facts 128) facts n (with_definitions n numbers writers facts)
unfolding with_definitions
all_defined numbers writers facts n small sized =
    count_up (Defining (defined_by numbers writers facts 64) (defined_by numbers writers facts 128) facts) (define_operands numbers writers) n facts
    (record {
      sized = sized;
      left = λ s below. absurd (omega arith);
      right = λ s below. absurd (omega arith);
      low = λ at below. refl;
      between = λ at above below. refl;
      high = λ at above. refl;
    })
    (λ k so_far below h.
    define_one (defined_by numbers writers facts 64) (defined_by numbers writers facts 128) facts k so_far _ _ (omega arith)
    (ap (λ (code : ℕ). last_definition code k numbers writers) (same_fact facts so_far 64 k (λ within. h.low (64 + k) (omega arith))))
    (ap (λ (code : ℕ). last_definition code k numbers writers) (same_fact facts so_far 128 k (λ within. h.low (128 + k) (omega arith))))
    h)

-- One reader more, of what a statement defines.
module _ (defined reader : ℕ) (facts : List ℕ) (sized : length facts ≡ 512) where
  reader_sized : length (add_reader defined reader facts) ≡ 512
  reader_sized = by (ltb defined 64)
    where
      by : (t : Bool) → length (pick t (set facts (448 + defined) (join (get_or facts (448 + defined) 0) (only reader))) facts) ≡ 512
      by true = length-set facts (448 + defined) (join (get_or facts (448 + defined) 0) (only reader)) ∙ sized
      by false = sized

  reader_other : (at : ℕ) → at < 448 → get_or (add_reader defined reader facts) at 0 ≡ get_or facts at 0
  reader_other at low = by (ltb defined 64)
    where
      by : (t : Bool) → get_or (pick t (set facts (448 + defined) (join (get_or facts (448 + defined) 0) (only reader))) facts) at 0 ≡ get_or facts at 0
      by true = get_or-set_other facts (448 + defined) at (join (get_or facts (448 + defined) 0) (only reader)) 0 (omega arith)
      by false = refl

  reader_has : (s t : ℕ) → s < 64 → has (get_or (add_reader defined reader facts) (448 + s) 0) t ≡ has (get_or facts (448 + s) 0) t || (eqb defined s && eqb reader t)
  reader_has s t low = by (below_or_not defined 64)
    where
      there : (defined < 64) → (e : Bool) → eqb defined s ≡ e
          → has (get_or (set facts (448 + defined) (join (get_or facts (448 + defined) 0) (only reader))) (448 + s) 0) t
          ≡ has (get_or facts (448 + s) 0) t || (e && eqb reader t)
      there h true e =
          let this : s ≡ defined = sym (eqb-true defined s e) in
          rw this
          (ap (λ (row : ℕ). has row t) (get_or-set_same facts (448 + defined) (join (get_or facts (448 + defined) 0) (only reader)) 0 (omega arith))
          ∙ has_join (get_or facts (448 + defined) 0) (only reader) t
          ∙ ap (λ (test : Bool). has (get_or facts (448 + defined) 0) t || test) (has_only reader t))
      there h false e =
          let differs : defined ≡ s → ⊥ = eqb-false defined s e in
          ap (λ (row : ℕ). has row t) (get_or-set_other facts (448 + defined) (448 + s) (join (get_or facts (448 + defined) 0) (only reader)) 0 (omega arith))
          ∙ sym (or-false (has (get_or facts (448 + s) 0) t))

      by : (defined < 64) ⊎ (64 ≤ defined)
          → has (get_or (add_reader defined reader facts) (448 + s) 0) t ≡ has (get_or facts (448 + s) 0) t || (eqb defined s && eqb reader t)
      by (inl h) = rw (lt-ltb defined 64 h) (there h (eqb defined s) refl)
      by (inr h) = rw (le-ltb defined 64 h, ne_eqb defined s (omega arith)) (sym (or-false (has (get_or facts (448 + s) 0) t)))

-- The column of readers, filled for the first k readers; all words before it as they were.
record Gathering (before : List ℕ) (k : ℕ) (facts : List ℕ) : Type 0 where
  sized : length facts ≡ 512
  low : (at : ℕ) → at < 448 → get_or facts at 0 ≡ get_or before at 0
  readers : (s t : ℕ) → s < 64 → has (get_or facts (448 + s) 0) t ≡ ltb t k && (eqb (get_or before (320 + t) 0) s || eqb (get_or before (384 + t) 0) s)

-- of the readers up to k, those before k and k itself
gathered_tests : (a b : ℕ → Bool) (t k : ℕ)
    → (ltb t k && (a t || b t)) || (a k && eqb k t) || (b k && eqb k t) ≡ ltb t (k + 1) && (a t || b t)
gathered_tests a b t k = by (below_or_not t k)
  where
    last : (k < t) ⊎ (t ≤ k) → k ≤ t → (ltb t k && (a t || b t)) || (a k && eqb k t) || (b k && eqb k t) ≡ ltb t (k + 1) && (a t || b t)
    last (inl above) h =
        rw (le-ltb t k h, le-ltb t (k + 1) (omega arith), ne_eqb k t (omega arith), and-false (a k), and-false (b k))
    last (inr most) h =
        let this : t ≡ k = omega arith in
        rw (this, le-ltb k k (omega arith), lt-ltb k (k + 1) (omega arith), eq-eqb k k refl, and-true (a k), and-true (b k))

    by : (t < k) ⊎ (k ≤ t) → (ltb t k && (a t || b t)) || (a k && eqb k t) || (b k && eqb k t) ≡ ltb t (k + 1) && (a t || b t)
    by (inl low) =
        rw (lt-ltb t k low, lt-ltb t (k + 1) (omega arith), ne_eqb k t (omega arith), and-false (a k), and-false (b k))
        (or-false (a t || b t || false) ∙ or-false (a t || b t))
    by (inr high) = last (below_or_not k t) high

gather_one : (before : List ℕ) (k : ℕ) (facts : List ℕ) → k < 64 → Gathering before k facts → Gathering before (k + 1) (add_readers k facts)
gather_one before k facts small h =
    record {
      sized = reader_sized right k after after_sized;
      low = λ at below. reader_other right k after after_sized at below ∙ after_low at below;
      readers = λ s t within.
          reader_has right k after after_sized s t within
          ∙ ap₂ (λ (test : Bool) (d : ℕ). test || (eqb d s && eqb k t))
          (reader_has left k facts h.sized s t within ∙ ap₂ (λ (test : Bool) (d : ℕ). test || (eqb d s && eqb k t)) (h.readers s t within) left_is) right_is
          ∙ gathered_tests (λ j. eqb (get_or before (320 + j) 0) s) (λ j. eqb (get_or before (384 + j) 0) s) t k;
    }
  where
    left : ℕ
    left = fact_at facts 320 k

    after : List ℕ
    after = add_reader left k facts

    right : ℕ
    right = fact_at after 384 k

    after_sized : length after ≡ 512
    after_sized = reader_sized left k facts h.sized

    after_low : (at : ℕ) → at < 448 → get_or after at 0 ≡ get_or before at 0
    after_low at below = reader_other left k facts h.sized at below ∙ h.low at below

    left_is : left ≡ get_or before (320 + k) 0
    left_is = fact_within facts 320 k small ∙ h.low (320 + k) (omega arith)

    right_is : right ≡ get_or before (384 + k) 0
    right_is = fact_within after 384 k small ∙ after_low (384 + k) (omega arith)

all_gathered : (facts : List ℕ) (n : ℕ) → n ≤ 64 → length facts ≡ 512 → ((s : ℕ) → s < 64 → get_or facts (448 + s) 0 ≡ 0) → Gathering facts n (with_readers n facts)
unfolding with_readers
all_gathered facts n small sized empty =
    count_up (Gathering facts) add_readers n facts
    (record {
      sized = sized;
      low = λ at below. refl;
      readers = λ s t within. ap (λ (row : ℕ). has row t) (empty s within) ∙ has_nobody t ∙ rw (le-ltb t 0 (omega arith));
    })
    (λ k so_far below h. gather_one facts k so_far (omega arith) h)

-- a definition comes before its reader
abbrev pub Before : ℕ → Option ℕ → Type 0
Before reader none = Unit {0}
Before reader (some s) = s < reader

writer_before : (ss : List Statement) (reader v : ℕ) → Before reader (last_writer ss reader (Variable v))
unfolding last_writer
writer_before ss reader v =
    count_up Before (λ s found. pick (same (statement ss s).destination (Variable v)) (some s) found) reader none tt
    (λ s found low h. either (same (statement ss s).destination (Variable v)) s found h)
  where
    later : (s : ℕ) (found : Option ℕ) → Before s found → Before (s + 1) found
    later s none h = tt
    later s (some t) h = omega arith

    either : (test : Bool) (s : ℕ) (found : Option ℕ) → Before s found → Before (s + 1) (pick test (some s) found)
    either true s found h = omega arith
    either false s found h = later s found h

pub definition_before : (ss : List Statement) (reader : ℕ) (o : Operand) → Before reader (definition ss reader o)
definition_before ss reader Nothing = tt
definition_before ss reader (Constant c) = tt
definition_before ss reader (Held (Variable v)) = writer_before ss reader v
definition_before ss reader (Held (Cell a i)) = tt

not_this : (ss : List Statement) (reader s : ℕ) (o : Operand) → reader ≤ s → s < 64 → eqb (number_of (definition ss reader o)) s ≡ false
not_this ss reader s o h within = by (definition ss reader o) (definition_before ss reader o)
  where
    by : (d : Option ℕ) → Before reader d → eqb (number_of d) s ≡ false
    by none before = ne_eqb 64 s (omega arith)
    by (some t) before = ne_eqb t s (omega arith)

-- a statement's number is that of an operand's definition
is_this_lem : (s : ℕ) (o : Option ℕ) → s < 64 → eqb (number_of o) s ≡ is_this s o
is_this_lem s none h = ne_eqb 64 s (omega arith)
is_this_lem s (some t) h = same_test (eqb t s) (eqb s t) (λ e. eq-eqb s t (sym (eqb-true t s e))) (λ e. eq-eqb t s (sym (eqb-true s t e)))

-- The law. `facts` has what each statement says by itself, and no readers yet.
module _ (ss : List Statement) (small : length ss ≤ 64) (fits : all statement_fits ss ≡ true) (numbers writers lefts rights : List ℕ)
    (named : Named ss numbers writers lefts rights)
    (facts : List ℕ) (stated : Stated ss facts) (sized : length facts ≡ 512) (no-readers : (s : ℕ) → fact_at facts 448 s ≡ 0) where
  abbrev defining : Defining (defined_by numbers writers facts 64) (defined_by numbers writers facts 128) facts (length ss) (with_definitions (length ss) numbers writers facts)
  defining = all_defined numbers writers facts (length ss) small sized

  gathering : Gathering (with_definitions (length ss) numbers writers facts) (length ss) (with_readers (length ss) (with_definitions (length ss) numbers writers facts))
  gathering =
      all_gathered (with_definitions (length ss) numbers writers facts) (length ss) small defining.sized
      (λ s within. defining.high (448 + s) (omega arith) ∙ sym (fact_within facts 448 s within) ∙ no-readers s)

  left_defined : (s : ℕ) → s < length ss → get_or (with_definitions (length ss) numbers writers facts) (320 + s) 0 ≡ number_of (definition ss s (statement ss s).left)
  left_defined s h =
      defining.left s h
      ∙ ap (λ (code : ℕ). last_definition code s numbers writers) (stated.lefts s h)
      ∙ last_definition_lem ss small fits numbers writers lefts rights named (statement ss s).left s (left_fits ss fits s h) (omega arith)

  right_defined : (s : ℕ) → s < length ss → get_or (with_definitions (length ss) numbers writers facts) (384 + s) 0 ≡ number_of (definition ss s (statement ss s).right)
  right_defined s h =
      defining.right s h
      ∙ ap (λ (code : ℕ). last_definition code s numbers writers) (stated.rights s h)
      ∙ last_definition_lem ss small fits numbers writers lefts rights named (statement ss s).right s (right_fits ss fits s h) (omega arith)

  reading : (s t : ℕ) → s < length ss
      → ltb t (length ss) && (eqb (get_or (with_definitions (length ss) numbers writers facts) (320 + t) 0) s || eqb (get_or (with_definitions (length ss) numbers writers facts) (384 + t) 0) s)
      ≡ ltb t (length ss) && reads_result ss s t
  reading s t h =
      where_below t (length ss) _ _ λ low.
      ap₂ ◌||◌ (ap (λ (d : ℕ). eqb d s) (left_defined t low) ∙ is_this_lem s (definition ss t (statement ss t).left) (omega arith))
      (ap (λ (d : ℕ). eqb d s) (right_defined t low) ∙ is_this_lem s (definition ss t (statement ss t).right) (omega arith))

  -- the columns of definitions and readers are those of the definition
  pub defined : Defined ss (with_readers (length ss) (with_definitions (length ss) numbers writers facts))
  defined =
      record {
        lefts = λ s h.
            fact_within (with_readers (length ss) (with_definitions (length ss) numbers writers facts)) 320 s (omega arith)
            ∙ gathering.low (320 + s) (omega arith) ∙ left_defined s h;
        rights = λ s h.
            fact_within (with_readers (length ss) (with_definitions (length ss) numbers writers facts)) 384 s (omega arith)
            ∙ gathering.low (384 + s) (omega arith) ∙ right_defined s h;
        readers = λ s t h.
            ap (λ (row : ℕ). has row t) (fact_within (with_readers (length ss) (with_definitions (length ss) numbers writers facts)) 448 s (omega arith))
            ∙ gathering.readers s t (omega arith) ∙ reading s t h;
      }

  -- and what each statement says by itself is kept
  pub stated_defined : Stated ss (with_definitions (length ss) numbers writers facts)
  stated_defined = stated_kept ss facts (with_definitions (length ss) numbers writers facts) defining.low past stated
    where
      past : (column s : ℕ) → column < 8 → 5 ≤ column → length ss ≤ s → s < 64
          → get_or (with_definitions (length ss) numbers writers facts) (64 * column + s) 0 ≡ get_or facts (64 * column + s) 0
      past column s below later outside within = by (below_or_not column 6)
        where
          by : (column < 6) ⊎ (6 ≤ column) → get_or (with_definitions (length ss) numbers writers facts) (64 * column + s) 0 ≡ get_or facts (64 * column + s) 0
          by (inl fifth) = defining.between (64 * column + s) (omega arith) (omega arith)
          by (inr others) = defining.high (64 * column + s) (omega arith)

  pub stated_gathered : Stated ss (with_readers (length ss) (with_definitions (length ss) numbers writers facts))
  stated_gathered =
      stated_kept ss (with_definitions (length ss) numbers writers facts) (with_readers (length ss) (with_definitions (length ss) numbers writers facts))
      (λ at below. gathering.low at (omega arith)) past stated_defined
    where
      -- no statement past the last is a definition
      unread : (s t : ℕ) → length ss ≤ s → s < 64 → has (get_or (with_readers (length ss) (with_definitions (length ss) numbers writers facts)) (448 + s) 0) t ≡ false
      unread s t outside within =
          gathering.readers s t within
          ∙ where_below t (length ss) _ false (λ low.
          ap₂ ◌||◌
          (ap (λ (d : ℕ). eqb d s) (left_defined t low) ∙ not_this ss t s (statement ss t).left (omega arith) within)
          (ap (λ (d : ℕ). eqb d s) (right_defined t low) ∙ not_this ss t s (statement ss t).right (omega arith) within))
          ∙ and-false (ltb t (length ss))

      past : (column s : ℕ) → column < 8 → 5 ≤ column → length ss ≤ s → s < 64
          → get_or (with_readers (length ss) (with_definitions (length ss) numbers writers facts)) (64 * column + s) 0
          ≡ get_or (with_definitions (length ss) numbers writers facts) (64 * column + s) 0
      past column s below later outside within = by (below_or_not column 7)
        where
          by : (column < 7) ⊎ (7 ≤ column)
              → get_or (with_readers (length ss) (with_definitions (length ss) numbers writers facts)) (64 * column + s) 0
              ≡ get_or (with_definitions (length ss) numbers writers facts) (64 * column + s) 0
          by (inl earlier) = gathering.low (64 * column + s) (omega arith)
          by (inr last) =
              let this : 64 * column + s ≡ 448 + s = omega arith in
              rw this
              (no_one _ (λ t. unread s t outside within)
              ∙ sym (defining.high (448 + s) (omega arith) ∙ sym (fact_within facts 448 s within) ∙ no-readers s))
