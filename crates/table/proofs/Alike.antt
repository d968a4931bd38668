-- The block that is taken from a table is written and refused as the block that the table says: a number that is taken as a smaller one is
-- above the limit all the same.
use mathlib.Core.Path.{◌≡◌, refl, sym, ap, ap₂, ◌∙◌}
use mathlib.Core.Bool.{Bool, true, false, ◌&&◌, false≢true, and-false}
use mathlib.Core.List.{List, [], ◌∷◌}
use mathlib.Core.Logic.{◌⊎◌, inl, inr}
use Prim.Native.Nat.{ℕ, zero, suc, ◌+◌, ◌*◌, ◌≤◌, ◌<◌}
use native.Mathlib.Omega.{arith}
use lib.Dec.{eqb, leb, ltb}
use lib.ListN.{length, get_or, take, length-take}
use borrow.Author.Tests.{le-leb, lt-leb, le-ltb, leb-true}
use Rattle.basics.specs.Choice.{pick}
use Rattle.basics.specs.Lists.{all}
use Rattle.basics.proofs.Tests.{and_left, and_right, passes_or_fails, below_or_not, same_test}
use Rattle.meaning.specs.declared.Place.{Place}
use Rattle.meaning.specs.declared.Place.TheVariants.{Variable, Cell}
use Rattle.meaning.specs.declared.Operand.{Operand}
use Rattle.meaning.specs.declared.Operand.TheVariants.{Nothing, Constant, Held}
use Rattle.meaning.specs.declared.Statement.{Statement}
use Rattle.meaning.specs.declared.Block.{Block as Slots}
use Rattle.meaning.specs.Numbers.{Answer, done, demand}
use Rattle.meaning.specs.Block.{declares_place, declares_operand, declares_statement}
use Rattle.meaning.specs.Format.{counts_fit, length_fits, is_operand, well_formed, block_bytes, write_block}
use Rattle.meaning.specs.Calls.{block_written, write_block_call}
use Rattle.theorems.proofs.Readable.{counts_fit_lem}
use Rattle.table.specs.Said.{number, place_in, statement_said_at, broken, statement_said, from, block_said}
use Rattle.table.specs.Taken.{byte_of, length_of, place_of, statement_at, length_in, statement_in, block_of}
use Rattle.table.proofs.Back.{byte_back, length_back}

-- a number fits, or it is taken as the greatest that does
byte_or_large : (n : ℕ) → (byte_of n ≡ n) ⊎ ((byte_of n ≡ 255) × (255 < n))
byte_or_large n = either (below_or_not 255 n)
  where
    either : (255 < n) ⊎ (n ≤ 255) → (byte_of n ≡ n) ⊎ ((byte_of n ≡ 255) × (255 < n))
    either (inl large) = inr (rw (lt-leb n 255 large), large)
    either (inr small) = inl (byte_back n small)

length_or_large : (n : ℕ) → (length_of n ≡ n) ⊎ ((length_of n ≡ 65535) × (65535 < n))
length_or_large n = either (below_or_not 65535 n)
  where
    either : (65535 < n) ⊎ (n ≤ 65535) → (length_of n ≡ n) ⊎ ((length_of n ≡ 65535) × (65535 < n))
    either (inl large) = inr (rw (lt-leb n 65535 large), large)
    either (inr small) = inl (length_back n small)

-- counts
small_byte : (n : ℕ) → byte_of n ≤ 64 → byte_of n ≡ n
small_byte n h = by (byte_or_large n)
  where
    by : (byte_of n ≡ n) ⊎ ((byte_of n ≡ 255) × (255 < n)) → byte_of n ≡ n
    by (inl e) = e
    by (inr large) = absurd (omega (arith, large.0))

module _ (v l a c : ℕ) where
  counts_alike : counts_fit (byte_of v) (byte_of l) (byte_of a) (byte_of c) ≡ counts_fit v l a c
  counts_alike =
      same_test (counts_fit (byte_of v) (byte_of l) (byte_of a) (byte_of c)) (counts_fit v l a c)
      (λ e.
      let h = counts_fit_lem (byte_of v) (byte_of l) (byte_of a) (byte_of c) e in
      same
      (small_byte v (omega (arith, h.variables)))
      (small_byte l (omega (arith, h.live, h.variables)))
      (small_byte a (omega (arith, h.arrays)))
      (small_byte c h.count)
      ∙ e)
      (λ e.
      let h = counts_fit_lem v l a c e in
      sym
      (same
      (byte_back v (omega (arith, h.variables)))
      (byte_back l (omega (arith, h.live, h.variables)))
      (byte_back a (omega (arith, h.arrays)))
      (byte_back c (omega (arith, h.count))))
      ∙ e)
    where
      same : byte_of v ≡ v → byte_of l ≡ l → byte_of a ≡ a → byte_of c ≡ c → counts_fit v l a c ≡ counts_fit (byte_of v) (byte_of l) (byte_of a) (byte_of c)
      same ev el ea ec = rw (ev, el, ea, ec)

-- lengths
length_alike : (n : ℕ) → length_fits (length_of n) ≡ length_fits n
length_alike n = by (length_or_large n)
  where
    by : (length_of n ≡ n) ⊎ ((length_of n ≡ 65535) × (65535 < n)) → length_fits (length_of n) ≡ length_fits n
    by (inl e) = ap length_fits e
    by (inr large) = ap length_fits large.0 ∙ sym (ap (λ (t : Bool). leb 1 n && t) (lt-leb n 256 (omega (arith, large.1))) ∙ and-false (leb 1 n))

length_same : (n : ℕ) → length_fits n ≡ true → length_of n ≡ n
length_same n e = length_back n (omega (arith, leb-true n 256 (and_right (leb 1 n) _ e)))

pub lengths_small : (ls : List ℕ) → all length_fits ls ≡ true → (a : ℕ) → get_or ls a 0 ≤ 256
lengths_small [] e a = omega arith
lengths_small (n ∷ ls) e zero = leb-true n 256 (and_right (leb 1 n) _ (and_left _ _ e))
lengths_small (n ∷ ls) e (suc a) = lengths_small ls (and_right (length_fits n) _ e) a

-- places, operands and statements, where the block's counts and lengths fit
module _ (v : ℕ) (ls : List ℕ) (few : v ≤ 32) (short : length ls ≤ 8) (fit : (a : ℕ) → get_or ls a 0 ≤ 256) where
  abbrev PlaceAlike : Place → Place → Type 0
  PlaceAlike p q = (p ≡ q) ⊎ ((declares_place v ls p ≡ false) × (declares_place v ls q ≡ false))

  place_alike : (test : Bool) (a b : ℕ)
      → PlaceAlike (pick test (Variable (byte_of a)) (pick (leb b 255) (Cell (byte_of a) b) (Cell 255 255))) (pick test (Variable a) (Cell a b))
  place_alike true a b = by (byte_or_large a)
    where
      by : (byte_of a ≡ a) ⊎ ((byte_of a ≡ 255) × (255 < a)) → PlaceAlike (Variable (byte_of a)) (Variable a)
      by (inl e) = inl (ap Variable e)
      by (inr large) = inr (ap (λ (n : ℕ). ltb n v) large.0 ∙ le-ltb 255 v (omega arith), le-ltb a v (omega (arith, large.1)))
  place_alike false a b = by (below_or_not 255 b) (byte_or_large a)
    where
      by : (255 < b) ⊎ (b ≤ 255) → (byte_of a ≡ a) ⊎ ((byte_of a ≡ 255) × (255 < a))
          → PlaceAlike (pick (leb b 255) (Cell (byte_of a) b) (Cell 255 255)) (Cell a b)
      by (inl past) either =
          inr (
            rw (lt-leb b 255 past) (ap (λ (t : Bool). t && ltb 255 (get_or ls 255 0)) (le-ltb 255 (length ls) (omega arith))),
            ap (λ (t : Bool). ltb a (length ls) && t) (le-ltb b (get_or ls a 0) (omega (arith, fit a))) ∙ and-false (ltb a (length ls)),
          )
      by (inr within) (inl e) = inl (rw (le-leb b 255 within) (ap (λ (n : ℕ). Cell n b) e))
      by (inr within) (inr large) =
          inr (
            rw (le-leb b 255 within)
                (ap (λ (n : ℕ). ltb n (length ls) && ltb b (get_or ls n 0)) large.0
                ∙ ap (λ (t : Bool). t && ltb b (get_or ls 255 0)) (le-ltb 255 (length ls) (omega arith))),
            ap (λ (t : Bool). t && ltb b (get_or ls a 0)) (le-ltb a (length ls) (omega (arith, large.1))),
          )

  place_declares : (p q : Place) → PlaceAlike p q → declares_place v ls p ≡ declares_place v ls q
  place_declares p q (inl e) = ap (declares_place v ls) e
  place_declares p q (inr both) = both.0 ∙ sym both.1

  place_same : (p q : Place) → PlaceAlike p q → declares_place v ls q ≡ true → p ≡ q
  place_same p q (inl e) h = e
  place_same p q (inr both) h = absurd (false≢true (sym both.1 ∙ h))

  record OperandAlike (o p : Operand) : Type 0 where
    is : is_operand o ≡ is_operand p
    declares : declares_operand v ls o ≡ declares_operand v ls p
    same : declares_operand v ls p ≡ true → o ≡ p

  operand_alike : (constant nothing : Bool) (kind a b : ℕ)
      → OperandAlike
      (pick constant (Constant a) (pick nothing Nothing (Held (place_of kind a b))))
      (pick constant (Constant a) (pick nothing Nothing (Held (place_in kind a b))))
  operand_alike true nothing kind a b = record { is = refl; declares = refl; same = λ h. refl }
  operand_alike false true kind a b = record { is = refl; declares = refl; same = λ h. refl }
  operand_alike false false kind a b =
      let alike = place_alike (eqb kind 1) a b in
      record {
        is = refl;
        declares = place_declares (place_of kind a b) (place_in kind a b) alike;
        same = λ h. ap Held (place_same (place_of kind a b) (place_in kind a b) alike h);
      }

  record StatementAlike (s p : Statement) : Type 0 where
    formed : well_formed s ≡ well_formed p
    declares : declares_statement v ls s ≡ declares_statement v ls p
    same : well_formed p ≡ true → declares_statement v ls p ≡ true → s ≡ p

  parts_alike : (test : Bool) (o : ℕ) (d e : Place) (l m r q : Operand) → PlaceAlike d e → OperandAlike l m → OperandAlike r q
      → StatementAlike
      (pick test (record { operation = byte_of o; destination = d; left = l; right = r }) broken)
      (pick test (record { operation = o; destination = e; left = m; right = q }) broken)
  parts_alike false o d e l m r q hd hl hr = record { formed = refl; declares = refl; same = λ f h. refl }
  parts_alike true o d e l m r q hd hl hr =
      record {
        formed = form (byte_or_large o);
        declares =
            ap (λ (t : Bool). t && declares_operand v ls l && declares_operand v ls r) (place_declares d e hd)
            ∙ ap (λ (t : Bool). declares_place v ls e && t && declares_operand v ls r) hl.declares
            ∙ ap (λ (t : Bool). declares_place v ls e && declares_operand v ls m && t) hr.declares;
        same = λ f h. one (byte_or_large o) f h;
      }
    where
      form : (byte_of o ≡ o) ⊎ ((byte_of o ≡ 255) × (255 < o))
          → well_formed (record { operation = byte_of o; destination = d; left = l; right = r }) ≡ well_formed (record { operation = o; destination = e; left = m; right = q })
      form (inl k) = rw (k, hl.is, hr.is)
      form (inr large) = rw (large.0, lt-leb o 7 (omega (arith, large.1)))

      one : (byte_of o ≡ o) ⊎ ((byte_of o ≡ 255) × (255 < o)) → well_formed (record { operation = o; destination = e; left = m; right = q }) ≡ true
          → declares_place v ls e && declares_operand v ls m && declares_operand v ls q ≡ true
          → ◌≡◌ {A = Statement} (record { operation = byte_of o; destination = d; left = l; right = r }) (record { operation = o; destination = e; left = m; right = q })
      one (inl k) f h =
          rw (
            k,
            place_same d e hd (and_left _ _ (and_left _ _ h)),
            hl.same (and_right (declares_place v ls e) _ (and_left _ _ h)),
            hr.same (and_right (declares_place v ls e && declares_operand v ls m) _ h),
          )
      one (inr large) f h = absurd (omega (arith, large.1, leb-true o 7 (and_left _ _ (and_left _ _ f))))

  statement_alike : (table : List ℕ) (at : ℕ) → StatementAlike (statement_at table at) (statement_said table at)
  unfolding statement_at statement_said
  statement_alike table at =
      parts_alike (statement_said_at table at) (number table at) _ _ _ _ _ _
      (place_alike (eqb (number table (at + 1)) 1) (number table (at + 1 + 1)) (number table (at + 1 + 2)))
      (operand_alike (eqb (number table (at + 4)) 0) (eqb (number table (at + 4)) 3) (number table (at + 4)) (number table (at + 4 + 1)) (number table (at + 4 + 2)))
      (operand_alike (eqb (number table (at + 7)) 0) (eqb (number table (at + 7)) 3) (number table (at + 7)) (number table (at + 7 + 1)) (number table (at + 7 + 2)))

-- lists that are alike at each number
module _ {A : Type 0} (f g : ℕ → A) where
  all_alike : (test : A → Bool) → ((i : ℕ) → test (f i) ≡ test (g i)) → (n k i : ℕ) → all test (take k (from f n i)) ≡ all test (take k (from g n i))
  unfolding from
  all_alike test h n zero i = refl
  all_alike test h zero (suc k) i = refl
  all_alike test h (suc n) (suc k) i = ap₂ ◌&&◌ (h i) (all_alike test h n k (i + 1))

  same_take : (one two : A → Bool) → ((i : ℕ) → one (g i) ≡ true → two (g i) ≡ true → f i ≡ g i) → (n k i : ℕ)
      → all one (take k (from g n i)) ≡ true → all two (take k (from g n i)) ≡ true → take k (from f n i) ≡ take k (from g n i)
  unfolding from
  same_take one two h n zero i x y = refl
  same_take one two h zero (suc k) i x y = refl
  same_take one two h (suc n) (suc k) i x y =
      ap₂ ◌∷◌ (h i (and_left _ _ x) (and_left _ _ y)) (same_take one two h n k (i + 1) (and_right (one (g i)) _ x) (and_right (two (g i)) _ y))

-- the writer's tests, one behind the other
abbrev behind_lengths : ℕ → ℕ → List ℕ → List Statement → Answer (List ℕ)
behind_lengths v l ls ss =
    demand (all well_formed ss) 4
    (demand (all (declares_statement v ls) ss) 5 (done (block_bytes (record { variables = v; live = l; lengths = ls; statements = ss }))))

abbrev judged : Bool → ℕ → ℕ → List ℕ → List Statement → Answer (List ℕ)
judged counts v l ls ss = demand (counts && all length_fits ls) 3 (behind_lengths v l ls ss)

write_judged : (s : Slots)
    → write_block s
    ≡ judged (counts_fit s.variables s.live s.arrays s.count) s.variables s.live (take s.arrays s.lengths) (take s.count s.statements)
unfolding write_block
write_judged s = refl

module _ (table : List ℕ) where
  abbrev said_in : ℕ → Statement
  said_in i = statement_said table (12 + 10 * i)

  abbrev length_said : ℕ → ℕ
  length_said i = number table (4 + i)

  statements_alike : (v l c : ℕ) (ls : List ℕ) → v ≤ 32 → length ls ≤ 8 → ((a : ℕ) → get_or ls a 0 ≤ 256)
      → behind_lengths v l ls (take c (from (statement_in table) 64 0)) ≡ behind_lengths v l ls (take c (from said_in 64 0))
  statements_alike v l c ls few short fit = formed (passes_or_fails (all well_formed (take c (from said_in 64 0))))
    where
      alike : (i : ℕ) → StatementAlike v ls few short fit (statement_in table i) (said_in i)
      alike i = statement_alike v ls few short fit table (12 + 10 * i)

      forms : all well_formed (take c (from (statement_in table) 64 0)) ≡ all well_formed (take c (from said_in 64 0))
      forms = all_alike (statement_in table) said_in well_formed (λ i. (alike i).formed) 64 c 0

      names : all (declares_statement v ls) (take c (from (statement_in table) 64 0)) ≡ all (declares_statement v ls) (take c (from said_in 64 0))
      names = all_alike (statement_in table) said_in (declares_statement v ls) (λ i. (alike i).declares) 64 c 0

      declared : (all well_formed (take c (from said_in 64 0)) ≡ true) → (all (declares_statement v ls) (take c (from said_in 64 0)) ≡ true) ⊎ (all (declares_statement v ls) (take c (from said_in 64 0)) ≡ false)
          → behind_lengths v l ls (take c (from (statement_in table) 64 0)) ≡ behind_lengths v l ls (take c (from said_in 64 0))
      declared f (inl passes) = ap (behind_lengths v l ls) (same_take (statement_in table) said_in well_formed (declares_statement v ls) (λ i. (alike i).same) 64 c 0 f passes)
      declared f (inr fails) = rw (forms, f, names, fails)

      formed : (all well_formed (take c (from said_in 64 0)) ≡ true) ⊎ (all well_formed (take c (from said_in 64 0)) ≡ false)
          → behind_lengths v l ls (take c (from (statement_in table) 64 0)) ≡ behind_lengths v l ls (take c (from said_in 64 0))
      formed (inl passes) = declared passes (passes_or_fails (all (declares_statement v ls) (take c (from said_in 64 0))))
      formed (inr fails) = rw (forms, fails)

  lengths_alike : (v l a c : ℕ) → v ≤ 32 → a ≤ 8
      → judged true v l (take a (from (length_in table) 8 0)) (take c (from (statement_in table) 64 0))
      ≡ judged true v l (take a (from length_said 8 0)) (take c (from said_in 64 0))
  lengths_alike v l a c few arrays = by (passes_or_fails (all length_fits (take a (from length_said 8 0))))
    where
      fits : all length_fits (take a (from (length_in table) 8 0)) ≡ all length_fits (take a (from length_said 8 0))
      fits = all_alike (length_in table) length_said length_fits (λ i. length_alike (length_said i)) 8 a 0

      by : (all length_fits (take a (from length_said 8 0)) ≡ true) ⊎ (all length_fits (take a (from length_said 8 0)) ≡ false)
          → judged true v l (take a (from (length_in table) 8 0)) (take c (from (statement_in table) 64 0))
          ≡ judged true v l (take a (from length_said 8 0)) (take c (from said_in 64 0))
      by (inl passes) =
          let same = same_take (length_in table) length_said length_fits length_fits (λ i e again. length_same (length_said i) e) 8 a 0 passes passes in
          ap (λ (ls : List ℕ). judged true v l ls (take c (from (statement_in table) 64 0))) same
          ∙ ap (demand (all length_fits (take a (from length_said 8 0))) 3)
          (statements_alike v l c (take a (from length_said 8 0)) few (omega (arith, length-take a (from length_said 8 0))) (lengths_small (take a (from length_said 8 0)) passes))
      by (inr fails) = rw (fits, fails)

  counts_by : (v l a c : ℕ) → (counts_fit v l a c ≡ true) ⊎ (counts_fit v l a c ≡ false)
      → judged (counts_fit (byte_of v) (byte_of l) (byte_of a) (byte_of c)) (byte_of v) (byte_of l) (take (byte_of a) (from (length_in table) 8 0)) (take (byte_of c) (from (statement_in table) 64 0))
      ≡ judged (counts_fit v l a c) v l (take a (from length_said 8 0)) (take c (from said_in 64 0))
  counts_by v l a c (inl passes) =
      let h = counts_fit_lem v l a c passes in
      ap
      (λ (t : Bool). judged t (byte_of v) (byte_of l) (take (byte_of a) (from (length_in table) 8 0)) (take (byte_of c) (from (statement_in table) 64 0)))
      (counts_alike v l a c ∙ passes)
      ∙ ap (λ (n : ℕ). judged true n (byte_of l) (take (byte_of a) (from (length_in table) 8 0)) (take (byte_of c) (from (statement_in table) 64 0))) (byte_back v (omega (arith, h.variables)))
      ∙ ap (λ (n : ℕ). judged true v n (take (byte_of a) (from (length_in table) 8 0)) (take (byte_of c) (from (statement_in table) 64 0))) (byte_back l (omega (arith, h.live, h.variables)))
      ∙ ap (λ (n : ℕ). judged true v l (take n (from (length_in table) 8 0)) (take (byte_of c) (from (statement_in table) 64 0))) (byte_back a (omega (arith, h.arrays)))
      ∙ ap (λ (n : ℕ). judged true v l (take a (from (length_in table) 8 0)) (take n (from (statement_in table) 64 0))) (byte_back c (omega (arith, h.count)))
      ∙ lengths_alike v l a c h.variables h.arrays
      ∙ ap (λ (t : Bool). judged t v l (take a (from length_said 8 0)) (take c (from said_in 64 0))) (sym passes)
  counts_by v l a c (inr fails) =
      ap
      (λ (t : Bool). judged t (byte_of v) (byte_of l) (take (byte_of a) (from (length_in table) 8 0)) (take (byte_of c) (from (statement_in table) 64 0)))
      (counts_alike v l a c ∙ fails)
      ∙ ap (λ (t : Bool). judged t v l (take a (from length_said 8 0)) (take c (from said_in 64 0))) (sym fails)

  -- Taken or said, it is written with the same bytes, or refused with the same number.
  pub written_alike : write_block (block_of table) ≡ write_block (block_said table)
  unfolding block_of block_said
  written_alike =
      write_judged (block_of table)
      ∙ counts_by (number table 0) (number table 1) (number table 2) (number table 3) (passes_or_fails (counts_fit (number table 0) (number table 1) (number table 2) (number table 3)))
      ∙ sym (write_judged (block_said table))

  pub call_alike : (room : List ℕ) → write_block_call (block_of table) room ≡ write_block_call (block_said table) room
  unfolding write_block_call
  call_alike room = ap (block_written room) written_alike
