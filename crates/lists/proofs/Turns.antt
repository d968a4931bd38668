-- One turn of the two loops over a list's records: one record more, one that stops the loop, and the end of the bytes.
use mathlib.Core.Path.{◌≡◌, refl, sym, ap, ◌∙◌}
use mathlib.Core.Bool.{Bool, true, false, true≢false, false≢true}
use mathlib.Core.Option.{Option, none, some}
use mathlib.Core.List.{List, [], ◌∷◌, ◌++◌, append-nil}
use Prim.Native.Nat.{ℕ, zero, suc, ◌+◌, ◌-◌, ◌≤◌, ◌<◌}
use native.Mathlib.Nat.{add-zero}
use native.Mathlib.Numerals.{add-one}
use native.Mathlib.Omega.{arith}
use lib.Dec.{leb}
use lib.ListN.{length, take, drop, set}
use lib.Seq.{take-set-le, take-suc-set}
use Rattle.basics.specs.Choice.{pick}
use Rattle.basics.proofs.Counting.{more, none_left}
use Rattle.meaning.specs.Block.{Block}
use Rattle.meaning.specs.List.{Instruction as Meaning, read_records, is_allowed, written_after, allowed}
use Rattle.instructions.specs.declared.Instruction.{Instruction}
use Rattle.instructions.specs.declared.Instruction.TheVariants.{S, L, C, G, Copy, O, W, D, X}
use Rattle.instructions.specs.Meant.{meant, read_meant}
use Rattle.std.specs.Prelude.{Option as Maybe, Some, None, is_none}
use Rattle.instructions.specs.Next.{instruction_at, end_at, behind}
use Rattle.instructions.proofs.Places.{records_at, records_end}
use Rattle.rules.specs.Rules.{one_allowed, afterward, registers_written, lanes_written, obeys_rules}
use Rattle.rules.proofs.Tied.{obeys_allowed, writes}
use Rattle.lists.specs.Whole.{is_some, allowed_of}

one_read : (read : Option Meaning) (rest : Option (List Meaning)) → is_some read ≡ true → is_some (behind read rest) ≡ is_some rest
one_read none rest e = absurd (false≢true e)
one_read (some i) none e = refl
one_read (some i) (some list) e = refl

none_read : (read : Option Meaning) (rest : Option (List Meaning)) → is_some read ≡ false → is_some (behind read rest) ≡ false
none_read none rest e = refl
none_read (some i) rest e = absurd (true≢false e)

end_read : (test : Bool) → is_some (pick {A = Option (List Meaning)} test (some []) none) ≡ test
end_read true = refl
end_read false = refl

pub some_read : (o : Maybe Instruction) → is_none o ≡ false → is_some (read_meant o) ≡ true
some_read None e = absurd (true≢false e)
some_read (Some i) e = refl

pub no_read : (o : Maybe Instruction) → is_none o ≡ true → is_some (read_meant o) ≡ false
no_read None e = refl
no_read (Some i) e = absurd (false≢true e)

-- what is left of the records, at record i, which stands at a place of the bytes
module _ (bytes : List ℕ) (count i start : ℕ) where
  remaining :
      i < count
      → read_records (count - i) (drop start bytes)
      ≡ behind (instruction_at bytes start) (read_records (count - (i + 1)) (drop (end_at bytes start) bytes))
  remaining low = rw (more count i low) (records_at bytes start (count - (i + 1)))

  all_met : count ≤ i → read_records (count - i) (drop start bytes) ≡ pick (leb (length bytes) start) (some []) none
  all_met past = rw (none_left count i past) (records_end bytes start)

  pub read_more :
      (read : Option Meaning) → i < count → read ≡ instruction_at bytes start → is_some read ≡ true
      → is_some (read_records (count - i) (drop start bytes)) ≡ is_some (read_records (count - (i + 1)) (drop (end_at bytes start) bytes))
  read_more read low e is =
      ap is_some (remaining low) ∙ one_read (instruction_at bytes start) (read_records (count - (i + 1)) (drop (end_at bytes start) bytes)) (ap is_some (sym e) ∙ is)

  pub read_stop :
      (read : Option Meaning) → i < count → read ≡ instruction_at bytes start → is_some read ≡ false
      → is_some (read_records (count - i) (drop start bytes)) ≡ false
  read_stop read low e is =
      ap is_some (remaining low) ∙ none_read (instruction_at bytes start) (read_records (count - (i + 1)) (drop (end_at bytes start) bytes)) (ap is_some (sym e) ∙ is)

  pub read_end : count ≤ i → is_some (read_records (count - i) (drop start bytes)) ≡ leb (length bytes) start
  read_end past = ap is_some (all_met past) ∙ end_read (leb (length bytes) start)

module _ (b : Block) (written : List ℕ) where
  allowed_first : (i : Meaning) (list : List Meaning) → is_allowed b written i ≡ true → allowed b written (i ∷ list) ≡ allowed b (written_after written i) list
  unfolding allowed
  allowed_first i list e = rw e

  refused_first : (i : Meaning) (list : List Meaning) → is_allowed b written i ≡ false → allowed b written (i ∷ list) ≡ false
  unfolding allowed
  refused_first i list e = rw e

  one_allowed_lem :
      (read : Option Meaning) (rest : Option (List Meaning)) → one_allowed b written read ≡ true
      → allowed_of b written (behind read rest) ≡ allowed_of b (afterward written read) rest
  one_allowed_lem none rest e = absurd (false≢true e)
  one_allowed_lem (some i) none e = refl
  one_allowed_lem (some i) (some list) e = allowed_first i list e

  one_refused :
      (read : Option Meaning) (rest : Option (List Meaning)) → one_allowed b written read ≡ false → allowed_of b written (behind read rest) ≡ false
  one_refused none rest e = refl
  one_refused (some i) none e = refl
  one_refused (some i) (some list) e = refused_first i list e

  end_allowed : (test : Bool) → allowed_of b written (pick test (some []) none) ≡ test
  unfolding allowed
  end_allowed true = refl
  end_allowed false = refl

pub few : (i : Instruction) → registers_written i ≤ 1
few (S s) = omega arith
few (L r k a i) = omega arith
few (C r k c₀ c₁ c₂ c₃) = omega arith
few (G r k o₀ o₁ o₂ o₃) = omega arith
few (Copy r k ra) = omega arith
few (O r operation k ra rb) = omega arith
few (W r k a i) = omega arith
few (D r lane a i) = omega arith
few (X r lane v) = omega arith

-- the lanes are stored behind those of the registers so far, and counted where a register is written
grown : (l : List ℕ) (n r x : ℕ) → n < length l → r ≤ 1 → take (n + r) (set l n x) ≡ take n l ++ take r (x ∷ [])
grown l n zero x below h = rw (add-zero, append-nil) (take-set-le n l n x (omega arith))
grown l n (suc zero) x below h = rw add-one (take-suc-set l n x below)
grown l n (suc (suc r)) x below h = absurd (omega arith)

module _ (bytes : List ℕ) (count i start : ℕ) (b : Block) (statements variables : ℕ) (lengths : List ℕ)
    (e₁ : length b.statements ≡ statements) (e₂ : b.variables ≡ variables) (e₃ : b.lengths ≡ lengths) where
  pub judged : (w : List ℕ) (r : Instruction) → obeys_rules statements variables lengths w r ≡ is_allowed b w (meant r)
  judged w r = rw (← e₁, ← e₂, ← e₃) (obeys_allowed b w r)

  pub allowed_more :
      (l : List ℕ) (n : ℕ) (r : Instruction) → n < length l → i < count → some (meant r) ≡ instruction_at bytes start
      → obeys_rules statements variables lengths (take n l) r ≡ true
      → allowed_of b (take n l) (read_records (count - i) (drop start bytes))
      ≡ allowed_of b (take (n + registers_written r) (set l n (lanes_written r))) (read_records (count - (i + 1)) (drop (end_at bytes start) bytes))
  allowed_more l n r below low e obeyed =
      let rest = read_records (count - (i + 1)) (drop (end_at bytes start) bytes) in
      ap (allowed_of b (take n l)) (remaining bytes count i start low)
      ∙ one_allowed_lem b (take n l) (instruction_at bytes start) rest (ap (one_allowed b (take n l)) (sym e) ∙ sym (judged (take n l) r) ∙ obeyed)
      ∙ ap (λ (w : List ℕ). allowed_of b w rest)
      (ap (afterward (take n l)) (sym e) ∙ writes (take n l) r ∙ sym (grown l n (registers_written r) (lanes_written r) below (few r)))

pub allowed_stop :
    (bytes : List ℕ) (count i start : ℕ) (b : Block) (w : List ℕ) (read : Option Meaning) → i < count → read ≡ instruction_at bytes start
    → one_allowed b w read ≡ false
    → allowed_of b w (read_records (count - i) (drop start bytes)) ≡ false
allowed_stop bytes count i start b w read low e refused =
    ap (allowed_of b w) (remaining bytes count i start low)
    ∙ one_refused b w (instruction_at bytes start) (read_records (count - (i + 1)) (drop (end_at bytes start) bytes)) (ap (one_allowed b w) (sym e) ∙ refused)

pub allowed_end :
    (bytes : List ℕ) (count i start : ℕ) (b : Block) (w : List ℕ) → count ≤ i
    → allowed_of b w (read_records (count - i) (drop start bytes)) ≡ leb (length bytes) start
allowed_end bytes count i start b w past = ap (allowed_of b w) (all_met bytes count i start past) ∙ end_allowed b w (leb (length bytes) start)
