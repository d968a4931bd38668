-- "S for every statement in block order": the bytes that are written are those of the plain list.
use mathlib.Core.Path.{◌≡◌, refl, sym, ap, subst, ◌∙◌}
use Prim.Native.Nat.{ℕ, zero, suc, ◌+◌, ◌*◌, ◌≤◌, ◌<◌}
use mathlib.Core.List.{List, [], ◌∷◌, ◌++◌}
use native.Mathlib.Omega.{arith}
use lib.ListN.{length}
use Rattle.basics.proofs.Counting.{count_both}
use Rattle.meaning.specs.declared.Statement.{Statement}
use Rattle.meaning.specs.Block.{Block, statement}
use Rattle.meaning.specs.List.{Instruction, S, records_bytes, list_price}
use Rattle.meaning.specs.Choice.{plain_from, plain_list}
use Rattle.meaning.proofs.Lengths.{plain_length}
use Rattle.meaning.proofs.Bounds.{statement_price_lem}
use Rattle.facts.specs.Facts.{fact_at}
use Rattle.facts.specs.Tied.{Stated}
use Rattle.encode.specs.Records.{Listing, listing, write_s, nothing_written}
use Rattle.encode.proofs.Encoding.{Short, Listed, record_listed}
use Rattle.encode.proofs.Header.{headed_made}
use Rattle.choice.specs.Promises.{Holds}
use Rattle.choice.specs.Plain.{plain_records, plain_in}

-- one more at the end
plain_behind : (n i : ℕ) → plain_from n i ++ S (i + n) ∷ [] ≡ plain_from (suc n) i
plain_behind zero i = ap (λ (s : ℕ). S s ∷ []) (omega arith)
plain_behind (suc n) i =
    let e : i + suc n ≡ i + 1 + n = omega arith in
    ap (λ (list : List Instruction). S i ∷ list) (ap (λ (s : ℕ). plain_from n (i + 1) ++ S s ∷ []) e ∙ plain_behind n (i + 1))

plain_records_lem : (n i : ℕ) → length (records_bytes (plain_from n i)) ≡ 3 * n
plain_records_lem zero i = refl
plain_records_lem (suc n) i = omega (arith, plain_records_lem n (i + 1))

plain_price : (ss : List Statement) (n i : ℕ) → list_price ss (plain_from n i) ≤ 4 * n
unfolding list_price
plain_price ss zero i = omega arith
plain_price ss (suc n) i = omega (arith, statement_price_lem (statement ss i), plain_price ss n (i + 1))

plain_short : (ss : List Statement) (n : ℕ) → n ≤ 64 → Short ss (plain_from n 0)
plain_short ss n few =
    record {
      bytes = omega (arith, plain_records_lem n 0);
      few = omega (arith, plain_length n 0);
      cheap = omega (arith, plain_price ss n 0);
    }

module _ (b : Block) (facts out : List ℕ) (stated : Stated b.statements facts) (few : length b.statements ≤ 64) (room : 200 ≤ length out) where
  abbrev ss : List Statement
  ss = b.statements

  records_listed : Listed out ss (plain_from (length ss) 0) (plain_records facts (length ss) out)
  unfolding plain_records list_price
  records_listed =
      count_both (λ i l other. Listed out ss (plain_from i 0) l) (λ s. write_s s (fact_at facts 256 s)) (λ i other. other) (length ss) (listing out nothing_written) 0
      (record { out = refl; size = refl; count = refl; price = refl })
      step
    where
      step : (s : ℕ) (l : Listing) (other : ℕ) → s < length ss → Listed out ss (plain_from s 0) l → Listed out ss (plain_from (s + 1) 0) (write_s s (fact_at facts 256 s) l)
      step s l other below listed =
          let zero-on : 0 + s ≡ s = omega arith in
          let one_more : suc s ≡ s + 1 = omega arith in
          let longer : plain_from s 0 ++ S s ∷ [] ≡ plain_from (s + 1) 0 =
          ap (λ (t : ℕ). plain_from s 0 ++ S t ∷ []) (sym zero-on) ∙ plain_behind s 0 ∙ ap (λ (k : ℕ). plain_from k 0) one_more in
          subst (λ (list : List Instruction). Listed out ss list (write_s s (fact_at facts 256 s) l)) longer
          (subst (λ (price : ℕ). Listed out ss (plain_from s 0 ++ S s ∷ []) (write_s s price l)) (sym (stated.prices s below))
          (record_listed out ss (plain_from s 0) l (S s) listed
          (subst (Short ss) (sym longer) (plain_short ss (s + 1) (omega arith)))))

  -- The plain list stands in the first bytes.
  pub plain_holds : let l = plain_in facts (length ss) out in Holds ss (plain_list b) l.out l.written.size l.written.price
  unfolding plain_list
  plain_holds =
      let list = plain_from (length ss) 0 in
      let enough : 4 + length (records_bytes list) ≤ length out = omega (arith, plain_records_lem (length ss) 0) in
      let short : length list < 256 = omega (arith, plain_length (length ss) 0) in
      let made = headed_made out ss list (plain_records facts (length ss) out) records_listed enough short in
      record { bytes = made.bytes; sized = made.size; room = made.room; priced = made.price }
