-- "Then the destination: W if neighbours, D per lane for other cells, nothing for variables."
use Rattle.std.proofs.Common.{◌≡◌, ℕ, Bool, true, false, List, [], ◌∷◌, ◌++◌, length, get_or, sym, ap, subst, append-nil}
use mathlib.Core.Option.{Option, none, some}
use lib.Seq.{append_snoc}
use Rattle.basics.specs.Lists.{all}
use Rattle.basics.proofs.Tests.{and_left, and_right}
use Rattle.meaning.specs.declared.Place.TheVariants.{Variable, Cell}
use Rattle.meaning.specs.declared.Operand.{Operand}
use Rattle.meaning.specs.declared.Operand.TheVariants.{Nothing, Constant, Held}
use Rattle.meaning.specs.declared.Statement.{Statement}
use Rattle.meaning.specs.List.{Instruction, W, D}
use Rattle.meaning.specs.Emission.{Emitted, emit, are_in_row, row_start, store_lane, store_each, store_tuple as store_all}
use Rattle.theorems.specs.Steps.{stores}
use Rattle.theorems.proofs.Landing.{tuple_stored}
use Rattle.codes.specs.Codes.{operand_code}
use Rattle.codes.specs.Fitting.{operand_fits}
use Rattle.codes.proofs.Places.{cell_code_lem}
use Rattle.codes.proofs.Operands.{constant_not_cell}
use Rattle.encode.specs.Records.{Listing}
use Rattle.encode.proofs.Encoding.{Short, shorter, Listed, record_listed}
use Rattle.registers.proofs.Laned.{Laned, two, four, tuple_of}
use Rattle.fetch.specs.Fetching.{tuple_in_row}
use Rattle.fetch.proofs.Tuples.{row_codes, RowAs, row_as, row_record}
use Rattle.emit.specs.Emitting.{store_code, store_tuple}

-- the bytes are those of the instructions, as long as the list is short
abbrev Writes : List ℕ → List Statement → Emitted → Listing → Type 0
Writes base ss e l = Short ss e.instructions → Listed base ss e.instructions l

module _ (base : List ℕ) (ss : List Statement) (r : ℕ) where
  lane_stored : (lane : ℕ) (o : Operand) (e : Emitted) (l : Listing) → operand_fits o ≡ true → Writes base ss e l
      → Writes base ss (store_lane r lane o e) (store_code r lane (operand_code o) l)
  lane_stored lane Nothing e l fits h short = h short
  lane_stored lane (Constant c) e l fits h short = rw (constant_not_cell c) (h short)
  lane_stored lane (Held (Variable v)) e l fits h short = rw (cell_code_lem (Variable v) fits) (h short)
  lane_stored lane (Held (Cell a i)) e l fits h short =
      rw (cell_code_lem (Cell a i) fits, row_record 6 r lane a i 2 l fits)
      (record_listed base ss e.instructions l (D r lane a i) (h (shorter ss e.instructions (D r lane a i) short)) short)

  lanes_stored : (os : List Operand) (e : Emitted) (l : Listing) → Laned os → all operand_fits os ≡ true → Writes base ss e l
      → Writes base ss (store_each r 0 os e)
      (store_code r 3 (operand_code (get_or os 3 Nothing)) (store_code r 2 (operand_code (get_or os 2 Nothing))
      (store_code r 1 (operand_code (get_or os 1 Nothing)) (store_code r 0 (operand_code (get_or os 0 Nothing)) l))))
  lanes_stored os e l (two a b) fit h =
      lane_stored 1 b (store_lane r 0 a e) (store_code r 0 (operand_code a) l) (and_left (operand_fits b) _ (and_right (operand_fits a) _ fit))
      (lane_stored 0 a e l (and_left (operand_fits a) _ fit) h)
  lanes_stored os e l (four a b c d) fit h =
      let fb = and_right (operand_fits a) _ fit in
      let fc = and_right (operand_fits b) _ fb in
      let fd = and_right (operand_fits c) _ fc in
      let e1 = store_lane r 0 a e in
      let l1 = store_code r 0 (operand_code a) l in
      let e2 = store_lane r 1 b e1 in
      let l2 = store_code r 1 (operand_code b) l1 in
      let e3 = store_lane r 2 c e2 in
      let l3 = store_code r 2 (operand_code c) l2 in
      lane_stored 3 d e3 l3 (and_left (operand_fits d) _ fd)
      (lane_stored 2 c e2 l2 (and_left (operand_fits c) _ fc)
      (lane_stored 1 b e1 l1 (and_left (operand_fits b) _ fb) (lane_stored 0 a e l (and_left (operand_fits a) _ fit) h)))

  all_stored : (os : List Operand) (e : Emitted) (l : Listing) → Laned os → all operand_fits os ≡ true → Writes base ss e l
      → Writes base ss (store_all r os e) (store_tuple r (tuple_of os) l)
  unfolding store_all store_tuple
  all_stored os e l shape fit h = by (are_in_row os) (row_start os) (row_codes os shape fit) (row_as os shape fit)
    where
      by : (t : Bool) (row : Option (ℕ × ℕ)) → tuple_in_row (tuple_of os) ≡ t → RowAs os t row
          → Writes base ss (elim row [ some start ↦ emit (W r (length os) start.0 start.1) e | none ↦ store_each r 0 os e ]) (store_tuple r (tuple_of os) l)
      by true none t is = absurd is
      by false (some beginning) t is = absurd is
      by true (some beginning) t is =
          λ short.
          let i = W r (length os) beginning.0 beginning.1 in
          rw (t, is.0, row_record 5 r (length os) beginning.0 beginning.1 1 l is.1)
          (record_listed base ss e.instructions l i (h (shorter ss e.instructions i short)) short)
      by false none t is = λ short. rw t (lanes_stored os e l shape fit h short)

  -- The stores of a pack are behind what was written before.
  pub stored_listed : (os : List Operand) (e : Emitted) (l : Listing) → Laned os → all operand_fits os ≡ true → Listed base ss e.instructions l
      → Short ss (e.instructions ++ stores r os (row_start os))
      → Listed base ss (e.instructions ++ stores r os (row_start os)) (store_tuple r (tuple_of os) l)
  stored_listed os e l shape fit h short =
      let same = ap (λ (x : Emitted). x.instructions) (tuple_stored r os e) in
      subst (λ (list : List Instruction). Listed base ss list (store_tuple r (tuple_of os) l)) same
      (all_stored os e l shape fit (λ before. h) (subst (Short ss) (sym same) short))

-- a list is short before more is emitted
pub shorter_front : (ss : List Statement) (list more : List Instruction) → Short ss (list ++ more) → Short ss list
shorter_front ss list [] h = subst (Short ss) (append-nil list) h
shorter_front ss list (i ∷ more) h =
    shorter ss list i (shorter_front ss (list ++ i ∷ []) more (subst (Short ss) (sym (append_snoc list i more)) h))
