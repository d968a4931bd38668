-- The bytes that emission leaves are those of the packed list.
use mathlib.Core.Path.{◌≡◌, sym, ap, subst, ◌∙◌}
use Prim.Native.Nat.{ℕ, ◌≤◌}
use mathlib.Core.Bool.{true}
use mathlib.Core.List.{List}
use native.Mathlib.Omega.{arith}
use lib.ListN.{length, take, length-take}
use Rattle.basics.specs.Lists.{all}
use Rattle.basics.proofs.Lists.{take_least}
use Rattle.meaning.specs.declared.Statement.{Statement}
use Rattle.meaning.specs.declared.Block.{Block as Slots}
use Rattle.meaning.specs.Block.{Block, declared}
use Rattle.meaning.specs.Choice.{scheduled_units, packed_list}
use Rattle.theorems.proofs.ScheduleRuns.{units_of_lem}
use Rattle.codes.specs.Fitting.{statement_fits}
use Rattle.facts.specs.declared.Tables.{Tables}
use Rattle.facts.specs.Tied.{Stated}
use Rattle.units.specs.Words.{InOrder}
use Rattle.encode.specs.declared.Written.{Written}
use Rattle.encode.specs.Records.{Listing, listing}
use Rattle.emit.specs.Emitting.{emission_in}
use Rattle.emit.proofs.End.{emission_made}
use Rattle.choice.specs.Promises.{Legal, Holds}
use Rattle.phases.specs.Prepared.{Prepared, TablesPrepared}
use Rattle.phases.proofs.Fits.{legal_fits}

-- The packed list stands in the first bytes.
pub packed_made : (b : Block) (facts numbers writers lefts rights order out after : List ℕ) (size : ℕ) (w : Written)
    → Prepared b facts numbers writers lefts rights → InOrder (scheduled_units b.statements) order size → 3844 ≤ length out
    → listing after w ≡ emission_in facts numbers writers order size b.live out → Holds b.statements (packed_list b) after w.size w.price
unfolding packed_list
packed_made b facts numbers writers lefts rights order out after size w prepared ordered room made =
    let legal = prepared.legal in
    let m =
    emission_made b legal.readable legal.constants (scheduled_units b.statements) (units_of_lem b.statements) facts numbers writers order size out
    (record { stated = prepared.stated; fit = legal_fits b legal; formed = legal.readable.formed; few = legal.readable.count })
    prepared.named.writing ordered room in
    subst (λ (l : Listing). Holds b.statements (packed_list b) l.out l.written.size l.written.price) (sym made)
    (record { bytes = m.bytes; sized = m.size; room = m.room; priced = m.price })

-- The same of the struct in place of five lists.
pub tables_packed : (b : Block) (t : Tables) (order out after : List ℕ) (size : ℕ) (w : Written) → Legal b → TablesPrepared b.statements t
    → InOrder (scheduled_units b.statements) order size → 3844 ≤ length out → listing after w ≡ emission_in t.facts t.numbers t.writers order size b.live out
    → Holds b.statements (packed_list b) after w.size w.price
tables_packed b t order out after size w legal prepared =
    packed_made b t.facts t.numbers t.writers t.lefts t.rights order out after size w
    (record { legal = legal; stated = prepared.stated; defined = prepared.defined; named = prepared.named })

-- The same of the slots in front, as many as are declared.
module _ (block : Slots) (n : ℕ) (counted : n ≡ length (declared block).statements) where
  pub slots_declared : take n block.statements ≡ (declared block).statements
  slots_declared =
      ap (λ (k : ℕ). take k block.statements) (counted ∙ length-take block.count block.statements)
      ∙ take_least block.count block.statements

  module _ (legal : Legal (declared block)) where
    pub slots_few : length (take n block.statements) ≤ 64
    slots_few = omega (arith, ap length slots_declared, legal.readable.count)

    pub slots_fit : all statement_fits (take n block.statements) ≡ true
    slots_fit = ap (all statement_fits) slots_declared ∙ legal_fits (declared block) legal

    module _ (t : Tables) (prepared : TablesPrepared (take n block.statements) t) where
      told : TablesPrepared (declared block).statements t
      told = subst (λ (ss : List Statement). TablesPrepared ss t) slots_declared prepared

      pub slots_stated : Stated (declared block).statements t.facts
      slots_stated = told.stated

      pub slots_packed : (order out after : List ℕ) (size : ℕ) (w : Written)
          → InOrder (scheduled_units (take n block.statements)) order size → 3844 ≤ length out
          → listing after w ≡ emission_in t.facts t.numbers t.writers order size block.live out
          → Holds (declared block).statements (packed_list (declared block)) after w.size w.price
      slots_packed order out after size w ordered room made =
          tables_packed (declared block) t order out after size w legal told
          (subst (λ (ss : List Statement). InOrder (scheduled_units ss) order size) slots_declared ordered) room made
