-- What a pack leaves, in one piece: the instructions behind its fetches, the registers and the homes.
use mathlib.Core.Path.{◌≡◌, refl, sym, ap, ◌∙◌}
use mathlib.Core.Option.{Option, none, some}
use mathlib.Core.List.{List, [], ◌∷◌, ◌++◌, append_assoc, append-nil}
use Prim.Native.Nat.{ℕ, ◌+◌}
use lib.ListN.{length}
use Rattle.basics.specs.Lists.{each}
use Rattle.meaning.specs.declared.Place.TheVariants.{Variable, Cell}
use Rattle.meaning.specs.declared.Operand.{Operand}
use Rattle.meaning.specs.declared.Operand.TheVariants.{Nothing, Constant, Held}
use Rattle.meaning.specs.declared.Statement.{Statement}
use Rattle.meaning.specs.Block.{statement}
use Rattle.meaning.specs.List.{Instruction, W, D}
use Rattle.meaning.specs.Emission.{Emitted, written, row_start, next, destinations, operation_of, emit_operation, store_each, store_tuple, written_operand, homes_from, landed, emit}
use Rattle.theorems.specs.Steps.{holding, places_of, stores_from, stores, ended_by, away_from, packed}

-- some instructions more
abbrev pub behind : Emitted → List Instruction → Emitted
behind e list = record { instructions = e.instructions ++ list; registers = e.registers; homes = e.homes }

behind_none : (e : Emitted) → behind e [] ≡ e
behind_none e = ap (λ (list : List Instruction). record { instructions = list; registers = e.registers; homes = e.homes }) (append-nil e.instructions)

behind_one : (e : Emitted) (i : Instruction) (list : List Instruction) → behind (emit i e) list ≡ behind e (i ∷ list)
behind_one e i list =
    ap (λ (all : List Instruction). record { instructions = all; registers = e.registers; homes = e.homes }) (append_assoc e.instructions (i ∷ []) list)

pub each_stored : (r lane : ℕ) (os : List Operand) (e : Emitted) → store_each r lane os e ≡ behind e (stores_from r lane os)
each_stored r lane [] e = sym (behind_none e)
each_stored r lane (Nothing ∷ os) e = each_stored r (lane + 1) os e
each_stored r lane (Constant c ∷ os) e = each_stored r (lane + 1) os e
each_stored r lane (Held (Variable v) ∷ os) e = each_stored r (lane + 1) os e
each_stored r lane (Held (Cell a i) ∷ os) e = each_stored r (lane + 1) os (emit (D r lane a i) e) ∙ behind_one e (D r lane a i) (stores_from r (lane + 1) os)

pub tuple_stored : (r : ℕ) (tuple : List Operand) (e : Emitted) → store_tuple r tuple e ≡ behind e (stores r tuple (row_start tuple))
unfolding store_tuple
tuple_stored r tuple e = by (row_start tuple)
  where
    by : (row : Option (ℕ × ℕ))
        → elim row [ some start ↦ emit (W r (length tuple) start.0 start.1) e | none ↦ store_each r 0 tuple e ] ≡ behind e (stores r tuple row)
    by (some beginning) = refl
    by none = each_stored r 0 tuple e

-- the writes of a unit, one after the other
pub each_written : (ss : List Statement) (unit : List ℕ) (e : Emitted)
    → each written_operand (destinations ss unit) e
    ≡ record { instructions = e.instructions; registers = ended_by (places_of ss unit) e.registers; homes = away_from (places_of ss unit) e.homes }
unfolding written
each_written ss [] e = refl
each_written ss (s ∷ unit) e = each_written ss unit (written (statement ss s).destination e)

-- So a pack's O and all behind it.
pub landed_packed : (ss : List Statement) (unit : List ℕ) (ra : ℕ) (rb : Option ℕ) (e : Emitted)
    → landed (destinations ss unit) (store_tuple (next e) (destinations ss unit) (emit_operation (operation_of ss unit) (length unit) ra rb e))
    ≡ packed ss unit ra rb e
unfolding landed
landed_packed ss unit ra rb e =
    let after = emit_operation (operation_of ss unit) (length unit) ra rb e in
    ap (landed (destinations ss unit)) (tuple_stored (next e) (destinations ss unit) after)
    ∙ ap
    (λ (x : Emitted). record {
      instructions = x.instructions;
      registers = x.registers ++ holding (destinations ss unit) ∷ [];
      homes = x.homes ++ homes_from (next e) 0 (destinations ss unit);
    })
    (each_written ss unit (behind after (stores (next e) (destinations ss unit) (row_start (destinations ss unit)))))
