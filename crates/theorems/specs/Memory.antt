-- Memory as a function from places to values, for theorems about runs: a store is one function more, with no side conditions. The contents
-- that a caller lends are such a memory where the block declares the places.
use Rattle.std.specs.Prelude.{ℕ, List, [], ◌∷◌, map}
use Rattle.basics.specs.Choice.{pick}
use Rattle.meaning.specs.declared.Place.{Place}
use Rattle.meaning.specs.declared.Operand.{Operand}
use Rattle.meaning.specs.declared.Operand.TheVariants.{Nothing, Constant, Held}
use Rattle.meaning.specs.declared.Statement.{Statement}
use Rattle.meaning.specs.Block.{Block, statement, same, declares_place}
use Rattle.meaning.specs.Machine.{Contents, operate, fetch_place}

abbrev pub Memory : Type 0
Memory = Place → ℕ

abbrev pub put : Memory → Place → ℕ → Memory
put m p n q = pick (same p q) n (m q)

abbrev pub value : Memory → Operand → ℕ
value m Nothing = 0
value m (Constant c) = c
value m (Held p) = m p

-- what a statement computes, and the memory after it
abbrev pub result : Memory → Statement → ℕ
result m s = operate s.operation (value m s.left) (value m s.right)

abbrev pub ran : Statement → Memory → Memory
ran s m = put m s.destination (result m s)

-- a unit at one stroke: all its statements read, and then each writes, the first lane first
abbrev pub put_each : List Place → List ℕ → Memory → Memory
put_each [] values m = m
put_each (p ∷ ps) [] m = m
put_each (p ∷ ps) (n ∷ values) m = put_each ps values (put m p n)

abbrev pub at_one_stroke : List Statement → List ℕ → Memory → Memory
at_one_stroke ss unit m =
    put_each (map (λ s. (statement ss s).destination) unit) (map (λ s. result m (statement ss s)) unit) m

-- the lent contents as a memory
abbrev pub view : Block → Contents → Memory
view b lent p = pick (declares_place b.variables b.lengths p) (fetch_place b.lengths lent p) 0
