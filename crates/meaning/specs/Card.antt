-- What running a list does, beside its block: the card's registers, and each instruction at work on them and on the contents lent.
use Rattle.std.specs.Prelude.{ℕ, zero, suc, ◌+◌, List, [], ◌∷◌, ◌++◌, map, get_or}
use Rattle.std.proofs.Math.Option.{Option, none, some}
use Rattle.basics.specs.Lists.{each}
use Rattle.meaning.specs.declared.Place.{Place}
use Rattle.meaning.specs.declared.Place.TheVariants.{Variable, Cell}
use Rattle.meaning.specs.Block.{Block, statement}
use Rattle.meaning.specs.Machine.{Contents, operate, fetch_place, fetch, store, run_statement}
use Rattle.meaning.specs.List.{Instruction, S, L, C, G, O, W, D, X}

-- the contents lent, and the lanes of each register written so far
pub record Card : Type 0 where
  pub contents : Contents
  pub registers : List (List ℕ)

abbrev pub lanes_of : Card → ℕ → List ℕ
lanes_of c r = get_or c.registers r []

abbrev pub lane_of : Card → ℕ → ℕ → ℕ
lane_of c r i = get_or (lanes_of c r) i 0

-- k cells in a row
abbrev pub row : ℕ → ℕ → ℕ → List Place
row zero array index = []
row (suc k) array index = Cell array index ∷ row k array (index + 1)

-- each place takes the lane that stands at its number
abbrev pub store_lanes : List ℕ → List Place → List ℕ → Contents → Contents
store_lanes lengths [] values m = m
store_lanes lengths (p ∷ ps) [] m = m
store_lanes lengths (p ∷ ps) (value ∷ values) m = store_lanes lengths ps values (store lengths p value m)

-- "works lane by lane"; a copy has no second register
abbrev pub operate_lanes : ℕ → List ℕ → List ℕ → List ℕ
operate_lanes operation [] bs = []
operate_lanes operation (a ∷ lanes) [] = operate operation a 0 ∷ operate_lanes operation lanes []
operate_lanes operation (a ∷ lanes) (b ∷ others) = operate operation a b ∷ operate_lanes operation lanes others

abbrev pub second_lanes : Card → Option ℕ → List ℕ
second_lanes c none = []
second_lanes c (some r) = lanes_of c r

-- a new register
abbrev pub loaded : Card → List ℕ → Card
loaded c values = record { contents = c.contents; registers = c.registers ++ values ∷ [] }

-- other contents
abbrev pub holding : Card → Contents → Card
holding c m = record { contents = m; registers = c.registers }

-- the column "does"; S reads variables from memory, never from lanes
unfoldable pub run_instruction : Block → Instruction → Card → Card
run_instruction b (S s) c = holding c (run_statement b.lengths (statement b.statements s) c.contents)
run_instruction b (L r k a i) c = loaded c (map (fetch_place b.lengths c.contents) (row k a i))
run_instruction b (C r cs) c = loaded c cs
run_instruction b (G r os) c = loaded c (map (fetch b.lengths c.contents) os)
run_instruction b (O r operation k ra rb) c = loaded c (operate_lanes operation (lanes_of c ra) (second_lanes c rb))
run_instruction b (W r k a i) c = holding c (store_lanes b.lengths (row k a i) (lanes_of c r) c.contents)
run_instruction b (D r lane a i) c = holding c (store b.lengths (Cell a i) (lane_of c r lane) c.contents)
run_instruction b (X r lane v) c = holding c (store b.lengths (Variable v) (lane_of c r lane) c.contents)

-- "A list is always run beside its block."
unfoldable pub run_list : Block → List Instruction → Contents → Contents
run_list b list m = (each (run_instruction b) list (record { contents = m; registers = [] })).contents
