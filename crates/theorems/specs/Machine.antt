-- The card over a memory instead of lent contents, for theorems about lists: its registers, and each instruction at work. And what a list
-- that is being made stands for: the memory with each variable that is in a lane at its lane's value.
use Rattle.std.specs.Prelude.{ℕ, List, [], ◌∷◌, ◌++◌, map, get_or}
use Rattle.std.proofs.Math.Option.{Option, none, some}
use Rattle.basics.specs.Lists.{each}
use Rattle.meaning.specs.declared.Place.TheVariants.{Variable, Cell}
use Rattle.meaning.specs.declared.Statement.{Statement}
use Rattle.meaning.specs.Block.{statement}
use Rattle.meaning.specs.List.{Instruction, S, L, C, G, O, W, D, X}
use Rattle.meaning.specs.Card.{row, operate_lanes}
use Rattle.meaning.specs.Emission.{Home}
use Rattle.theorems.specs.Memory.{Memory, put, value, ran, put_each}

pub record Machine : Type 0 where
  pub memory : Memory
  pub registers : List (List ℕ)

abbrev pub lane_in : List (List ℕ) → ℕ → ℕ → ℕ
lane_in registers r lane = get_or (get_or registers r []) lane 0

abbrev pub second_in : List (List ℕ) → Option ℕ → List ℕ
second_in registers none = []
second_in registers (some r) = get_or registers r []

abbrev pub wrote : Machine → Memory → Machine
wrote c m = record { memory = m; registers = c.registers }

abbrev pub filled : Machine → List ℕ → Machine
filled c values = record { memory = c.memory; registers = c.registers ++ values ∷ [] }

-- the column "does", over memory
abbrev pub step : List Statement → Instruction → Machine → Machine
step ss (S s) c = wrote c (ran (statement ss s) c.memory)
step ss (L r k a i) c = filled c (map c.memory (row k a i))
step ss (C r cs) c = filled c cs
step ss (G r os) c = filled c (map (value c.memory) os)
step ss (O r operation k ra rb) c = filled c (operate_lanes operation (get_or c.registers ra []) (second_in c.registers rb))
step ss (W r k a i) c = wrote c (put_each (row k a i) (get_or c.registers r []) c.memory)
step ss (D r lane a i) c = wrote c (put c.memory (Cell a i) (lane_in c.registers r lane))
step ss (X r lane v) c = wrote c (put c.memory (Variable v) (lane_in c.registers r lane))

-- a list from this memory on, no register written
abbrev pub machine_after : List Statement → List Instruction → Memory → Machine
machine_after ss list m = each (step ss) list (record { memory = m; registers = [] })

-- "A variable written by a pack stays in its lane": what memory stands for, while some variables are in lanes
abbrev pub seen : Memory → List (List ℕ) → List Home → Memory
seen m registers [] = m
seen m registers (h ∷ homes) = put (seen m registers homes) (Variable h.variable) (lane_in registers h.register h.lane)
