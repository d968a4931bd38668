-- Footprints: the cells that a statement and an instruction read, and those that they write; so of a block and of a list.
use Rattle.std.specs.Prelude.{Bool, List, [], ◌∷◌, ◌++◌, map}
use Rattle.basics.specs.Lists.{any, flat}
use Rattle.meaning.specs.declared.Place.{Place}
use Rattle.meaning.specs.declared.Place.TheVariants.{Variable, Cell}
use Rattle.meaning.specs.declared.Operand.{Operand}
use Rattle.meaning.specs.declared.Operand.TheVariants.{Nothing, Constant, Held}
use Rattle.meaning.specs.declared.Statement.{Statement}
use Rattle.meaning.specs.Block.{statement, same}
use Rattle.meaning.specs.List.{Instruction, S, L, C, G, O, W, D, X}
use Rattle.meaning.specs.Card.{row}

-- the cell that a place is, and that an operand is
abbrev pub cell_of : Place → List Place
cell_of (Variable v) = []
cell_of (Cell a i) = Cell a i ∷ []

abbrev pub cell_read : Operand → List Place
cell_read Nothing = []
cell_read (Constant c) = []
cell_read (Held p) = cell_of p

-- a statement reads its operands and writes its destination
abbrev pub statement_reads : Statement → List Place
statement_reads s = cell_read s.left ++ cell_read s.right

abbrev pub statement_writes : Statement → List Place
statement_writes s = cell_of s.destination

-- the column "does"
abbrev pub instruction_reads : List Statement → Instruction → List Place
instruction_reads ss (S s) = statement_reads (statement ss s)
instruction_reads ss (L r k a i) = row k a i
instruction_reads ss (C r cs) = []
instruction_reads ss (G r os) = flat (map cell_read os)
instruction_reads ss (O r operation k ra rb) = []
instruction_reads ss (W r k a i) = []
instruction_reads ss (D r lane a i) = []
instruction_reads ss (X r lane v) = []

abbrev pub instruction_writes : List Statement → Instruction → List Place
instruction_writes ss (S s) = statement_writes (statement ss s)
instruction_writes ss (L r k a i) = []
instruction_writes ss (C r cs) = []
instruction_writes ss (G r os) = []
instruction_writes ss (O r operation k ra rb) = []
instruction_writes ss (W r k a i) = row k a i
instruction_writes ss (D r lane a i) = Cell a i ∷ []
instruction_writes ss (X r lane v) = []

-- of a block, and of a list beside its block
abbrev pub block_reads : List Statement → List Place
block_reads ss = flat (map statement_reads ss)

abbrev pub block_writes : List Statement → List Place
block_writes ss = flat (map statement_writes ss)

abbrev pub list_reads : List Statement → List Instruction → List Place
list_reads ss list = flat (map (instruction_reads ss) list)

abbrev pub list_writes : List Statement → List Instruction → List Place
list_writes ss list = flat (map (instruction_writes ss) list)

-- the place is one of these
abbrev pub is_in : List Place → Place → Bool
is_in ps p = any (same p) ps
