-- One instruction at work, given the statement that it names and the lanes of the registers that it reads: the contents afterwards, and the
-- lanes of the register that it writes.
use Rattle.std.specs.Prelude.{ℕ, Bool, true, false, List, [], ◌∷◌, map, get_or, take}
use Rattle.meaning.specs.declared.Place.TheVariants.{Variable, Cell}
use Rattle.meaning.specs.declared.Statement.{Statement}
use Rattle.meaning.specs.Machine.{Contents, cell_at, fetch, store, run_statement}
use Rattle.meaning.specs.Card.{operate_lanes}
use Rattle.memory.specs.Lent.{lent}
use Rattle.card.specs.Registers.{row_fetched, row_stored}
use Rattle.instructions.specs.declared.Instruction.{Instruction}
use Rattle.instructions.specs.declared.Instruction.TheVariants.{S, L, C, G, Copy, O, W, D, X}

-- "L, C, G and O each write a new register"
abbrev pub writes : Instruction → Bool
writes (S s) = false
writes (L r k a i) = true
writes (C r k c₀ c₁ c₂ c₃) = true
writes (G r k o₀ o₁ o₂ o₃) = true
writes (Copy r k ra) = true
writes (O r operation k ra rb) = true
writes (W r k a i) = false
writes (D r lane a i) = false
writes (X r lane v) = false

-- the lanes of the register that it writes: `first` and `second` are those that it reads
unfoldable pub lanes_after : List ℕ → Contents → List ℕ → List ℕ → Instruction → List ℕ
lanes_after lengths m first second (S s) = []
lanes_after lengths m first second (L r k a i) = take k (row_fetched (cell_at lengths a i) m.cells)
lanes_after lengths m first second (C r k c₀ c₁ c₂ c₃) = take k (c₀ ∷ c₁ ∷ c₂ ∷ c₃ ∷ [])
lanes_after lengths m first second (G r k o₀ o₁ o₂ o₃) = take k (map (fetch lengths m) (o₀ ∷ o₁ ∷ o₂ ∷ o₃ ∷ []))
lanes_after lengths m first second (Copy r k ra) = operate_lanes 0 first []
lanes_after lengths m first second (O r operation k ra rb) = operate_lanes operation first second
lanes_after lengths m first second (W r k a i) = []
lanes_after lengths m first second (D r lane a i) = []
lanes_after lengths m first second (X r lane v) = []

-- the contents afterwards
unfoldable pub contents_after : List ℕ → Statement → List ℕ → Instruction → Contents → Contents
contents_after lengths s first (S number) m = run_statement lengths s m
contents_after lengths s first (L r k a i) m = m
contents_after lengths s first (C r k c₀ c₁ c₂ c₃) m = m
contents_after lengths s first (G r k o₀ o₁ o₂ o₃) m = m
contents_after lengths s first (Copy r k ra) m = m
contents_after lengths s first (O r operation k ra rb) m = m
contents_after lengths s first (W r k a i) m = lent m.variables (row_stored k (cell_at lengths a i) first m.cells)
contents_after lengths s first (D r lane a i) m = store lengths (Cell a i) (get_or first lane 0) m
contents_after lengths s first (X r lane v) m = store lengths (Variable v) (get_or first lane 0) m
