-- What the records of L and W have in common.
use Rattle.std.specs.Prelude.{ℕ, List, Option, Some, None, ◌&&◌, eqb, length}
use Rattle.basics.specs.Choice.{pick}
use Rattle.meaning.specs.List.{field, lanes_fit}
use Rattle.instructions.specs.declared.Row.{Row}

-- "k not 2 or 4" is no row
abbrev pub row_read : List ℕ → Option Row
row_read bytes =
    pick (eqb (length bytes) 5 && lanes_fit (field 2 bytes))
    (Some (record { r = field 1 bytes; k = field 2 bytes; array = field 3 bytes; index = field 4 bytes }))
    None
