-- The contents that two lent slices are together.
use Rattle.std.specs.Prelude.{ℕ, List}
use Rattle.meaning.specs.Machine.{Contents}

abbrev pub lent : List ℕ → List ℕ → Contents
lent variables cells = record { variables = variables; cells = cells }
