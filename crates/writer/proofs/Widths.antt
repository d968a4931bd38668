-- A record: how many bytes it has.
use mathlib.Core.Path.{◌≡◌}
use Prim.Native.Nat.{◌+◌}
use native.Mathlib.Omega.{arith}
use lib.ListN.{length}
use Rattle.meaning.specs.declared.Statement.{Statement}
use Rattle.meaning.specs.Format.{statement_width, record_bytes}
use Rattle.meaning.proofs.Lengths.{statement_length}

pub record_width : (s : Statement) → length (record_bytes s) ≡ 1 + statement_width s
record_width s = omega (arith, statement_length s)
