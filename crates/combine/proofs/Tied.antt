-- What combination leaves in the tables: the units of "Combination" wait.
use mathlib.Core.Path.{sym, subst}
use mathlib.Core.List.{List}
use Prim.Native.Nat.{ℕ, ◌≤◌}
use native.Mathlib.Omega.{arith}
use lib.ListN.{length}
use Rattle.meaning.specs.declared.Statement.{Statement}
use Rattle.meaning.specs.Pairs.{Pair}
use Rattle.meaning.specs.Combination.{combine}
use Rattle.theorems.proofs.Pairs.{Admitted}
use Rattle.theorems.proofs.Combination.{combined_units}
use Rattle.theorems.proofs.Waiting.{occurs_flat}
use Rattle.reach.specs.Tied.{Rowed}
use Rattle.reach.proofs.Reaching.{no_row}
use Rattle.pairs.specs.Tied.{Paired}
use Rattle.units.specs.Waiting.{Waits}
use Rattle.combine.specs.Cutting.{Tables, tables, combined}
use Rattle.combine.proofs.Waiting.{adds_wait}
use Rattle.combine.proofs.Cutting.{combined_adds}

-- Combination leaves its units waiting: each with its word and with all that it depends on, by its lowest number.
pub combined_waits : (ss : List Statement) (pairs : List Pair) (direct reached next : List ℕ) (rights : ℕ) → length ss ≤ 64 → Admitted ss pairs
    → Paired pairs next rights → Rowed ss direct reached → (table needs : List ℕ) → length ss ≤ length table → length ss ≤ length needs
    → let t = combined (length ss) reached direct next rights (tables table needs 0) in Waits direct (combine ss pairs) t.units t.needs t.waiting
combined_waits ss pairs direct reached next rights small known paired rowed table needs long long' =
    let made = combined_units ss pairs known in
    subst (λ (t : Tables). Waits direct (combine ss pairs) t.units t.needs t.waiting)
    (sym (combined_adds ss pairs direct reached next rights small known paired rowed (tables table needs 0)))
    (adds_wait ss small direct (no_row ss direct reached rowed 64 small) (combine ss pairs) made.fit
    (λ s below. omega (arith, made.once s below, occurs_flat s (combine ss pairs))) table needs long long')
