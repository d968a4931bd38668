-- The units that combination leaves waiting, in the order in which the schedule takes them.
use Rattle.std.specs.Prelude.{◌≡◌, ℕ, ◌≤◌, List, length, replicate}
use Rattle.combine.specs.Cutting.{Tables, tables, combined}
use Rattle.schedule.specs.Stages.{scheduled_tables}

-- the waiting units, from tables of 64 words
abbrev pub waiting_units : ℕ → List ℕ → List ℕ → List ℕ → ℕ → Tables
waiting_units n reached direct next rights = combined n reached direct next rights (tables (replicate 64 0) (replicate 64 0) 0)

pub record Ordered (n : ℕ) (reached direct next : List ℕ) (rights : ℕ) (before order : List ℕ) (size : ℕ) : Type 0 where
  pub units_long : 64 ≤ length (waiting_units n reached direct next rights).units
  pub needs_long : 64 ≤ length (waiting_units n reached direct next rights).needs
  pub words :
      let t = waiting_units n reached direct next rights in order ≡ (scheduled_tables n direct t.units t.needs t.waiting before).order
  pub sized :
      let t = waiting_units n reached direct next rights in size ≡ (scheduled_tables n direct t.units t.needs t.waiting before).size
