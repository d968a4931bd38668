-- A number past the eight operations has the value 0.
use Rattle.std.proofs.Common.{◌≡◌, ℕ, ◌≤◌}
use lib.ListN.{get_or-eq_default}
use Rattle.meaning.specs.Machine.{operate}

pub past_operations : (operation a b : ℕ) → 8 ≤ operation → operate operation a b ≡ 0
unfolding operate
past_operations operation a b h = simp (get_or-eq_default)
