-- Rows and columns before their first statement, and with one statement more.
use mathlib.Core.Path.{◌≡◌, refl}
use mathlib.Core.List.{List}
use Prim.Native.Nat.{ℕ, ◌+◌}
use lib.ListN.{get_or, set, replicate}
use Rattle.std.specs.List.{fold}
use Rattle.rows.specs.Walk.{members}
use Rattle.rows.proofs.Walks.{walk_fold}
use Rattle.facts.proofs.Steps.{one_more}
use Rattle.basics.specs.Sets.{join}
use Rattle.meaning.specs.declared.Statement.{Statement}
use Rattle.meaning.specs.Block.{statement}
use Rattle.reach.specs.Rows.{direct_row, direct_rows, reached_from, reached_rows, define_operands, with_definitions, add_readers, with_readers}

pub direct_none : (ss : List Statement) (numbers writers lefts rights : List ℕ) → direct_rows ss 0 numbers writers lefts rights ≡ replicate 64 0
unfolding direct_rows
direct_none ss numbers writers lefts rights = refl

pub direct_more : (ss : List Statement) (n : ℕ) (numbers writers lefts rights : List ℕ)
    → direct_rows ss (n + 1) numbers writers lefts rights
    ≡ set (direct_rows ss n numbers writers lefts rights) n (direct_row (statement ss n) n numbers writers lefts rights)
unfolding direct_rows
direct_more ss n numbers writers lefts rights = one_more (λ i rows. set rows i (direct_row (statement ss i) i numbers writers lefts rights)) n (replicate 64 0)

pub reached_none : (direct : List ℕ) → reached_rows direct 0 ≡ replicate 64 0
unfolding reached_rows
reached_none direct = refl

pub reached_more : (direct : List ℕ) (n : ℕ)
    → reached_rows direct (n + 1) ≡ set (reached_rows direct n) n (reached_from (get_or direct n 0) (reached_rows direct n))
unfolding reached_rows
reached_more direct n = one_more (λ i reached. set reached i (reached_from (get_or direct i 0) reached)) n (replicate 64 0)

pub defined_none : (numbers writers facts : List ℕ) → with_definitions 0 numbers writers facts ≡ facts
unfolding with_definitions
defined_none numbers writers facts = refl

pub defined_more : (n : ℕ) (numbers writers facts : List ℕ)
    → with_definitions (n + 1) numbers writers facts ≡ define_operands numbers writers n (with_definitions n numbers writers facts)
unfolding with_definitions
defined_more n numbers writers facts = one_more (define_operands numbers writers) n facts

pub read_none : (facts : List ℕ) → with_readers 0 facts ≡ facts
unfolding with_readers
read_none facts = refl

pub read_more : (n : ℕ) (facts : List ℕ) → with_readers (n + 1) facts ≡ add_readers n (with_readers n facts)
unfolding with_readers
read_more n facts = one_more add_readers n facts

-- what paths lead to, as a fold over the members
pub reached_fold : (direct : ℕ) (reached : List ℕ)
    → reached_from direct reached ≡ fold (λ row e. join row (get_or reached e 0)) direct (members direct)
reached_fold direct reached = walk_fold direct (λ e row. join row (get_or reached e 0)) direct
