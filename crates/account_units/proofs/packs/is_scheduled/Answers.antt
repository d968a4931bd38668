-- `packs::is_scheduled` meets its contract: it passes where the word is at one of the numbers.
use mathlib.Core.Path.{◌≡◌}
use Prim.Native.Nat.{ℕ, ◌<◌}
use borrow.Author.Rules.{rules}
use lib.ListN.{get_or}
use Rattle.std.proofs.iter.runs.Sources.{ranges}
use Rattle.std.specs.Bool.{MatchBool}
use Rattle.account_units.proofs.Turns.{among_found}
use Rattle.account_units.proofs.packs.is_scheduled.Goals as goal

pub returns : goal.returns
returns c =
    let found : MatchBool c.any.result ((k : ℕ) × (k < c.args.count) × (get_or c.args.scheduled.now k 0 ≡ c.args.word)) ((k : ℕ) → k < c.args.count → get_or c.args.scheduled.now k 0 ≡ c.args.word → ⊥) =
    search (rules, ranges) in
    among_found c.args.scheduled.now c.args.word c.args.count c.any.result found
