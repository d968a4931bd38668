-- What `rows::Walk` gives from its start to its end: the members of its set.
use mathlib.Core.Path.{◌≡◌, ap, ◌∙◌}
use mathlib.Core.Bool.{true}
use mathlib.Core.List.{List}
use Prim.Native.Nat.{ℕ}
use Rattle.std.specs.Iterator.{YieldsFirst}
use Rattle.std.specs.Iterator.Runs.{Run}
use Rattle.std.proofs.iter.Rest.{run_of_first}
use Rattle.rows.specs.Walk.{members}
use Rattle.rows.specs.declared.Walk.{Walk}

-- what a walk has yet to give
abbrev pub to_come : Walk → List ℕ
to_come walk = members walk.rest

pub all_given : (set : ℕ) (start : Walk) (run : Run (YieldsFirst to_come)) → run.from ≡ start → run.whole ≡ true → start.rest ≡ set → run.items ≡ members set
all_given set start run from whole e = (run_of_first to_come run).1.4 whole ∙ ap to_come from ∙ ap members e
