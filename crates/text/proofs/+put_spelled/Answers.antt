-- `text::put_spelled` meets its contract: the digits in front, which are one place fewer, and then the last one.
use mathlib.Core.Path.{◌≡◌, sym, ap, ◌∙◌}
use mathlib.Core.List.{List, [], ◌∷◌, ◌++◌}
use Prim.Native.Nat.{ℕ, ◌-◌, ◌/◌, ◌%◌}
use Rattle.text.specs.Text.{letter, spelled}
use Rattle.text.proofs.Putting.{reads_as, both}
use Rattle.text.proofs.Spelling.{spelled_none, spelled_one, spelled_more}
use Rattle.text.proofs.+put_spelled.Goals.{then-places-eq0-via-then-places-eq0, then-places-eq0-via-else-places-eq0+then-n-lt10}
use Rattle.text.proofs.+put_spelled.Goals as goal

pub returns-then-places-eq0 : goal.returns-then-places-eq0
returns-then-places-eq0 t c =
    let alone : spelled c.args.places c.args.n ≡ letter (c.args.n % 10) ∷ [] =
    elim c.then-places-eq0.branch [
      | then-places-eq0-via-then-places-eq0 w ↦ spelled_none c.args.places c.args.n w.if-places-eq0.true
      | then-places-eq0-via-else-places-eq0+then-n-lt10 w ↦ spelled_one c.args.places c.args.n w.if-n-lt10.true
    ] in
    reads_as c.put.ensures (ap (λ (d : ℕ). d ∷ []) c.letter-last.ensures ∙ sym alone)

pub returns : goal.returns
returns t c =
    let front : List ℕ = spelled (c.args.places - 1) (c.args.n / 10) in
    reads_as (both c.put_spelled-behind.ensures c.put-2.ensures)
    (ap (λ (d : ℕ). front ++ d ∷ []) c.letter-last.ensures
    ∙ sym (spelled_more c.args.places c.args.n c.if-places-eq0.false c.if-n-lt10.false))
