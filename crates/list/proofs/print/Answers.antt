-- `print` meets its contract: the lines are those of what was made.
use mathlib.Core.Path.{ap, ◌∙◌}
use Rattle.meaning.specs.Calls.{ListMade}
use Rattle.answers.specs.Lines.{list_lines}
use Rattle.list.proofs.print.Goals as goal

pub returns : goal.returns
returns c =
    record {
      text = c.put_lines-size.ensures.text ∙ ap list_lines c.make-made.ensures;
      within = c.put_lines-size.ensures.within;
      status = ap (λ (m : ListMade). m.status) c.make-made.ensures;
    }
