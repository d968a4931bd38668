-- `numbers::put_section` meets its contract: the heading, the lines, and that there is none.
use Rattle.account_units.proofs.Telling.{section_put}
use Rattle.account_units.proofs.numbers.put_section.Goals as goal

pub returns : goal.returns
returns g c = λ lines puts. section_put c.put_words-start.ensures (puts _ _ _ _ c.put_lines-behind.ensures) c.put_none.ensures
