-- `put_record` meets its contract: the line of an instruction, or of a record at fault.
use mathlib.Core.Path.{◌≡◌, sym, ap, ◌∙◌}
use Rattle.meaning.specs.Block.{statement}
use Rattle.instructions.specs.Meant.{read_meant}
use Rattle.text.proofs.Putting.{reads_as}
use Rattle.account_list.specs.Shown.{number_of, line_meant}
use Rattle.account_list.proofs.Said.{line_said, broken_said}
use Rattle.account_list.proofs.section.put_record.Goals as goal

pub returns-in_default : goal.returns-in_default
returns-in_default c =
    reads_as c.put_words.ensures (broken_said c.args.statements.now ∙ ap (λ read. line_meant c.args.statements.now (read_meant read)) (sym c.in_default.is))

pub returns : goal.returns
returns c =
    let named : c.at_or-statement.result ≡ statement c.args.statements.now (number_of c.in-Some.instruction) =
    c.at_or-statement.ensures ∙ rw (c.from-number.ensures, c.statement_number.ensures, c.no_statement.ensures) in
    reads_as c.put_line.ensures
    (line_said c.args.statements.now c.in-Some.instruction c.at_or-statement.result named
    ∙ ap (λ read. line_meant c.args.statements.now (read_meant read)) (sym c.in-Some.is))
