-- `packs::put_schedule_lines` meets its contract: each turn puts the next unit.
use mathlib.Core.Path.{ap}
use lib.ListN.{get_or}
use Rattle.units.specs.declared.Unit.{Unit as Lanes}
use Rattle.text.proofs.Putting.{reads_as}
use Rattle.account_units.specs.Lines.{numbers_line}
use Rattle.account_units.specs.InTables.{unit_numbers, word_line}
use Rattle.account_units.proofs.Telling.{tell, tell_next, tell_finish}
use Rattle.account_units.proofs.packs.put_schedule_lines.Goals as goal

pub loop-i-init : goal.loop-i-init
loop-i-init c =
    tell (λ k. word_line (get_or c.args.scheduled.now k 0))

pub loop-i-preserved : goal.loop-i-preserved
loop-i-preserved c =
    tell_next (λ k. word_line (get_or c.args.scheduled.now k 0)) c.loop-i.invariant c.loop-i-test.true
    (reads_as c.put_unit-behind.ensures (ap (λ (unit : Lanes). numbers_line (unit_numbers unit)) c.unit_at-unit.ensures))

pub returns : goal.returns
returns c =
    tell_finish (λ k. word_line (get_or c.args.scheduled.now k 0)) c.loop-i.invariant c.loop-i-test.false
