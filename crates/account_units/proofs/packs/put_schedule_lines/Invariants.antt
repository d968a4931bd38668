-- What holds at each turn of the loops of `account_units::packs.put_schedule_lines`.
use lib.ListN.{get_or}
use Rattle.account_units.specs.InTables.{word_line}
use Rattle.account_units.proofs.Telling.{Telling}
use Rattle.account_units.proofs.packs.put_schedule_lines.Given as goal

abbrev pub invariant-loop-i : goal.invariant-loop-i
invariant-loop-i l = Telling (λ k. word_line (get_or l.scheduled k 0)) l.count l.fn.out l.at l.out l.behind l.i
