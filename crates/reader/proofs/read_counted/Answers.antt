-- `reader::read_counted` meets its contract: the counts, then the lengths, then the statements behind them.
use Rattle.reader.proofs.Blocks.{lengths_stopped, lengths_room, lengths_done}
use Rattle.meaning.specs.Refusals.{answered}
use Rattle.meaning.proofs.Handed.{handed_on}
use native.Mathlib.Omega.{arith}
use mathlib.Core.Path.{refl, sym, ap, ◌∙◌}
use Rattle.reader.proofs.read_counted.Goals as goal

pub returns-in_err-lengths : goal.returns-in_err-lengths
returns-in_err-lengths c =
    handed_on _ _ c.from_residual.ensures.1
    ∙ sym (lengths_stopped c.args.bytes.now (sym c.counts_fit.ensures ∙ c.if-not-counts_fit.false) _ refl _
    (sym c.read_lengths.ensures ∙ ap answered c.in_err-lengths.was))

pub slice_bounds-read_statements-count : goal.slice_bounds-read_statements-count
slice_bounds-read_statements-count c =
    omega (
      arith,
      c.from.ensures,
      lengths_room c.args.bytes.now (sym c.counts_fit.ensures ∙ c.if-not-counts_fit.false) _ refl _
          (sym c.read_lengths.ensures ∙ ap answered c.in_ok-lengths.was)
          c.requires,
    )

pub slice_bounds-read_statements-start : goal.slice_bounds-read_statements-start
slice_bounds-read_statements-start c =
    omega (
      arith,
      c.from.ensures,
      lengths_room c.args.bytes.now (sym c.counts_fit.ensures ∙ c.if-not-counts_fit.false) _ refl _
          (sym c.read_lengths.ensures ∙ ap answered c.in_ok-lengths.was)
          c.requires,
    )

pub returns : goal.returns
returns c =
    c.read_statements.ensures
    ∙ sym (lengths_done c.args.bytes.now (sym c.counts_fit.ensures ∙ c.if-not-counts_fit.false) _ refl _
    (sym c.read_lengths.ensures ∙ ap answered c.in_ok-lengths.was) _ (omega (arith, c.from.ensures)))
