-- `reader::read_length` meets its contract: the two bytes are there, and the length is from 1 to 256.
use Rattle.reader.proofs.Next.{length_ends, said}
use mathlib.Core.Path.{sym, ◌∙◌}
use Rattle.reader.proofs.read_length.Goals as goal

pub returns-then-bytes-start : goal.returns-then-bytes-start
returns-then-bytes-start c = sym (length_ends c.args.bytes.now c.args.start c.if-bytes-start.true)

pub returns-then-length_fits : goal.returns-then-length_fits
returns-then-length_fits c =
    sym (said c.args.bytes.now c.args.start c.from_be_bytes-size.result c.if-bytes-start.false c.from_be_bytes-size.ensures
    ∙ rw (← c.length_fits.ensures, c.if-length_fits.true))

pub returns-else-length_fits : goal.returns-else-length_fits
returns-else-length_fits c =
    sym (said c.args.bytes.now c.args.start c.from_be_bytes-size.result c.if-bytes-start.false c.from_be_bytes-size.ensures
    ∙ rw (← c.length_fits.ensures, c.if-length_fits.false))
