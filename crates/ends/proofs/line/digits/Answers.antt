-- `line::digits` meets its contract: a number of 64 bits has at most twenty digits.
use native.Mathlib.Omega.{arith}
use Rattle.text.proofs.Spelling.{length_decimal}
use Rattle.ends.proofs.line.digits.Goals as goal

pub returns : goal.returns
returns c = (c.digits.ensures, omega (arith, c.digits.ensures, length_decimal c.args.n))
