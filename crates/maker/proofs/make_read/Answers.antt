-- `maker::make_read` meets its contract.
use native.Mathlib.Omega.{arith}
use Rattle.basics.proofs.Mapped.{unmapped}
use Rattle.maker.proofs.Answers.{declared_count, buffer_long}
use borrow.Author.Rules.{rules}
use Rattle.maker.proofs.make_read.Goals as goal

pub write_packed-packed-requires : goal.write_packed-packed-requires
write_packed-packed-requires c =
    record {
      counted = declared_count c.args.block _ c.at_most-n.ensures (search (rules, unmapped));
      legal = c.requires;
      empty = c.empty-tables.ensures;
      room = omega (arith, buffer_long);
    }

pub choose-w-requires : goal.choose-w-requires
choose-w-requires c =
    record {
      legal = c.requires;
      counted = declared_count c.args.block _ c.at_most-n.ensures (search (rules, unmapped));
      stated = c.write_packed-packed.ensures.stated;
      room = omega (arith, buffer_long, c.write_packed-packed.auto.out);
      holds = c.write_packed-packed.ensures.holds;
      priced = c.block_price-price.ensures;
    }
