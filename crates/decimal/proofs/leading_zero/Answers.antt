-- `decimal::leading_zero` meets its contract. Assumes nothing.
use borrow.Author.Tests.{le-leb, lt-leb}
use lib.ListN.{length}
use Rattle.numbers.specs.Words.{◌and◌}
use Rattle.decimal.specs.Decimal.{leading_zero}
use Rattle.decimal.proofs.leading_zero.Goals as goal

pub returns-then-s-lt2 : goal.returns-then-s-lt2
unfolding leading_zero ◌and◌
returns-then-s-lt2 c = rw (lt-leb 2 (length c.args.s.now) c.if-s-lt2.true)

pub returns : goal.returns
unfolding leading_zero ◌and◌
returns c = rw (le-leb 2 (length c.args.s.now) c.if-s-lt2.false)
