-- `comparing::fields::wanted` meets its contract. Assumes nothing.
use Rattle.std.proofs.Common.{le-leb}
use borrow.Author.Tests.{lt-leb}
use Rattle.comparing.specs.Fields.{field_in}
use Rattle.comparing.proofs.fields.wanted.Goals as goal

pub returns-then-k-lt14 : goal.returns-then-k-lt14
unfolding field_in
returns-then-k-lt14 c = rw (lt-leb 14 c.args.k c.if-k-lt14.true) c.decimal.ensures

pub returns : goal.returns
unfolding field_in
returns c = rw (le-leb 14 c.args.k c.if-k-lt14.false) c.hexadecimal.ensures
