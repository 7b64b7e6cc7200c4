-- `transfer::new_state::use_in_change` meets its contract. Assumes nothing.
use Rattle.transfer.proofs.NewStateLaws.{voting, starts-elsewhere, installs}
use Rattle.transfer.proofs.new_state.use_in_change.Goals as goal

pub returns-then-not-s : goal.returns-then-not-s
returns-then-not-s c = voting c.args.s c.args.p c.if-not-s.true

pub returns-then-p-s : goal.returns-then-p-s
returns-then-p-s c =
    starts-elsewhere c.args.s c.args.p
    c.if-not-s.false c.if-p-s.true

pub returns : goal.returns
returns c =
    installs c.args.s c.args.p
    c.if-not-s.false c.if-p-s.false
