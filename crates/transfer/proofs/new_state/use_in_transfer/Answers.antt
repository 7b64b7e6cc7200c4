-- `transfer::new_state::use_in_transfer` meets its contract. Assumes nothing.
use Rattle.transfer.proofs.NewStateLaws.{starts-past, ends-inside, fills}
use Rattle.transfer.proofs.new_state.use_in_transfer.Goals as goal

pub returns-then-s-p : goal.returns-then-s-p
returns-then-s-p c = starts-past c.args.s c.args.p c.if-s-p.true

pub returns-then-p-s : goal.returns-then-p-s
returns-then-p-s c =
    ends-inside c.args.s
    c.args.p c.if-s-p.false c.if-p-s.true

pub returns : goal.returns
returns c =
    fills c.args.s c.args.p
    c.if-s-p.false c.if-p-s.false
