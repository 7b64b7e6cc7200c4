-- `whitherhaul::replicas::may_be_usual` meets its contract. Assumes nothing.
use Rattle.whitherhaul.proofs.ReplicaLaws.{may-short, may-long}
use Rattle.whitherhaul.proofs.replicas.may_be_usual.Goals as goal

pub returns-then-frame-lt7 : goal.returns-then-frame-lt7
returns-then-frame-lt7 c = let a = c.args in may-short a.quiet a.frame.now c.if-frame-lt7.true

pub returns : goal.returns
returns c = let a = c.args in may-long a.quiet a.frame.now c.if-frame-lt7.false
