-- `client::replied` meets its contract. Assumes nothing.
use Rattle.client.specs.Client.{raised_view, replied_of}
use Rattle.numbers.specs.Words.{when◌then◌else◌}
use Rattle.client.proofs.replied.Goals as goal

pub returns-then-not-replicas_ok : goal.returns-then-not-replicas_ok
unfolding replied_of when◌then◌else◌
returns-then-not-replicas_ok c = rw (← c.replicas_ok.ensures, c.if-not-replicas_ok.true)

pub returns : goal.returns
unfolding replied_of raised_view when◌then◌else◌
returns c = rw (← c.replicas_ok.ensures, c.if-not-replicas_ok.false, ← c.max.ensures, ← c.left_pending.ensures, ← c.answers.ensures)
