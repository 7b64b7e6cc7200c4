-- `client::may_idle` meets its contract. Assumes nothing.
use Rattle.client.specs.Client.{may_idle}
use Rattle.numbers.specs.Words.{when◌then◌else◌}
use borrow.Author.Tests.{lt-ltb, le-ltb}
use Rattle.client.proofs.may_idle.Goals as goal

pub returns-then-not-replicas_ok : goal.returns-then-not-replicas_ok
unfolding may_idle when◌then◌else◌
returns-then-not-replicas_ok c = rw (← c.replicas_ok.ensures, c.if-not-replicas_ok.true)

pub returns-then-room-resend_len : goal.returns-then-room-resend_len
unfolding may_idle when◌then◌else◌
returns-then-room-resend_len c = rw (← c.replicas_ok.ensures, c.if-not-replicas_ok.false, ← c.resend_len.ensures, lt-ltb _ _ c.if-room-resend_len.true)

pub returns : goal.returns
unfolding may_idle when◌then◌else◌
returns c = rw (← c.replicas_ok.ensures, c.if-not-replicas_ok.false, ← c.resend_len.ensures, le-ltb _ _ c.if-room-resend_len.false)
