use Rattle.config.specs.Setup.{setup_ok}
use Rattle.numbers.specs.Words.{◌and◌}
use borrow.Author.Tests.{lt-ltb, le-ltb}
use Rattle.config.proofs.sizes_ok.Goals as goal

pub returns-then-not-replicas_ok : goal.returns-then-not-replicas_ok
unfolding setup_ok ◌and◌
returns-then-not-replicas_ok c = rw (← c.replicas_ok.ensures, c.if-not-replicas_ok.true)

pub returns-then-n-id : goal.returns-then-n-id
unfolding setup_ok ◌and◌
returns-then-n-id c = rw (← c.replicas_ok.ensures, c.if-not-replicas_ok.false, le-ltb _ _ c.if-n-id.true)

pub returns-then-not-timeout_ok : goal.returns-then-not-timeout_ok
unfolding setup_ok ◌and◌
returns-then-not-timeout_ok c = rw (← c.replicas_ok.ensures, c.if-not-replicas_ok.false, lt-ltb _ _ c.if-n-id.false, ← c.timeout_ok.ensures, c.if-not-timeout_ok.true)

pub returns-then-not-room_ok : goal.returns-then-not-room_ok
unfolding setup_ok ◌and◌
returns-then-not-room_ok c = rw (← c.replicas_ok.ensures, c.if-not-replicas_ok.false, lt-ltb _ _ c.if-n-id.false, ← c.timeout_ok.ensures, c.if-not-timeout_ok.false, ← c.room_ok.ensures, c.if-not-room_ok.true)

pub returns : goal.returns
unfolding setup_ok ◌and◌
returns c = rw (← c.replicas_ok.ensures, c.if-not-replicas_ok.false, lt-ltb _ _ c.if-n-id.false, ← c.timeout_ok.ensures, c.if-not-timeout_ok.false, ← c.room_ok.ensures, c.if-not-room_ok.false) c.room_ok-2.ensures
