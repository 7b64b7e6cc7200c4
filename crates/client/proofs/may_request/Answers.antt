-- `client::may_request` meets its contract. Assumes nothing.
use Rattle.client.specs.Client.{may_request}
use Rattle.numbers.specs.Words.{when◌then◌else◌}
use borrow.Author.Tests.{lt-ltb, le-ltb, eq-eqb, ne_eqb}
use Rattle.client.proofs.may_request.Goals as goal

pub returns-then-not-replicas_ok : goal.returns-then-not-replicas_ok
unfolding may_request when◌then◌else◌
returns-then-not-replicas_ok c = rw (← c.replicas_ok.ensures, c.if-not-replicas_ok.true)

pub returns-then-not-operation_ok : goal.returns-then-not-operation_ok
unfolding may_request when◌then◌else◌
returns-then-not-operation_ok c = rw (← c.replicas_ok.ensures, c.if-not-replicas_ok.false, ← c.operation_ok.ensures, c.if-not-operation_ok.true)

pub returns-then-c-eq-LAST : goal.returns-then-c-eq-LAST
unfolding may_request when◌then◌else◌
returns-then-c-eq-LAST c = rw (← c.replicas_ok.ensures, c.if-not-replicas_ok.false, ← c.operation_ok.ensures, c.if-not-operation_ok.false, eq-eqb _ _ c.if-c-eq-LAST.true)

pub returns-then-room-lt39 : goal.returns-then-room-lt39
unfolding may_request when◌then◌else◌
returns-then-room-lt39 c = rw (← c.replicas_ok.ensures, c.if-not-replicas_ok.false, ← c.operation_ok.ensures, c.if-not-operation_ok.false, ne_eqb _ _ c.if-c-eq-LAST.false, lt-ltb _ _ c.if-room-lt39.true)

pub returns : goal.returns
unfolding may_request when◌then◌else◌
returns c = rw (← c.replicas_ok.ensures, c.if-not-replicas_ok.false, ← c.operation_ok.ensures, c.if-not-operation_ok.false, ne_eqb _ _ c.if-c-eq-LAST.false, le-ltb _ _ c.if-room-lt39.false)
